use Rattle.pb_record.proofs.ReadingLemmas.{reading_reads}
use Rattle.pb_store_soundness.proofs.laws.records_have_a_reading.Goals as goal

pub returns : goal.returns
returns c = reading_reads
