use Rattle.pb_record.proofs.ReadingLemmas.{reading, reading_reads}
use Rattle.pb_record.proofs.laws.texts_have_a_reading.Goals as goal

pub returns : goal.returns
returns c = (reading, reading_reads)
