use Rattle.pb_record.proofs.ReadingLemmas.{reading, reading_reads}
use Rattle.pb_store.proofs.Writing.{read_as_some}
use Rattle.pb_store.proofs.store.read_text.Goals as goal

pub returns-in_ok-found-in-Some : goal.returns-in_ok-found-in-Some
returns-in_ok-found-in-Some c = read_as_some reading _ _ _ _ reading_reads c.in-Some.is c.as_slice.ensures c.in_ok-found-in-Some.ensures.reads
