use Rattle.std.proofs.Common.{◌∙◌, ap}
use Rattle.std.specs.Prelude.{option_map}
use Rattle.pb_record.specs.Numbers.{numbers_of}
use Rattle.pb_record.proofs.ReadingLemmas.{reading, reading_reads}
use Rattle.pb_store.proofs.opening.numbers_in.Goals as goal

pub returns-in_ok-found-in-Some : goal.returns-in_ok-found-in-Some
returns-in_ok-found-in-Some c = rw c.in-Some.is (c.in_ok-found-in-Some.ensures reading reading_reads ∙ ap (λ text. option_map numbers_of (reading text)) c.as_slice.ensures)
