use Rattle.pb_record.specs.Grammar.{asked_bytes}
use Rattle.pb_record.specs.Parts.{IsAsked}
use Rattle.pb_record.specs.Whole.{asked_of}
use Rattle.pb_record.proofs.SkipLemmas.{some_as}
use Rattle.pb_record.proofs.WholeLemmas.{asked_stands, not_asked}
use Rattle.pb_record.proofs.recorded_command.RecordedCommandPart.skip.Goals as goal

pub returns-in-Ok-Some : goal.returns-in-Ok-Some
returns-in-Ok-Some c = some_as IsAsked asked_bytes asked_of asked_stands (rw c.in-Ok-Some.field-0-is at c.in-Ok-Some.ensures)

pub returns-in-Ok-None : goal.returns-in-Ok-None
returns-in-Ok-None c = not_asked (rw c.in-Ok-None.field-0-is at c.in-Ok-None.ensures)
