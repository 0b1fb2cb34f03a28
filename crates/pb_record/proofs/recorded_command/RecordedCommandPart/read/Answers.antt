use Rattle.pb_record.proofs.WholeLemmas.{not_asked}
use Rattle.pb_record.proofs.recorded_command.RecordedCommandPart.read.Goals as goal

pub returns-in-Ok-None : goal.returns-in-Ok-None
returns-in-Ok-None c = not_asked (rw c.in-Ok-None.field-0-is at c.in-Ok-None.ensures)
