use Rattle.pb_record.proofs.WholeLemmas.{says_numbered, not_numbered}
use Rattle.pb_record.proofs.read.read_numbered.Goals as goal

pub returns-in-Ok-Some : goal.returns-in-Ok-Some
returns-in-Ok-Some c = rw c.numbered_of.ensures (says_numbered c.in-Ok-Some.parts (rw c.in-Ok-Some.field-0-is at c.in-Ok-Some.ensures))

pub returns-in-Ok-None : goal.returns-in-Ok-None
returns-in-Ok-None c = not_numbered (rw c.in-Ok-None.field-0-is at c.in-Ok-None.ensures)
