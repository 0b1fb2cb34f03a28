use Rattle.pb_record.proofs.WholeLemmas.{says_copied, not_copied}
use Rattle.pb_record.proofs.read.read_copied.Goals as goal

pub returns-in-Ok-Some : goal.returns-in-Ok-Some
returns-in-Ok-Some c = rw c.copied_of.ensures (says_copied c.in-Ok-Some.parts (rw c.in-Ok-Some.field-0-is at c.in-Ok-Some.ensures))

pub returns-in-Ok-None : goal.returns-in-Ok-None
returns-in-Ok-None c = not_copied (rw c.in-Ok-None.field-0-is at c.in-Ok-None.ensures)
