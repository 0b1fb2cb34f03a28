use Rattle.pb_record.proofs.InputLemmas.{no_tree}
use Rattle.pb_record.proofs.inputs.tree_at.Goals as goal

pub returns-in-Ok-None : goal.returns-in-Ok-None
returns-in-Ok-None c = no_tree (rw c.in-Ok-None.field-0-is at c.in-Ok-None.ensures)
