use Rattle.pb_store.specs.Asking.{SamePart, parts}
use Rattle.pb_store.specs.declared.difference.CommandPart.TheVariants.{Program}
use Rattle.pb_store.proofs.Firsts.{row_fails}
use Rattle.pb_store.proofs.asking.first_part.Goals as goal

pub returns-then-not-is_same_part : goal.returns-then-not-is_same_part
returns-then-not-is_same_part c = row_fails (SamePart c.args.asked.now c.args.command.now) parts c.loop-part.part-index Program c.loop-part-test.true _ c.loop-part.invariant c.is_same_part.ensures c.if-not-is_same_part.true
