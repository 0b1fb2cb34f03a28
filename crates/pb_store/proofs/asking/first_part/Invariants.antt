use Rattle.std.proofs.Common.{take}
use Rattle.std.specs.List.{AllByRecursion}
use Rattle.pb_store.specs.Asking.{SamePart, parts}
use Rattle.pb_store.proofs.asking.first_part.Given as goal

abbrev pub invariant-loop-part : goal.invariant-loop-part
invariant-loop-part l = AllByRecursion (SamePart l.asked l.command) (take l.part-index parts)
