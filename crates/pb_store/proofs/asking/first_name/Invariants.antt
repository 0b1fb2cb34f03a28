use Rattle.std.proofs.Common.{◌≡◌, length}
use Rattle.pb_store.specs.Asking.{first_name}
use Rattle.pb_store.proofs.asking.first_name.Given as goal

abbrev pub invariant-loop-left : goal.invariant-loop-left
invariant-loop-left l = first_name l.pairs l.others ≡ first_name l.left l.right

abbrev pub decreases-loop-left : goal.decreases-loop-left
decreases-loop-left l = length l.left
