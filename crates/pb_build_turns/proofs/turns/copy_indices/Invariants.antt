use Rattle.std.proofs.Common.{◌≡◌, ◌++◌, drop}
use Rattle.pb_build_turns.proofs.turns.copy_indices.Given as goal

abbrev pub invariant-loop-index : goal.invariant-loop-index
invariant-loop-index l = l.items ++ drop l.index-index l.indices ≡ l.indices
