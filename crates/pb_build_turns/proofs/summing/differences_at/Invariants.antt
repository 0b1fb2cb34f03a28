use Rattle.std.proofs.Common.{◌≡◌, ◌++◌, drop}
use Rattle.pb_build_turns.specs.Rows.{differences_at}
use Rattle.pb_build_turns.proofs.summing.differences_at.Given as goal

abbrev pub invariant-loop-index : goal.invariant-loop-index
invariant-loop-index l = l.found ++ differences_at l.reasons (drop l.index-index l.indices) ≡ differences_at l.reasons l.indices
