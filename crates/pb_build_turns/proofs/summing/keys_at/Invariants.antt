use Rattle.std.proofs.Common.{◌≡◌, ◌++◌, drop}
use Rattle.pb_build_turns.specs.Rows.{keys_at}
use Rattle.pb_build_turns.proofs.summing.keys_at.Given as goal

abbrev pub invariant-loop-index : goal.invariant-loop-index
invariant-loop-index l = l.keys ++ keys_at l.units (drop l.index-index l.indices) ≡ keys_at l.units l.indices
