use Rattle.std.proofs.Common.{◌≡◌, take}
use Rattle.pb_build_turns.specs.Rows.{kept_of}
use Rattle.pb_build_turns.proofs.summing.kept_of.Given as goal

abbrev pub invariant-loop-index : goal.invariant-loop-index
invariant-loop-index l = l.kept ≡ kept_of (take l.index l.units) (take l.index l.reasons)
