use Rattle.std.proofs.Common.{◌≡◌, ◌++◌, drop}
use Rattle.std.specs.List.{flat_map}
use Rattle.pb_run.specs.UnitSteps.{key_at}
use Rattle.pb_run.proofs.landing.push_keys.Given as goal

abbrev pub invariant-loop-index : goal.invariant-loop-index
invariant-loop-index l = l.keys ++ flat_map (key_at l.project) (drop l.index-index l.indices) ≡ l.fn.keys ++ flat_map (key_at l.project) l.indices
