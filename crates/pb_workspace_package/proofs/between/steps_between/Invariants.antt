use Rattle.std.proofs.Common.{◌≡◌, map, length}
use Rattle.pb_workspace_package.specs.Between.{steps_between}
use Rattle.pb_workspace_package.proofs.between.steps_between.Given as goal

abbrev pub invariant-loop-from : goal.invariant-loop-from
invariant-loop-from l = steps_between (map (λ name. name.now) l.from) (map (λ name. name.now) l.to) ≡ steps_between (map (λ name. name.now) l.names) (map (λ name. name.now) l.others)

abbrev pub decreases-loop-from : goal.decreases-loop-from
decreases-loop-from l = length l.from
