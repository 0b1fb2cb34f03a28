use Rattle.std.proofs.Common.{◌≡◌, ◌++◌, drop, map}
use Rattle.pb_workspace_package.proofs.between.add_names.Given as goal

abbrev pub invariant-loop-name : goal.invariant-loop-name
invariant-loop-name l = map (λ step. step.now) l.steps.items ++ map (λ name. name.now) (drop l.name-index l.names) ≡ map (λ step. step.now) l.fn.steps.items ++ map (λ name. name.now) l.names
