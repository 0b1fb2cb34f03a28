use Rattle.std.proofs.Common.{◌≡◌, ◌++◌, map}
use Rattle.std.specs.Prelude.{codes, replicate}
use Rattle.pb_workspace_package.proofs.between.add_upward.Given as goal

abbrev pub invariant-loop-done : goal.invariant-loop-done
invariant-loop-done l = map (λ step. step.now) l.steps.items ≡ map (λ step. step.now) l.fn.steps.items ++ replicate l._done (codes "..")
