use Rattle.std.proofs.Common.{◌≡◌, ◌++◌, drop}
use Rattle.pb_workspace.specs.Selected.{indices_from, members_of}
use Rattle.pb_workspace.proofs.selecting.members_of.Given as goal

abbrev pub invariant-loop-index : goal.invariant-loop-index
invariant-loop-index l = l.indices ++ indices_from (λ p. p.is_member) l.index (drop l.index l.packages) ≡ members_of l.packages
