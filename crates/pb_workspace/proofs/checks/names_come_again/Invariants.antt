use Rattle.std.proofs.Common.{◌≡◌, drop, map}
use Rattle.pb_workspace_package.specs.declared.unresolved_package.UnresolvedPackage.{UnresolvedPackage}
use Rattle.pb_workspace_package.specs.Settling.{comes_again}
use Rattle.pb_workspace.proofs.checks.names_come_again.Given as goal

abbrev pub invariant-loop-draft : goal.invariant-loop-draft
invariant-loop-draft l = comes_again l.seen (map (λ (d : UnresolvedPackage). d.name) (drop l.draft-index l.drafts)) ≡ comes_again l.fn.seen (map (λ (d : UnresolvedPackage). d.name) l.drafts)
