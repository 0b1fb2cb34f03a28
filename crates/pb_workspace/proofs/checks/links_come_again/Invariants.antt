use Rattle.std.proofs.Common.{◌≡◌, drop}
use Rattle.std.specs.List.{filter_map}
use Rattle.pb_workspace_package.specs.declared.unresolved_package.UnresolvedPackage.{UnresolvedPackage}
use Rattle.pb_workspace_package.specs.Settling.{comes_again}
use Rattle.pb_workspace.proofs.checks.links_come_again.Given as goal

abbrev pub invariant-loop-draft : goal.invariant-loop-draft
invariant-loop-draft l = comes_again l.seen (filter_map (λ (d : UnresolvedPackage). d.links) (drop l.draft-index l.drafts)) ≡ comes_again l.fn.seen (filter_map (λ (d : UnresolvedPackage). d.links) l.drafts)
