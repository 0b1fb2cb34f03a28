use Rattle.std.proofs.Common.{◌≡◌, drop}
use Rattle.std.specs.List.{list_any}
use Rattle.pb_workspace_package.specs.declared.unresolved_package.UnresolvedPackage.{UnresolvedPackage}
use Rattle.pb_workspace_package.specs.declared.wanted.Wanted.{Wanted}
use Rattle.pb_workspace.specs.Checks.{has_other_name, some_leads}
use Rattle.pb_workspace.specs.Indices.{draft_in}
use Rattle.pb_workspace.proofs.checks.some_other_name.Given as goal

abbrev pub invariant-loop-draft : goal.invariant-loop-draft
invariant-loop-draft l = list_any (λ (d : UnresolvedPackage). list_any (λ (w : Wanted). has_other_name w (draft_in l.drafts w.folder)) d.wanted) (drop l.draft-index l.drafts) ≡ some_leads has_other_name l.drafts
