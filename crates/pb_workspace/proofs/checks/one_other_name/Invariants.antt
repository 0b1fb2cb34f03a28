use Rattle.std.proofs.Common.{◌≡◌, drop}
use Rattle.std.specs.List.{list_any}
use Rattle.pb_workspace_package.specs.declared.wanted.Wanted.{Wanted}
use Rattle.pb_workspace.specs.Checks.{has_other_name}
use Rattle.pb_workspace.specs.Indices.{draft_in}
use Rattle.pb_workspace.proofs.checks.one_other_name.Given as goal

abbrev pub invariant-loop-one : goal.invariant-loop-one
invariant-loop-one l = list_any (λ (w : Wanted). has_other_name w (draft_in l.drafts w.folder)) (drop l.one-index l.wanted) ≡ list_any (λ (w : Wanted). has_other_name w (draft_in l.drafts w.folder)) l.wanted
