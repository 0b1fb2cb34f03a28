use Rattle.std.proofs.Common.{◌≡◌, Ok, List, ℕ, subst}
use Rattle.pb_build.proofs.Refusals.{Stops, unselected, unresolved, unplanned}
use Rattle.pb_build.specs.Planning.{IsFeatured}
use Rattle.pb_build.specs.Private.{IsRefusedOf}
use Rattle.pb_workspace_types.specs.declared.workspace.Workspace.{Workspace}
use Rattle.pb_unit.specs.Plan.{IsPlan}
use Rattle.pb_workspace.specs.Selected.{selected}
use Rattle.pb_build.proofs.planning.parts_of.Goals as goal

pub returns-in-Err-clause-refused : goal.returns-in-Err-clause-refused
returns-in-Err-clause-refused c = unselected c.args.options.now c.args.workspace.now c.in-Err.fault c.in-Err.ensures.refused

pub returns-in-Err-resolve_features-clause-refused : goal.returns-in-Err-resolve_features-clause-refused
returns-in-Err-resolve_features-clause-refused c =
    subst (λ (ws : Workspace). IsRefusedOf c.args.options.now ws c.in-Err-resolve_features.fault) c.in-Ok.ensures.workspace
    (unresolved c.args.options.now c.in-Ok.chosen.workspace c.in-Ok.chosen.selection c.in-Err-resolve_features.fault c.in-Ok.ensures.ok c.in-Err-resolve_features.ensures.refused)

pub returns-clause-refused : goal.returns-clause-refused
returns-clause-refused c =
    subst (λ (ws : Workspace). IsRefusedOf c.args.options.now ws c.in-Err-plan_of.fault) c.in-Ok.ensures.workspace
    (unplanned c.args.options.now c.in-Ok.chosen.workspace c.in-Ok.chosen.selection c.in-Ok-resolve_features.features c.in-Err-plan_of.fault c.in-Ok.ensures.ok c.in-Ok-resolve_features.ensures.featured
    (subst (λ (asked : List ℕ). Stops c.in-Ok.chosen.workspace c.in-Ok.chosen.selection c.in-Ok-resolve_features.features asked c.in-Err-plan_of.fault) c.as_str.ensures c.in-Err-plan_of.ensures.refused))

pub returns-in-Ok-plan_of-clause-parts : goal.returns-in-Ok-plan_of-clause-parts
returns-in-Ok-plan_of-clause-parts c = (
  c.in-Ok.chosen.selection,
  subst (λ (ws : Workspace). selected ws c.args.options.now ≡ Ok c.in-Ok.chosen.selection) c.in-Ok.ensures.workspace c.in-Ok.ensures.ok,
  subst (λ (ws : Workspace). IsFeatured ws c.in-Ok.chosen.selection c.in-Ok-resolve_features.features) c.in-Ok.ensures.workspace c.in-Ok-resolve_features.ensures.featured,
  subst (λ (ws : Workspace). IsPlan ws c.in-Ok-resolve_features.features c.in-Ok.chosen.selection c.args.options.now.profile c.in-Ok-plan_of.plan) c.in-Ok.ensures.workspace
      (subst (λ (asked : List ℕ). IsPlan c.in-Ok.chosen.workspace c.in-Ok-resolve_features.features c.in-Ok.chosen.selection asked c.in-Ok-plan_of.plan) c.as_str.ensures c.in-Ok-plan_of.ensures.planned),
)
