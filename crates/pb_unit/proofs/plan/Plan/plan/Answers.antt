use Rattle.std.proofs.Common.{◌≡◌, ◌∙◌, ap, inl, inr, List, ◌<◌, All, map, length, sym, subst, true, Ok, Err}
use Rattle.std.specs.List.{AllZip}
use Rattle.pb_workspace_types.specs.declared.workspace.Workspace.{Workspace}
use Rattle.pb_graph.specs.declared.graph.Step.{Step}
use Rattle.pb_profile.specs.Line.{seen}
use Rattle.pb_place_types.specs.Paths.{is_relative}
use Rattle.pb_unit.specs.declared.unit.Unit.{Unit}
use Rattle.pb_unit.specs.declared.plan.Planned.{Planned}
use Rattle.pb_unit.specs.declared.fault.PlanFault.{PlanFault}
use Rattle.pb_unit.specs.Drawing.{IsPlannedFrom}
use Rattle.pb_unit.specs.Plan.{AreWithoutLibrary, Refuses, by_profile, by_units, profile_folder, profile_line}
use Rattle.pb_unit.proofs.Drafting.{owners_there}
use Rattle.pb_unit.proofs.Planning.{steps_within, steps_relative, plan_is, apart_is}
use Rattle.pb_unit.proofs.plan.Plan.plan.Goals as goal

pub returns-in-Err-clause-refused : goal.returns-in-Err-clause-refused
returns-in-Err-clause-refused c = elim c.in-Err.ensures.refused [
  | inl memory ↦ inl memory
  | inr told ↦ inr (subst (λ (e : PlanFault). Refuses c.args.selected.now.workspace c.args.features.now c.args.selected.now.selection c.args.profile.now e) (sym told.1) (by_profile told.0 (subst (λ (ws : Workspace). profile_line ws c.args.profile.now ≡ Err told.0) c.workspace_of-workspace.ensures.value told.2)))
]

pub returns-in-Err-order_units-clause-refused : goal.returns-in-Err-order_units-clause-refused
returns-in-Err-order_units-clause-refused c = elim c.in-Err-order_units.ensures.stopped [
  | inl memory ↦ inl memory
  | inr stops ↦ inr (by_units c.in-Err-order_units.fault (record { line = map seen c.in-Ok.frame.line.items; is = subst (λ (ws : Workspace). profile_line ws c.args.profile.now ≡ Ok (map seen c.in-Ok.frame.line.items)) c.workspace_of-workspace.ensures.value c.in-Ok.ensures.line }) stops)
]

pub all_made-planned-requires-clause-nodes : goal.all_made-planned-requires-clause-nodes
all_made-planned-requires-clause-nodes c =
    subst (λ (l : List Step). All (λ (s : Step). s.node < length c.as_slice-units.result.now) l) (sym c.into_vec.ensures) (steps_within c.args.selected.now.workspace c.args.features.now c.args.selected.now.selection c.workspace_of-workspace.ensures.settled c.workspace_of-workspace.ensures.within _ _ _ c.in-Ok-draw_graph.ensures _ c.in-Ok-order_units.ensures.order _ c.as_slice-units.ensures)

pub all_made-planned-requires-clause-owners : goal.all_made-planned-requires-clause-owners
all_made-planned-requires-clause-owners c =
    subst (λ (ws : Workspace). All (λ (u : Unit). u.package < length ws.packages) c.as_slice-units.result.now) (sym c.workspace_of-workspace.ensures.value)
    (owners_there c.args.selected.now.workspace c.args.features.now c.args.selected.now.selection _ c.workspace_of-workspace.ensures.settled c.workspace_of-workspace.ensures.within c.in-Ok-draw_graph.ensures.candidates _ c.as_slice-units.ensures)

pub all_made-planned-requires-clause-names : goal.all_made-planned-requires-clause-names
all_made-planned-requires-clause-names c =
    subst (λ (l : List Step). All (λ (s : Step). is_relative s.key ≡ true) l) (sym c.into_vec.ensures) (steps_relative c.args.selected.now.workspace c.args.features.now c.args.selected.now.selection c.workspace_of-workspace.ensures.settled c.workspace_of-workspace.ensures.within _ _ _ c.in-Ok-draw_graph.ensures _ c.in-Ok-order_units.ensures.order)

pub returns-in-Ok-without_library-clause-plan : goal.returns-in-Ok-without_library-clause-plan
returns-in-Ok-without_library-clause-plan c =
    let line = map seen c.in-Ok.frame.line.items in
    let made : AllZip (IsPlannedFrom c.args.selected.now.workspace line c.in-Ok.frame.folder c.in-Ok-draw_graph.drawing.units) c.in-Ok-order_units.steps c.from_vec.result =
    subst (λ (l : List Planned). AllZip (IsPlannedFrom c.args.selected.now.workspace line c.in-Ok.frame.folder c.in-Ok-draw_graph.drawing.units) c.in-Ok-order_units.steps l) (sym c.from_vec.ensures)
    (subst (λ (s : List Step). AllZip (IsPlannedFrom c.args.selected.now.workspace line c.in-Ok.frame.folder c.in-Ok-draw_graph.drawing.units) s c.in_ok-planned.planned.items) c.into_vec.ensures
    (subst (λ (u : List Unit). AllZip (IsPlannedFrom c.args.selected.now.workspace line c.in-Ok.frame.folder u) c.into_vec.result.items c.in_ok-planned.planned.items) c.as_slice-units.ensures
    (subst (λ (ws : Workspace). AllZip (IsPlannedFrom ws line c.in-Ok.frame.folder c.as_slice-units.result.now) c.into_vec.result.items c.in_ok-planned.planned.items) c.workspace_of-workspace.ensures.value c.in_ok-planned.ensures))) in
    plan_is c.args.selected.now.workspace c.args.features.now c.args.selected.now.selection c.workspace_of-workspace.ensures.settled c.workspace_of-workspace.ensures.within _ _ _ c.in-Ok-draw_graph.ensures c.in-Ok-order_units.steps c.in-Ok-order_units.ensures.order line c.in-Ok.frame.folder c.from_vec.result made c.args.profile.now _
    (subst (λ (ws : Workspace). profile_line ws c.args.profile.now ≡ Ok line) c.workspace_of-workspace.ensures.value c.in-Ok.ensures.line) (c.in-Ok.ensures.folder ∙ ap (λ (ws : Workspace). profile_folder ws c.args.profile.now) c.workspace_of-workspace.ensures.value) c.in-Ok-order_units.ensures.some c.in-Ok-order_units.ensures.few
    (subst (λ (ws : Workspace). AreWithoutLibrary ws c.args.features.now c.in-Ok-without_library.without_library) c.workspace_of-workspace.ensures.value c.in-Ok-without_library.ensures)

pub returns-in-Ok-without_library-clause-apart : goal.returns-in-Ok-without_library-clause-apart
returns-in-Ok-without_library-clause-apart c =
    let line = map seen c.in-Ok.frame.line.items in
    let made : AllZip (IsPlannedFrom c.args.selected.now.workspace line c.in-Ok.frame.folder c.in-Ok-draw_graph.drawing.units) c.in-Ok-order_units.steps c.from_vec.result =
    subst (λ (l : List Planned). AllZip (IsPlannedFrom c.args.selected.now.workspace line c.in-Ok.frame.folder c.in-Ok-draw_graph.drawing.units) c.in-Ok-order_units.steps l) (sym c.from_vec.ensures)
    (subst (λ (s : List Step). AllZip (IsPlannedFrom c.args.selected.now.workspace line c.in-Ok.frame.folder c.in-Ok-draw_graph.drawing.units) s c.in_ok-planned.planned.items) c.into_vec.ensures
    (subst (λ (u : List Unit). AllZip (IsPlannedFrom c.args.selected.now.workspace line c.in-Ok.frame.folder u) c.into_vec.result.items c.in_ok-planned.planned.items) c.as_slice-units.ensures
    (subst (λ (ws : Workspace). AllZip (IsPlannedFrom ws line c.in-Ok.frame.folder c.as_slice-units.result.now) c.into_vec.result.items c.in_ok-planned.planned.items) c.workspace_of-workspace.ensures.value c.in_ok-planned.ensures))) in
    apart_is c.args.selected.now.workspace c.args.features.now c.args.selected.now.selection c.workspace_of-workspace.ensures.settled c.workspace_of-workspace.ensures.within _ _ _ c.in-Ok-draw_graph.ensures c.in-Ok-order_units.steps c.in-Ok-order_units.ensures.order line c.in-Ok.frame.folder c.from_vec.result made c.in-Ok.ensures.path
