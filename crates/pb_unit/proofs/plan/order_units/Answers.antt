use Rattle.std.proofs.Common.{◌≡◌, ◌⊎◌, inr, length, subst, sym, ◌∙◌}
use Rattle.std.proofs.lemmas.Bool.Decides.{Decides-eqb}
use Rattle.pb_workspace_types.specs.declared.workspace.Workspace.{Workspace}
use Rattle.pb_unit.specs.declared.fault.PlanFault.TheVariants.{OutOfMemory}
use Rattle.pb_unit.specs.Drawing.{IsRefusal}
use Rattle.pb_unit.specs.Plan.{by_nothing}
use Rattle.pb_unit.proofs.Planning.{graph_is, roots_in, stops, order_lent, nothing_is}
use Rattle.pb_unit.proofs.plan.order_units.Goals as goal

pub order-requires-clause-graph : goal.order-requires-clause-graph
order-requires-clause-graph c = graph_is c.args.selected.now.workspace c.args.features.now c.args.selected.now.selection c.workspace_of-workspace.ensures.settled c.workspace_of-workspace.ensures.within _ _ _ c.requires _ c.as_slice-nodes.ensures

pub order-requires-clause-roots : goal.order-requires-clause-roots
order-requires-clause-roots c = roots_in c.args.selected.now.workspace c.args.features.now c.args.selected.now.selection c.workspace_of-workspace.ensures.settled c.workspace_of-workspace.ensures.within _ _ _ c.requires _ _ c.as_slice-nodes.ensures c.as_slice.ensures

pub returns-in-Err-clause-stopped : goal.returns-in-Err-clause-stopped
returns-in-Err-clause-stopped c =
    stops c.args.selected.now.workspace c.args.features.now c.args.selected.now.selection c.workspace_of-workspace.ensures.settled c.workspace_of-workspace.ensures.within _ _ _ c.requires _ _ _ _ _ c.as_slice-nodes.ensures c.as_slice.ensures c.as_slice-in-Err.ensures c.in-Err.ensures.why
    (subst (λ (ws : Workspace). (c.refusal.result ≡ OutOfMemory) ⊎ IsRefusal ws c.as_slice-in-Err.result.now c.in-Err.fault c.refusal.result) c.workspace_of-workspace.ensures.value c.refusal.ensures)

pub returns-then-is_empty-clause-stopped : goal.returns-then-is_empty-clause-stopped
returns-then-is_empty-clause-stopped c =
    let none : length c.in-Ok.steps ≡ 0 = (Decides-eqb _ 0).0 (sym c.is_empty.ensures ∙ c.if-is_empty.true) in
    let is = order_lent c.args.selected.now.workspace c.args.features.now c.args.selected.now.selection c.workspace_of-workspace.ensures.settled c.workspace_of-workspace.ensures.within _ _ _ c.requires _ _ _ c.as_slice-nodes.ensures c.as_slice.ensures c.in-Ok.ensures.order in
    inr (by_nothing (nothing_is c.args.selected.now.workspace c.args.features.now c.args.selected.now.selection c.workspace_of-workspace.ensures.settled c.workspace_of-workspace.ensures.within _ _ _ c.requires _ is none))
