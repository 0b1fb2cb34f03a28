use Rattle.std.proofs.Common.{◌∙◌, subst}
use Rattle.pb_workspace_types.specs.declared.options.Selection.{Selection}
use Rattle.pb_workspace_types.specs.declared.workspace.Workspace.{Workspace}
use Rattle.pb_unit.specs.Drawing.{AreCandidates}
use Rattle.pb_unit.proofs.Drafting.{owners_few}
use Rattle.pb_unit.proofs.drawing.draw_graph.Goals as goal

pub nodes_of-requires : goal.nodes_of-requires
nodes_of-requires c =
    let are : AreCandidates c.args.selected.now.workspace c.args.features.now c.args.selected.now.selection c.in_ok-units.units.items =
    subst (λ (ws : Workspace). AreCandidates ws c.args.features.now c.args.selected.now.selection c.in_ok-units.units.items) (c.get.ensures.value ∙ c.workspace-workspace.ensures.value)
    (subst (λ (s : Selection). AreCandidates c.get.result.now c.args.features.now s c.in_ok-units.units.items) c.selection.ensures.value c.in_ok-units.ensures) in
    owners_few c.args.selected.now.workspace c.args.features.now c.args.selected.now.selection _ c.workspace-workspace.ensures.settled c.selection.ensures.within are _ c.as_slice.ensures.value
