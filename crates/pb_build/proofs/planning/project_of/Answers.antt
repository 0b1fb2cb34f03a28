use Rattle.std.proofs.Common.{subst, sym}
use Rattle.pb_build.proofs.InOrder.{in_order}
use Rattle.pb_workspace_types.specs.Settled.{IsSettled}
use Rattle.pb_workspace_types.specs.declared.workspace.Workspace.{Workspace}
use Rattle.pb_unit.specs.Plan.{IsPlan}
use Rattle.pb_build.proofs.planning.project_of.Goals as goal

pub new-requires : goal.new-requires
new-requires c =
    let (selection, chosen, featured, planned) = c.in-Ok.ensures.parts in
    in_order record { workspace = c.into_workspace-workspace.result; features = c.in-Ok.parts.0; plan = c.in-Ok.parts.1; profile = c.in-Ok-copy.profile } selection c.args.options.now.profile
    c.as_str.ensures.normal (subst IsSettled (sym c.into_workspace-workspace.ensures.value) c.into_workspace-workspace.ensures.settled) (sym c.in-Ok-copy.ensures)
    (subst (λ (ws : Workspace). IsPlan ws c.in-Ok.parts.0 selection c.args.options.now.profile c.in-Ok.parts.1) (sym c.into_workspace-workspace.ensures.value) planned) c.in-Ok.ensures.apart
