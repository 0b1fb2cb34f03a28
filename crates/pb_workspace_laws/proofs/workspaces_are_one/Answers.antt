use Rattle.pb_workspace_laws.proofs.One.{workspaces_are_one}
use Rattle.pb_workspace_laws.proofs.workspaces_are_one.Goals as goal

pub returns : goal.returns
returns c = workspaces_are_one
