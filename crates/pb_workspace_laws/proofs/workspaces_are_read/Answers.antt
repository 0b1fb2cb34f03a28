use Rattle.pb_workspace_laws.proofs.Whole.{workspaces_are_read}
use Rattle.pb_workspace_laws.proofs.workspaces_are_read.Goals as goal

pub returns : goal.returns
returns c = workspaces_are_read
