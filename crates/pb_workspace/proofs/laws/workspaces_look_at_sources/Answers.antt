use Rattle.pb_workspace.proofs.Accepted.{same_read}
use Rattle.pb_workspace.proofs.laws.workspaces_look_at_sources.Goals as goal

pub returns : goal.returns
returns c = same_read
