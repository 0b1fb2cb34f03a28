use Rattle.pb_manifest_laws.proofs.Shared.{shared_read}
use Rattle.pb_manifest_laws.proofs.Workspaces.{workspaces_read}
use Rattle.pb_manifest_laws.proofs.workspaces_say.Goals as goal

pub returns : goal.returns
returns c = record { entries = shared_read; workspaces = workspaces_read }
