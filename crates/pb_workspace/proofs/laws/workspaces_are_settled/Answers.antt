use Rattle.pb_workspace.proofs.Accepted.{names_apart, target_kept, root_kept}
use Rattle.pb_workspace.proofs.laws.workspaces_are_settled.Goals as goal

pub returns : goal.returns
returns c = record {
  names = names_apart;
  target = target_kept;
  root = root_kept;
}
