use Rattle.pb_workspace_laws.proofs.Whole.{all_are_settled}
use Rattle.pb_workspace_laws.proofs.all_are_settled.Goals as goal

pub returns : goal.returns
returns c = all_are_settled
