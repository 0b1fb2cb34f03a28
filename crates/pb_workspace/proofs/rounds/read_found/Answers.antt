use Rattle.pb_workspace.proofs.Promised.{is_promised}
use Rattle.pb_workspace.proofs.rounds.read_found.Goals as goal

pub returns-in-Ok-clause-promised : goal.returns-in-Ok-clause-promised
returns-in-Ok-clause-promised c = is_promised _ _ c.in-Ok.ensures
