use Rattle.pb_workspace.proofs.Fuel.{enough}
use Rattle.pb_workspace.proofs.laws.rounds_are_enough.Goals as goal

pub returns : goal.returns
returns c = enough
