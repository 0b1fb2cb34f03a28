use Rattle.pb_command_laws.proofs.Running.{runs_have}
use Rattle.pb_command_laws.proofs.runs_have.Goals as goal

pub returns : goal.returns
returns c = runs_have
