use Rattle.pb_command_laws.proofs.Having.{compiles_have}
use Rattle.pb_command_laws.proofs.compiles_have.Goals as goal

pub returns : goal.returns
returns c = compiles_have
