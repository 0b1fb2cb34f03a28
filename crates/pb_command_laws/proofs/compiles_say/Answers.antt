use Rattle.pb_command_laws.proofs.Compile.{compiles_say}
use Rattle.pb_command_laws.proofs.compiles_say.Goals as goal

pub returns : goal.returns
returns c = compiles_say
