use Rattle.pb_command_laws.proofs.Starting.{compiles_start, runs_start}
use Rattle.pb_command_laws.proofs.commands_start.Goals as goal

pub returns : goal.returns
returns c = record { compiles = compiles_start; runs = runs_start }
