use Rattle.pb_command.proofs.Rising.{last_counts}
use Rattle.pb_command_environment.specs.Pairs.{composed}
use Rattle.pb_command.proofs.laws.last_values_count.Goals as goal

pub returns : goal.returns
returns c setup project unit done p name = last_counts (composed setup project unit done p) name
