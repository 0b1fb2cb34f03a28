use Rattle.pb_command.proofs.Rising.{commands_rise}
use Rattle.pb_command.proofs.laws.pairs_rise.Goals as goal

pub returns : goal.returns
returns c = commands_rise
