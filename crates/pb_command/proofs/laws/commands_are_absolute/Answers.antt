use Rattle.pb_command.proofs.Absolute.{absolute}
use Rattle.pb_command.proofs.laws.commands_are_absolute.Goals as goal

pub returns : goal.returns
returns c = absolute
