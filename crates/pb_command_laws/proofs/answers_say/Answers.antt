use Rattle.pb_command_laws.proofs.Judged.{answers_say}
use Rattle.pb_command_laws.proofs.answers_say.Goals as goal

pub returns : goal.returns
returns c = answers_say
