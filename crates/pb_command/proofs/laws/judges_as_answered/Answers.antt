use Rattle.pb_command.proofs.Judged.{judges_as_answered}
use Rattle.pb_command.proofs.laws.judges_as_answered.Goals as goal

pub returns : goal.returns
returns c = judges_as_answered
