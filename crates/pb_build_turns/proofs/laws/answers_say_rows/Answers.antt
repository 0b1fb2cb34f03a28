use Rattle.pb_build_turns.proofs.Finishing.{says_first_rows}
use Rattle.pb_build_turns.proofs.laws.answers_say_rows.Goals as goal

pub returns : goal.returns
returns c = says_first_rows
