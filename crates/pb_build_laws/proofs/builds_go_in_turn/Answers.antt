use Rattle.pb_build_laws.proofs.Turning.{go_in_turn}
use Rattle.pb_build_laws.proofs.builds_go_in_turn.Goals as goal

pub returns : goal.returns
returns c = go_in_turn
