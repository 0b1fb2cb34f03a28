use Rattle.pb_build_turns.proofs.Repeating.{starts_none_again}
use Rattle.pb_build_turns.proofs.laws.same_build_starts_none.Goals as goal

pub returns : goal.returns
returns g c = starts_none_again g.T.Turn.turns
