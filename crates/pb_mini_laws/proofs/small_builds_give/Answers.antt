use Rattle.pb_mini_laws.proofs.Honest.{small_builds_give}
use Rattle.pb_mini_laws.proofs.small_builds_give.Goals as goal

pub returns : goal.returns
returns g c = small_builds_give g.T.Turn.turns
