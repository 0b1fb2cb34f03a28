use Rattle.pb_build.proofs.Again.{same_build_starts_none}
use Rattle.pb_build.proofs.laws.same_build_starts_none.Goals as goal

pub returns : goal.returns
returns g c = same_build_starts_none g.T.Turn.turns g.U.Turn.turns
