use Rattle.pb_build_session.proofs.Joins.{steps_join}
use Rattle.pb_build_session.proofs.laws.steps_stand_in_order.Goals as goal

pub returns : goal.returns
returns c = steps_join
