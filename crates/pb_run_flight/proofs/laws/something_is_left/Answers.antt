use Rattle.pb_run_flight.specs.Events.{Anything}
use Rattle.pb_run_flight.proofs.Flying.{something_is_left}
use Rattle.pb_run_flight.proofs.laws.something_is_left.Goals as goal

pub returns : goal.returns
returns g c = λ needs es order lawful left. something_is_left needs Anything es order lawful left
