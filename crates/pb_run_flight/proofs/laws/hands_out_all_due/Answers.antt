use Rattle.pb_run_flight.specs.Events.{Anything}
use Rattle.pb_run_flight.proofs.Handing.{hands_out_all_due}
use Rattle.pb_run_flight.proofs.laws.hands_out_all_due.Goals as goal

pub returns : goal.returns
returns g c = λ needs cs lawful. hands_out_all_due needs Anything cs lawful
