use Rattle.pb_run_flight.proofs.Handing.{due_is_start}
use Rattle.pb_run_flight.proofs.laws.due_is_start.Goals as goal

pub returns : goal.returns
returns g c = due_is_start
