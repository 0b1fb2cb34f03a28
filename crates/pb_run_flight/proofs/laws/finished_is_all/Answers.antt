use Rattle.pb_run_flight.proofs.Handing.{finished_is_all}
use Rattle.pb_run_flight.proofs.laws.finished_is_all.Goals as goal

pub returns : goal.returns
returns g c = finished_is_all
