use Rattle.pb_run_flight.specs.Events.{Anything}
use Rattle.pb_run_flight.specs.Steps.{Anyhow}
use Rattle.pb_run_flight.proofs.Stepping.{jobs_bound}
use Rattle.pb_run_flight.proofs.laws.jobs_bound_flying.Goals as goal

pub returns : goal.returns
returns g c = λ needs from now es flies. (jobs_bound g.P.Pick.picks needs Anyhow Anything from es now flies).1
