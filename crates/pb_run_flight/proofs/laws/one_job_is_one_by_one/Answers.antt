use Rattle.pb_run_flight.specs.Events.{Anything}
use Rattle.pb_run_flight.specs.Steps.{Anyhow}
use Rattle.pb_run_flight.proofs.Stepping.{one_by_one}
use Rattle.pb_run_flight.proofs.laws.one_job_is_one_by_one.Goals as goal

pub returns : goal.returns
returns g c = λ needs from now es one flies. one_by_one g.P.Pick.picks needs Anyhow Anything from es now one flies
