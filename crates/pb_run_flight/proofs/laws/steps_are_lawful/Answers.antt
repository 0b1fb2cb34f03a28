use Rattle.pb_run_flight.specs.Events.{Anything}
use Rattle.pb_run_flight.specs.Steps.{Anyhow}
use Rattle.pb_run_flight.proofs.Stepping.{steps_are_lawful}
use Rattle.pb_run_flight.proofs.laws.steps_are_lawful.Goals as goal

pub returns : goal.returns
returns g c = λ needs from now es flies. steps_are_lawful g.T.Turn.turns needs Anyhow Anything from es now flies
