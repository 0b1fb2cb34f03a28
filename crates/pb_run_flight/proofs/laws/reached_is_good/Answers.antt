use Rattle.pb_run_flight.specs.Events.{Anything}
use Rattle.pb_run_flight.proofs.Flying.{reached_is_good}
use Rattle.pb_run_flight.proofs.laws.reached_is_good.Goals as goal

pub returns : goal.returns
returns g c = λ needs es lawful u v has reaches. reached_is_good needs Anything es lawful u v has reaches
