use Rattle.pb_run_flight.specs.Events.{Anything}
use Rattle.pb_run_flight.proofs.Flying.{flying_apart, flying_begun, begun_flying}
use Rattle.pb_run_flight.proofs.laws.flying_is_begun.Goals as goal

pub returns : goal.returns
returns g c = λ needs es lawful. (flying_apart needs Anything es lawful, λ u. (flying_begun needs Anything es lawful u, begun_flying needs Anything es lawful u))
