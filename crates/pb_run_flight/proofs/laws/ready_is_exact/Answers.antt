use Rattle.pb_run_flight.proofs.Ready.{ready_rises, ready_may, may_ready}
use Rattle.pb_run_flight.proofs.laws.ready_is_exact.Goals as goal

pub returns : goal.returns
returns g c = λ needs states. (ready_rises needs states, λ u. (ready_may needs states u, may_ready needs states u))
