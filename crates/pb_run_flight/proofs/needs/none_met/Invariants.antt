use Rattle.std.proofs.Common.{◌≡◌, take, map}
use Rattle.pb_run_flight.proofs.needs.none_met.Given as goal

abbrev pub invariant-loop : goal.invariant-loop
invariant-loop l = l.met.items ≡ map (λ _. 0) (take l.index l.needs)
