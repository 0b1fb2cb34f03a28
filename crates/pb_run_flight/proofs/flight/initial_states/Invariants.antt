use Rattle.std.proofs.Common.{◌≡◌, take, map}
use Rattle.pb_run_flight.specs.declared.flight.State.TheVariants.{Untouched}
use Rattle.pb_run_flight.proofs.flight.initial_states.Given as goal

abbrev pub invariant-loop : goal.invariant-loop
invariant-loop g l = l.states.items ≡ map (λ _. Untouched) (take l.index l.needs)
