use Rattle.std.proofs.Common.{◌≡◌, drop}
use Rattle.pb_run_flight.specs.Table.{is_finished}
use Rattle.pb_run_flight.proofs.flight.are_finished.Given as goal

abbrev pub invariant-loop-state : goal.invariant-loop-state
invariant-loop-state g l = is_finished (drop l.state-index l.states) ≡ is_finished l.states
