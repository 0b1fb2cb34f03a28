use Rattle.std.proofs.Common.{◌≡◌, ◌++◌, drop}
use Rattle.pb_run_flight.specs.Table.{ready_from, ready_of}
use Rattle.pb_run_flight.proofs.flight.ready_of.Given as goal

abbrev pub invariant-loop-i : goal.invariant-loop-i
invariant-loop-i g l = l.ready.items ++ ready_from l.states l.i (drop l.i l.needs) (drop l.i l.states) ≡ ready_of l.needs l.states
