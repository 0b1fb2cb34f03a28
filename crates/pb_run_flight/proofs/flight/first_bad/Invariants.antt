use Rattle.std.proofs.Common.{◌≡◌, drop}
use Rattle.pb_run_flight.specs.Table.{first_bad, first_bad_from}
use Rattle.pb_run_flight.proofs.flight.first_bad.Given as goal

abbrev pub invariant-loop-i : goal.invariant-loop-i
invariant-loop-i g l = first_bad_from l.i (drop l.i l.states) ≡ first_bad l.states
