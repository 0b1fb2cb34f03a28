use Rattle.std.proofs.Common.{◌≡◌, ◌+◌, ◌++◌, drop}
use Rattle.pb_run_flight.specs.Table.{due, count_due}
use Rattle.pb_run_flight.proofs.flight.due_of.Given as goal

abbrev pub invariant-loop-i : goal.invariant-loop-i
invariant-loop-i g l = record {
  lines : l.lines.items ++ due (drop l.i l.states) ≡ due l.states;
  count : l.i + count_due (drop l.i l.states) ≡ count_due l.states;
}
