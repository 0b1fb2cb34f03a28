use Rattle.std.proofs.Common.{◌≤◌, ◌-◌, length}
use Rattle.pb_run_flight.specs.Working.{count_met}
use Rattle.pb_run_flight.proofs.needs.met_from.Given as goal

abbrev pub invariant-loop-met : goal.invariant-loop-met
invariant-loop-met g l = l.met ≤ count_met l.states l.needs

abbrev pub decreases-loop-met : goal.decreases-loop-met
decreases-loop-met g l = length l.needs - l.met
