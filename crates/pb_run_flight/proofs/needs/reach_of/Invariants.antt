use Rattle.std.proofs.Common.{◌<◌, ◌≤◌, ℕ, length}
use Rattle.pb_run_flight.specs.Working.{units_at}
use Rattle.pb_run_flight.proofs.needs.reach_of.Given as goal

abbrev pub invariant-loop-unit : goal.invariant-loop-unit
invariant-loop-unit l = record {
  within : l.reach ≤ l.unit;
  each : (u : ℕ) → l.reach ≤ u → u < l.unit → 0 < length (units_at l.needs u);
}
