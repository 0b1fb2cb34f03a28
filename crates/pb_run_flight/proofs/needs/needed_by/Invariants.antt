use Rattle.std.proofs.Common.{◌≡◌, length}
use Rattle.pb_run_flight.specs.Working.{AreListed}
use Rattle.pb_run_flight.proofs.needs.needed_by.Given as goal

abbrev pub invariant-loop-unit : goal.invariant-loop-unit
invariant-loop-unit l = record {
  long : length l.lists.items ≡ length l.needs;
  listed : AreListed l.needs l.unit l.lists.items;
}
