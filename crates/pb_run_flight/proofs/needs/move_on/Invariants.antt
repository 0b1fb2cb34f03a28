use Rattle.std.proofs.Common.{◌≡◌, length, drop}
use Rattle.pb_run_flight.specs.Working.{AreKnown, IsFar}
use Rattle.pb_run_flight.proofs.needs.move_on.Given as goal

abbrev pub invariant-loop-unit : goal.invariant-loop-unit
invariant-loop-unit g l = record {
  long : length l.met.items ≡ length l.needs;
  known : AreKnown l.needs l.states (drop l.unit-index l.units) l.met.items;
  far : IsFar l.needs l.met.items l.reach;
}
