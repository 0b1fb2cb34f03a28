use Rattle.std.proofs.Common.{◌≡◌, ◌<◌, ℕ, length, Contains}
use Rattle.std.specs.Prelude.{slice_index}
use Rattle.pb_run_flight.specs.Working.{units_at}
use Rattle.pb_run_flight.proofs.needs.list_unit.Given as goal

abbrev pub invariant-loop-need : goal.invariant-loop-need
invariant-loop-need l = record {
  long : length l.lists.items ≡ length l.fn.lists.items;
  listed : (k : ℕ) → k < l.need-index → slice_index l.needs k < length l.fn.lists.items → Contains (units_at l.lists.items (slice_index l.needs k)) l.unit;
  kept : (u v : ℕ) → Contains (units_at l.fn.lists.items v) u → Contains (units_at l.lists.items v) u;
}
