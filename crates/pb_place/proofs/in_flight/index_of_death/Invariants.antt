use Rattle.std.proofs.Common.{◌≡◌, false, take}
use Rattle.std.specs.List.{list_any}
use Rattle.pb_place.specs.Memory.{is_for}
use Rattle.pb_place.proofs.in_flight.index_of_death.Given as goal

abbrev pub invariant-loop-i : goal.invariant-loop-i
invariant-loop-i l = list_any (is_for l.out) (take l.i l.deaths) ≡ false
