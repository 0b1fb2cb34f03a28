use Rattle.std.proofs.Common.{◌≡◌, ◌==◌, false, take}
use Rattle.std.specs.List.{list_any}
use Rattle.pb_place.proofs.in_flight.index_of_ticket.Given as goal

abbrev pub invariant-loop-i : goal.invariant-loop-i
invariant-loop-i g l = list_any (λ f. f.child.ticket == l.ticket) (take l.i l.flying) ≡ false
