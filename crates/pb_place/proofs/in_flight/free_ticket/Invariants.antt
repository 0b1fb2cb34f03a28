use Rattle.std.proofs.Common.{◌≡◌, ◌<◌, ℕ, true}
use Rattle.pb_place_types.specs.Children.{is_flying}
use Rattle.pb_place.specs.InFlight.{children_in}
use Rattle.pb_place.proofs.in_flight.free_ticket.Given as goal

abbrev pub invariant-loop-ticket : goal.invariant-loop-ticket
invariant-loop-ticket g l = (t : ℕ) → t < l.ticket → is_flying t (children_in l.flying) ≡ true
