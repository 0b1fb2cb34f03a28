-- Counters without the children in flight, and the same counters with these children.
use Rattle.std.specs.Prelude.{ℕ, List, ◌++◌, ◌∷◌, [], Result, Ok, Err}
use Rattle.pb_place_types.specs.Counts.{Counts, past_finish_fault, up}
use Rattle.pb_place_types.specs.declared.child_in_flight.ChildInFlight.{ChildInFlight}
use Rattle.pb_place_types.specs.declared.place.StartFault.{StartFault}

-- the counters, completed with these children in flight
abbrev pub with_children : List ChildInFlight → Counts → Counts
with_children flying c = record c { starts = record c.starts { flying = flying } }

-- The next value of the counter `settings`: one more, but at most the greatest number of 64 bits.
-- The definition is opaque, because no proof needs to look into it.
unfoldable pub next_setting : ℕ → ℕ
next_setting n = up n

-- the counters after a caller sets once more which calls are to fail
abbrev pub one_setting : Counts → Counts
one_setting c = record c { starts = record c.starts { settings = next_setting c.starts.settings } }

-- the children in flight after a spawn
abbrev pub flown : (ℕ → ChildInFlight) → Result ℕ StartFault → List ChildInFlight → List ChildInFlight
flown spawned (Ok ticket) flying = flying ++ spawned ticket ∷ []
flown spawned (Err e) flying = flying

-- the counters after a `finish`, except for the children in flight
abbrev pub past_finish : {T : Type 0} → Result T StartFault → Counts → Counts
past_finish (Ok x) c = c
past_finish (Err e) c = past_finish_fault e c
