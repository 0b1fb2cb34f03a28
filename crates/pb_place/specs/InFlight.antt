-- The table of children in flight at a place. Each entry has what the place stores about a child.
use Rattle.std.specs.Prelude.{ℕ, ◌==◌, List, [], ◌∷◌, Option, Some, None, if◌then◌else◌}
use Rattle.pb_place_types.specs.declared.child_in_flight.ChildInFlight.{ChildInFlight}
use Rattle.pb_place.specs.declared.in_flight.Flying.{Flying}

-- the children of the table
abbrev pub children_in : {K : Type 0} → List (Flying K) → List ChildInFlight
children_in [] = []
children_in (f ∷ fs) = f.child ∷ children_in fs

-- The first entry with this ticket. `other_entries` are all entries except this entry.
abbrev pub entry_at : {K : Type 0} → ℕ → List (Flying K) → Option (Flying K)
entry_at ticket [] = None
entry_at ticket (f ∷ fs) = if f.child.ticket == ticket then Some f else entry_at ticket fs

abbrev pub other_entries : {K : Type 0} → ℕ → List (Flying K) → List (Flying K)
other_entries ticket [] = []
other_entries ticket (f ∷ fs) = if f.child.ticket == ticket then fs else f ∷ other_entries ticket fs
