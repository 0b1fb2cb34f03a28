-- Which lines all calls of a flight together hand out.
use Rattle.std.specs.Prelude.{ℕ, List, [], ◌∷◌, ◌++◌}
use Rattle.pb_run_flight.specs.Table.{Table, fresh, begun, answered, emitted, due_after}
use Rattle.pb_run_flight.specs.Events.{Event, Began, Gave}

-- a call notes an event, or hands out the lines that are due
pub data Call (F : Type 0) : Type 0 where
  Noted : (event : Event F) → Call F
  Emitted : Call F

-- In a list of calls, the newest call is the first.

-- the events that these calls have noted
abbrev pub events_of : {F : Type 0} → List (Call F) → List (Event F)
events_of [] = []
events_of (Noted e ∷ cs) = e ∷ events_of cs
events_of (Emitted ∷ cs) = events_of cs

-- the table after this event is noted
abbrev pub noted : {F : Type 0} → Event F → Table F → Table F
noted (Began u spawned) t = begun u t
noted (Gave u answer) t = answered u answer t

-- the table after these calls
abbrev pub table_after : {F : Type 0} → List (List ℕ) → List (Call F) → Table F
table_after needs [] = fresh needs
table_after needs (Noted e ∷ cs) = noted e (table_after needs cs)
table_after needs (Emitted ∷ cs) = emitted (table_after needs cs)

-- given the table, the lines that the next call hands out
abbrev pub handed_by : {F : Type 0} → Table F → List ℕ
handed_by t = due_after t.given t.states

-- all lines that these calls have handed out, in order
abbrev pub handed_out : {F : Type 0} → List (List ℕ) → List (Call F) → List ℕ
handed_out needs [] = []
handed_out needs (Noted e ∷ cs) = handed_out needs cs
handed_out needs (Emitted ∷ cs) = handed_out needs cs ++ handed_by (table_after needs cs)
