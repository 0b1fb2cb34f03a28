-- The table of a flight as contracts see it. The table has the needs and the state of each unit,
-- and the number of units whose lines have been handed out.
use Rattle.std.specs.Prelude.{ℕ, zero, suc, Bool, true, false, ◌&&◌, if◌then◌else◌, List, [], ◌∷◌, ◌++◌, map, Option, Some, None, is_some, is_none, slice_get, slice_set}
use Rattle.std.specs.List.{list_all}
use Rattle.pb_run_flight.specs.declared.flight.State.{State}
use Rattle.pb_run_flight.specs.declared.flight.State.TheVariants.{Untouched, Begun, Answered}
use Rattle.pb_run_flight.specs.declared.flight.Answer.{Answer}

-- A unit is known by its index in plan order.

-- The table has what each unit needs and the state of each unit. `given` counts the units, from the
-- start of plan order, whose lines have been handed out.
pub record Table (F : Type 0) : Type 0 where
  pub needs : List (List ℕ)
  pub states : List (State F)
  pub given : ℕ

-- The states of units.

abbrev pub is_untouched : {F : Type 0} → State F → Bool
is_untouched Untouched = true
is_untouched Begun = false
is_untouched (Answered answer) = false

-- the unit has answered and is bad
abbrev pub is_bad : {F : Type 0} → State F → Bool
is_bad Untouched = false
is_bad Begun = false
is_bad (Answered answer) = is_some answer.fault

-- the unit has answered and is good
abbrev pub is_good : {F : Type 0} → State F → Bool
is_good Untouched = false
is_good Begun = false
is_good (Answered answer) = is_none answer.fault

abbrev pub is_good_at : {F : Type 0} → Option (State F) → Bool
is_good_at None = false
is_good_at (Some s) = is_good s

-- Which units may begin.

-- all these units have answered and are good
abbrev pub are_good : {F : Type 0} → List (State F) → List ℕ → Bool
are_good states units = list_all (λ u. is_good_at (slice_get states u)) units

-- the unit has not begun, and all needed units have answered and are good
abbrev pub is_open : {F : Type 0} → List (State F) → State F → List ℕ → Bool
is_open states s needs = is_untouched s && are_good states needs

-- a list with the unit, if the condition is true, or else the empty list
abbrev pub if_so : Bool → ℕ → List ℕ
if_so so u = if so then u ∷ [] else []

-- The open units from the i-th on, up to the first bad unit. If no unit before the i-th is bad,
-- these units may begin.
abbrev pub ready_from : {F : Type 0} → List (State F) → ℕ → List (List ℕ) → List (State F) → List ℕ
ready_from states i needs [] = []
ready_from states i [] (s ∷ ss) = []
ready_from states i (n ∷ ns) (s ∷ ss) = if is_bad s then [] else (if_so (is_open states s n) i ++ ready_from states (suc i) ns ss)

-- the units that may begin, in plan order
abbrev pub ready_of : {F : Type 0} → List (List ℕ) → List (State F) → List ℕ
ready_of needs states = ready_from states 0 needs states

-- Which lines are due.

-- The lines of the units in plan order. The list ends before the first unit that has not answered,
-- or after the first bad unit.
abbrev pub due : {F : Type 0} → List (State F) → List ℕ
due (Answered answer ∷ ss) = answer.lines ++ (if is_none answer.fault then due ss else [])
due _ = []

-- the number of units whose lines are due
abbrev pub count_due : {F : Type 0} → List (State F) → ℕ
count_due (Answered answer ∷ ss) = suc (if is_none answer.fault then count_due ss else 0)
count_due _ = 0

-- the lines that are due, without those of the first n units
abbrev pub due_after : {F : Type 0} → ℕ → List (State F) → List ℕ
due_after zero (Answered answer ∷ ss) = answer.lines ++ (if is_none answer.fault then due_after zero ss else [])
due_after (suc n) (Answered answer ∷ ss) = if is_none answer.fault then due_after n ss else []
due_after n _ = []

-- the lines of the first n units, as far as they are due
abbrev pub due_first : {F : Type 0} → ℕ → List (State F) → List ℕ
due_first zero ss = []
due_first (suc n) [] = []
due_first (suc n) (Untouched ∷ ss) = []
due_first (suc n) (Begun ∷ ss) = []
due_first (suc n) (Answered answer ∷ ss) = answer.lines ++ (if is_none answer.fault then due_first n ss else [])

-- The index of the first bad unit, if all units before it have answered. `first_bad` counts from
-- the start of plan order.
abbrev pub first_bad_from : {F : Type 0} → ℕ → List (State F) → Option ℕ
first_bad_from i (Answered answer ∷ ss) = if is_none answer.fault then first_bad_from (suc i) ss else Some i
first_bad_from i _ = None

abbrev pub first_bad : {F : Type 0} → List (State F) → Option ℕ
first_bad states = first_bad_from 0 states

-- all units up to and including the first bad unit have answered; without a bad unit, all units
-- have answered
abbrev pub is_finished : {F : Type 0} → List (State F) → Bool
is_finished [] = true
is_finished (Untouched ∷ ss) = false
is_finished (Begun ∷ ss) = false
is_finished (Answered answer ∷ ss) = if is_none answer.fault then is_finished ss else true

-- The table after each call.

-- the table before any unit begins
abbrev pub fresh : {F : Type 0} → List (List ℕ) → Table F
fresh needs = record { needs = needs; states = map (λ _. Untouched) needs; given = 0 }

abbrev pub begun : {F : Type 0} → ℕ → Table F → Table F
begun u t = record t { states = slice_set t.states u Begun }

abbrev pub answered : {F : Type 0} → ℕ → Answer F → Table F → Table F
answered u answer t = record t { states = slice_set t.states u (Answered answer) }

-- the table after a call has handed out all lines that are due
abbrev pub emitted : {F : Type 0} → Table F → Table F
emitted t = record t { given = count_due t.states }
