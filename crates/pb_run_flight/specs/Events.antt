-- The events of a flight, and which lists of events are lawful.
use Rattle.std.specs.Prelude.{◌≡◌, ◌<◌, ◌+◌, ℕ, max, Bool, true, false, ◌==◌, if◌then◌else◌, List, [], ◌∷◌, ◌++◌, map, length, Some, Contains, slice_get, slice_set}
use Rattle.pb_run_flight.specs.declared.flight.Answer.{Answer}
use Rattle.pb_run_flight.specs.declared.flight.State.{State}
use Rattle.pb_run_flight.specs.declared.flight.State.TheVariants.{Untouched, Begun, Answered}
use Rattle.pb_run_flight.specs.Table.{is_bad, is_good_at, if_so}

-- An event: a unit begins, or a unit answers. If a unit begins, `spawned` says whether a child was
-- spawned for this unit.
pub data Event (F : Type 0) : Type 0 where
  Began : (unit : ℕ) (spawned : Bool) → Event F
  Gave : (unit : ℕ) (answer : Answer F) → Event F

-- In a list of events, the newest event is the first.

-- the state of each unit after these events
abbrev pub states_after : {F : Type 0} → List (List ℕ) → List (Event F) → List (State F)
states_after needs [] = map (λ _. Untouched) needs
states_after needs (Began u spawned ∷ es) = slice_set (states_after needs es) u Begun
states_after needs (Gave u answer ∷ es) = slice_set (states_after needs es) u (Answered answer)

-- the units that have begun, in the order in which they began
abbrev pub begun_by : {F : Type 0} → List (Event F) → List ℕ
begun_by [] = []
begun_by (Began u spawned ∷ es) = begun_by es ++ u ∷ []
begun_by (Gave u answer ∷ es) = begun_by es

-- the units that have begun with a child, in the order in which they began
abbrev pub started_by : {F : Type 0} → List (Event F) → List ℕ
started_by [] = []
started_by (Began u spawned ∷ es) = started_by es ++ if_so spawned u
started_by (Gave u answer ∷ es) = started_by es

-- the list without the first occurrence of `u`
abbrev pub without : ℕ → List ℕ → List ℕ
without u [] = []
without u (v ∷ vs) = if v == u then vs else (v ∷ without u vs)

-- the units that have begun and not answered, in the order in which they began
abbrev pub flying_after : {F : Type 0} → List (Event F) → List ℕ
flying_after [] = []
flying_after (Began u spawned ∷ es) = flying_after es ++ u ∷ []
flying_after (Gave u answer ∷ es) = without u (flying_after es)

-- the units in flight that have a child, in the order in which they began
abbrev pub launched_after : {F : Type 0} → List (Event F) → List ℕ
launched_after [] = []
launched_after (Began u spawned ∷ es) = launched_after es ++ if_so spawned u
launched_after (Gave u answer ∷ es) = without u (launched_after es)

-- the greatest number of children that were in flight at any time
abbrev pub peak : {F : Type 0} → List (Event F) → ℕ
peak [] = 0
peak (Began u spawned ∷ es) = if spawned then max (peak es) (length (launched_after es) + 1) else peak es
peak (Gave u answer ∷ es) = peak es

-- A unit may begin if it has not begun, and all needed units have answered and are good. No unit
-- before it in plan order may be bad.
pub record MayBegin {F : Type 0} (needs : List (List ℕ)) (states : List (State F)) (u : ℕ) : Type 0 where
  pub wanted : List ℕ
  pub unit : slice_get needs u ≡ Some wanted
  pub untouched : slice_get states u ≡ Some Untouched
  pub good : (v : ℕ) → Contains wanted v → is_good_at (slice_get states v) ≡ true
  pub first : (v : ℕ) (s : State F) → v < u → slice_get states v ≡ Some s → is_bad s ≡ false

-- Events are lawful if each unit begins only when it may, and answers at most once, after it has
-- begun. The answer must be one that `Gives` allows.
pub data Lawful {F : Type 0} (needs : List (List ℕ)) (Gives : ℕ → Answer F → Type 0) : List (Event F) → Type 0 where
  nothing : Lawful needs Gives []
  begin : (es : List (Event F)) (u : ℕ) (spawned : Bool) (before : Lawful needs Gives es) (may : MayBegin needs (states_after needs es) u) → Lawful needs Gives (Began u spawned ∷ es)
  answer : (es : List (Event F)) (u : ℕ) (given : Answer F) (before : Lawful needs Gives es) (flying : slice_get (states_after needs es) u ≡ Some Begun) (gives : Gives u given) → Lawful needs Gives (Gave u given ∷ es)

-- one unit reaches another if one or more needs lead from the first unit to the second
pub data Reaches (needs : List (List ℕ)) : ℕ → ℕ → Type 0 where
  direct : (u v : ℕ) (wanted : List ℕ) (unit : slice_get needs u ≡ Some wanted) (need : Contains wanted v) → Reaches needs u v
  onward : (u v w : ℕ) (wanted : List ℕ) (unit : slice_get needs u ≡ Some wanted) (need : Contains wanted v) (more : Reaches needs v w) → Reaches needs u w

-- a unit may give any answer
abbrev pub Anything : {F : Type 0} → ℕ → Answer F → Type 0
Anything u given = Unit {0}

abbrev pub IsLawful : {F : Type 0} → List (List ℕ) → List (Event F) → Type 0
IsLawful needs es = Lawful needs Anything es
