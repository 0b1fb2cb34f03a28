-- What the table stores in addition to the states. So no call has to go through all needs again.
-- Only private functions need these definitions.
use Rattle.std.specs.Prelude.{◌≡◌, ℕ, zero, suc, ◌<◌, ◌≤◌, ◌+◌, ◌⊎◌, Bool, false, if◌then◌else◌, List, [], ◌∷◌, map, length, Contains, slice_index, slice_index_or, slice_get, Option, Some, None}
use Rattle.pb_run_flight.specs.declared.flight.State.{State}
use Rattle.pb_run_flight.specs.declared.flight.State.TheVariants.{Untouched, Begun, Answered}
use Rattle.pb_run_flight.specs.Table.{is_bad, is_good_at, is_open, count_due}

-- The number of units at the start of the list that have answered and are good. The count ends at
-- the first unit that has not answered or is bad.
abbrev pub count_met : {F : Type 0} → List (State F) → List ℕ → ℕ
count_met states [] = 0
count_met states (u ∷ us) = if is_good_at (slice_get states u) then suc (count_met states us) else 0

-- the list of units at this index of a list of lists, or the empty list if there is no such index
abbrev pub units_at : List (List ℕ) → ℕ → List ℕ
units_at lists u = slice_index_or lists u []

-- if the unit u is one of the first `upto` units and needs the unit v, the list of v in `needed_by`
-- contains u
pub record AreListed (needs : List (List ℕ)) (upto : ℕ) (needed_by : List (List ℕ)) : Type 0 where
  pub each : (u v : ℕ) → u < upto → Contains (units_at needs u) v → v < length needed_by → Contains (units_at needed_by v) u

-- each unit from the index `reach` on has needs that are not met yet
pub record IsFar (needs : List (List ℕ)) (met : List ℕ) (reach : ℕ) : Type 0 where
  pub each : (u : ℕ) → reach ≤ u → u < length needs → slice_index met u < length (units_at needs u)

-- For each unit, the count of its met needs is right, or the count is too small and the unit is in
-- `units`.
pub record AreKnown {F : Type 0} (needs : List (List ℕ)) (states : List (State F)) (units : List ℕ) (met : List ℕ) : Type 0 where
  pub each : (u : ℕ) → u < length needs → slice_index met u ≤ count_met states (units_at needs u)
  pub right : (u : ℕ) → u < length needs → (slice_index met u ≡ count_met states (units_at needs u)) ⊎ Contains units u

-- What the table stores. `needed_by` lists, for each unit, the units that need it. `met` has the
-- number of met needs of each unit. From `reach` on, no unit has all its needs met. Only lines that
-- are due have been handed out.
pub record IsStored {F : Type 0} (needs needed_by : List (List ℕ)) (met : List ℕ) (reach : ℕ) (states : List (State F)) (given : ℕ) : Type 0 where
  pub states_long : length states ≡ length needs
  pub lists_long : length needed_by ≡ length needs
  pub listed : AreListed needs (length needs) needed_by
  pub counted : met ≡ map (count_met states) needs
  pub far : IsFar needs met reach
  pub less : given ≤ count_due states

abbrev pub is_bad_at : {F : Type 0} → Option (State F) → Bool
is_bad_at None = false
is_bad_at (Some s) = is_bad s

-- the last of the first n units has answered and is bad
abbrev pub ends_badly : {F : Type 0} → ℕ → List (State F) → Bool
ends_badly zero states = false
ends_badly (suc n) states = is_bad_at (slice_get states n)

-- Whether the unit has not begun and all its needs are met. There is no answer if the unit has
-- answered and is bad, or does not exist.
abbrev pub opening_by : {F : Type 0} → List (State F) → Option (List ℕ) → Option (State F) → Option Bool
opening_by states None s = None
opening_by states (Some wanted) None = None
opening_by states (Some wanted) (Some s) = if is_bad s then None else Some (is_open states s wanted)

abbrev pub opening : {F : Type 0} → List (List ℕ) → List (State F) → ℕ → Option Bool
opening needs states u = opening_by states (slice_get needs u) (slice_get states u)

-- The number of steps that a unit still has to make: two if it has not begun, and one if it has
-- begun. `weight_of` is the sum for all units.
abbrev pub weight : {F : Type 0} → State F → ℕ
weight Untouched = 2
weight Begun = 1
weight (Answered answer) = 0

abbrev pub weight_of : {F : Type 0} → List (State F) → ℕ
weight_of [] = 0
weight_of (s ∷ ss) = weight s + weight_of ss
