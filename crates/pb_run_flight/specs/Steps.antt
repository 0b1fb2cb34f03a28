-- Which step comes next, and what decides it.
use Rattle.std.specs.Prelude.{◌≡◌, ◌<◌, ◌≤◌, ◌+◌, ◌⊎◌, ℕ, max, Bool, true, false, List, [], ◌∷◌, length, Option, Some, None, slice_get}
use Rattle.std.specs.Borrow.{MutBor}
use Rattle.pb_run_flight.specs.declared.flight.Answer.{Answer}
use Rattle.pb_run_flight.specs.declared.turn.Step.{Step}
use Rattle.pb_run_flight.specs.declared.turn.Step.TheVariants as step
use Rattle.pb_run_flight.specs.declared.turn.Jobs.{Jobs}
use Rattle.pb_run_flight.specs.Table.{ready_of, is_finished}
use Rattle.pb_run_flight.specs.Events.{Event, Began, Gave, states_after, flying_after}

-- the step's index is less than the number of units that may begin (`Begin`) or are in flight
-- (`Answer`)
abbrev pub IsWithin : ℕ → ℕ → Step → Type 0
IsWithin ready flying (step.Begin i) = i < ready
IsWithin ready flying (step.Answer i) = i < flying

-- A turn has decided the steps that produced these events. Each step started from the state that
-- the previous step had left, in an unfinished flight, and chose a unit that might begin or was in
-- flight. `Spawns` says whether a unit has a child, and `Gives` which answers it may give.
pub data Flies {F S : Type 0} (Turns : S → List ℕ → List ℕ → Step → S → Type 0) (needs : List (List ℕ)) (Spawns : ℕ → Bool → Type 0) (Gives : ℕ → Answer F → Type 0) (from : S) : List (Event F) → S → Type 0 where
  nothing : Flies Turns needs Spawns Gives from [] from
  begin : (es : List (Event F)) (now next : S) (i u : ℕ) (spawned : Bool) (before : Flies Turns needs Spawns Gives from es now) (missing : is_finished (states_after needs es) ≡ false)
      (turned : Turns now (ready_of needs (states_after needs es)) (flying_after es) (step.Begin i) next) (unit : slice_get (ready_of needs (states_after needs es)) i ≡ Some u) (child : Spawns u spawned)
      → Flies Turns needs Spawns Gives from (Began u spawned ∷ es) next
  answer : (es : List (Event F)) (now next : S) (i u : ℕ) (given : Answer F) (before : Flies Turns needs Spawns Gives from es now) (missing : is_finished (states_after needs es) ≡ false)
      (turned : Turns now (ready_of needs (states_after needs es)) (flying_after es) (step.Answer i) next) (unit : slice_get (flying_after es) i ≡ Some u) (gives : Gives u given)
      → Flies Turns needs Spawns Gives from (Gave u given ∷ es) next

-- The state that the turn had after the last of these events is returned, with one exception. If a
-- fault ended the answer of a unit before the flight was finished, the state after the step that
-- chose this unit is returned.
abbrev pub HandsBack : {F S : Type 0} → (S → List ℕ → List ℕ → Step → S → Type 0) → List (List ℕ) → List (Event F) → S → Option ℕ → S → Type 0
HandsBack Turns needs es last None back = back ≡ last
HandsBack Turns needs es last (Some u) back = (i : ℕ) × (is_finished (states_after needs es) ≡ false) × (slice_get (flying_after es) i ≡ Some u) × Turns last (ready_of needs (states_after needs es)) (flying_after es) (step.Answer i) back

-- a unit may have a child or not
abbrev pub Anyhow : ℕ → Bool → Type 0
Anyhow u spawned = Unit {0}

-- a unit has a child if and only if it differs
abbrev pub SpawnsAs : (ℕ → Type 0) → ℕ → Bool → Type 0
SpawnsAs Differs u true = Differs u
SpawnsAs Differs u false = Differs u → ⊥

-- the pick chooses the first of the units that may begin
abbrev pub PicksFirst : List ℕ → ℕ → Type 0
PicksFirst ready place = place ≡ 0

-- the pick chooses the last of the units that may begin
abbrev pub PicksLast : List ℕ → ℕ → Type 0
PicksLast ready place = place + 1 ≡ length ready

-- a borrowed pick picks what the pick itself would pick, and stays the same borrow
abbrev pub PicksLent : {S : Type 0} → (S → List ℕ → ℕ → S → Type 0) → MutBor S → List ℕ → ℕ → MutBor S → Type 0
PicksLent Picks old ready place new = Picks old.now ready place new.now × (new.ghost_name ≡ old.ghost_name)

-- If some unit may begin, and fewer units are in flight than there are jobs, the picked unit
-- begins. Otherwise the unit that has been in flight longest answers. Zero jobs count as one, and
-- the number of jobs does not change.
abbrev pub JobsTurn : {S : Type 0} → (S → List ℕ → ℕ → S → Type 0) → ℕ → S → ℕ → List ℕ → List ℕ → Step → S → Type 0
JobsTurn Picks jobs old after ready flying (step.Begin i) new = (after ≡ jobs) × (0 < length ready) × (length flying < max jobs 1) × Picks old ready i new
JobsTurn Picks jobs old after ready flying (step.Answer i) new = (after ≡ jobs) × (i ≡ 0) × (new ≡ old) × ((length ready ≡ 0) ⊎ (max jobs 1 ≤ length flying))

-- the turn that consists of a number of jobs and a pick; `old` has the two before a step, and `new`
-- has the two after the step
abbrev pub TurnsOfJobs : {S : Type 0} → (S → List ℕ → ℕ → S → Type 0) → Jobs S → List ℕ → List ℕ → Step → Jobs S → Type 0
TurnsOfJobs Picks old ready flying step new = JobsTurn Picks old.jobs old.pick new.jobs ready flying step new.pick
