-- Laws about flights.
use Rattle.std.specs.Prelude.{◌≡◌, ◌≢◌, ◌<◌, ◌≤◌, ◌+◌, ◌⊎◌, ◌↔◌, ℕ, max, Bool, true, false, List, [], ◌∷◌, ◌++◌, length, Some, Contains, AllPairs, slice_get}
use Rattle.std.specs.List.Sorted.{IsStrictlyIncreasing}
use Rattle.pb_run_flight.specs.declared.flight.Answer.{Answer}
use Rattle.pb_run_flight.specs.declared.flight.State.{State}
use Rattle.pb_run_flight.specs.declared.flight.State.TheVariants.{Begun, Answered}
use Rattle.pb_run_flight.specs.declared.turn.Step.{Step}
use Rattle.pb_run_flight.specs.declared.turn.Jobs.{Jobs}
use Rattle.pb_run_flight.specs.Table.{is_untouched, is_good_at, ready_of, due, due_first, count_due, first_bad, is_finished}
use Rattle.pb_run_flight.specs.Events.{Event, Began, Gave, MayBegin, IsLawful, Anything, Reaches, states_after, begun_by, started_by, flying_after}
use Rattle.pb_run_flight.specs.Calls.{Call, Emitted, events_of, handed_out}
use Rattle.pb_run_flight.specs.Steps.{Flies, SpawnsAs, Anyhow, TurnsOfJobs}

-- Which units are ready.

-- the ready units are exactly those that may begin, in plan order, each once
abbrev pub ReadyIsExact : (F : Type 0) → Type 0
ReadyIsExact F = (needs : List (List ℕ)) (states : List (State F)) → IsStrictlyIncreasing (ready_of needs states) × ((u : ℕ) → Contains (ready_of needs states) u ↔ MayBegin needs states u)

-- the unit has begun, and may have answered
abbrev pub HasBegun : {F : Type 0} → List (State F) → ℕ → Type 0
HasBegun {F} states u = (s : State F) × (slice_get states u ≡ Some s) × (is_untouched s ≡ false)

-- After lawful events, a unit that has begun or may begin reaches only units that have answered and
-- are good. So the unit reaches no unit in flight.
abbrev pub ReachedIsGood : (F : Type 0) → Type 0
ReachedIsGood F = (needs : List (List ℕ)) (es : List (Event F)) → IsLawful needs es → (u v : ℕ) → MayBegin needs (states_after needs es) u ⊎ HasBegun (states_after needs es) u → Reaches needs u v → is_good_at (slice_get (states_after needs es) v) ≡ true

-- Which lines are handed out.

-- After a call that hands out lines, exactly the due lines have been handed out.
abbrev pub HandsOutAllDue : (F : Type 0) → Type 0
HandsOutAllDue F = (needs : List (List ℕ)) (cs : List (Call F)) → IsLawful needs (events_of cs) → handed_out needs (Emitted ∷ cs) ≡ due (states_after needs (events_of cs))

-- each unit that has answered keeps its answer to the end
abbrev pub EndsAs : {F : Type 0} → List (State F) → List (State F) → Type 0
EndsAs {F} states end = (u : ℕ) (answer : Answer F) → slice_get states u ≡ Some (Answered answer) → slice_get end u ≡ Some (Answered answer)

-- Let each unit that has answered keep its answer to the end. If the lines of n units are due now,
-- they are the lines of the first n units at the end. The lines due now are a prefix of all lines
-- due at the end.
abbrev pub DueIsStart : (F : Type 0) → Type 0
DueIsStart F = (states end : List (State F)) → EndsAs states end → (due states ≡ due_first (count_due states) end) × ((rest : List ℕ) × (due end ≡ due states ++ rest))

-- Once all units up to and including the first bad unit have answered, the lines due now are all
-- lines due at the end. The first bad unit now is also the first bad unit at the end.
abbrev pub FinishedIsAll : (F : Type 0) → Type 0
FinishedIsAll F = (states end : List (State F)) → length states ≡ length end → is_finished states ≡ true → EndsAs states end → (due states ≡ due end) × (first_bad states ≡ first_bad end)

-- Which units are in flight.

-- after lawful events, the units in flight are exactly those that have begun and not answered, each
-- once
abbrev pub FlyingIsBegun : (F : Type 0) → Type 0
FlyingIsBegun F = (needs : List (List ℕ)) (es : List (Event F)) → IsLawful needs es → AllPairs (λ u v. u ≢ v) (flying_after es) × ((u : ℕ) → Contains (flying_after es) u ↔ (slice_get (states_after needs es) u ≡ Some Begun))

-- in plan order, each unit comes after all units that it needs
abbrev pub IsInPlanOrder : List (List ℕ) → Type 0
IsInPlanOrder needs = (u v : ℕ) (wanted : List ℕ) → slice_get needs u ≡ Some wanted → Contains wanted v → v < u

-- if lawful events have not finished a flight, some unit may begin or is in flight
abbrev pub SomethingIsLeft : (F : Type 0) → Type 0
SomethingIsLeft F = (needs : List (List ℕ)) (es : List (Event F)) → IsInPlanOrder needs → IsLawful needs es → is_finished (states_after needs es) ≡ false → 0 < length (ready_of needs (states_after needs es)) + length (flying_after es)

-- Laws about the steps of a turn.

-- the events of steps are lawful, no matter what decides the steps
abbrev pub StepsAreLawful : {S : Type 0} → (F : Type 0) → (S → List ℕ → List ℕ → Step → S → Type 0) → Type 0
StepsAreLawful {S} F Turns = (needs : List (List ℕ)) (from now : S) (es : List (Event F)) → Flies Turns needs Anyhow Anything from es now → IsLawful needs es

-- Let a unit have a child if and only if the unit differs. The started units are then exactly those
-- that have begun and differ.
abbrev pub StartedDiffers : {S : Type 0} → (F : Type 0) → (S → List ℕ → List ℕ → Step → S → Type 0) → Type 0
StartedDiffers {S} F Turns = (needs : List (List ℕ)) (different : List ℕ) (from now : S) (es : List (Event F)) → Flies Turns needs (SpawnsAs (Contains different)) Anything from es now
    → (u : ℕ) → Contains (started_by es) u ↔ (Contains (begun_by es) u × Contains different u)

-- at no time are more units in flight than there are jobs; zero jobs count as one
abbrev pub JobsBoundFlying : {S : Type 0} → (F : Type 0) → (S → List ℕ → ℕ → S → Type 0) → Type 0
JobsBoundFlying {S} F Picks = (needs : List (List ℕ)) (from now : Jobs S) (es : List (Event F)) → Flies (TurnsOfJobs Picks) needs Anyhow Anything from es now → length (flying_after es) ≤ max from.jobs 1

-- Each unit answers before the next unit begins. The unit that began last may still be in flight.
pub data OneByOne {F : Type 0} : List (Event F) → Type 0 where
  nothing : OneByOne []
  begin : (es : List (Event F)) (u : ℕ) (spawned : Bool) (before : OneByOne es) (none : flying_after es ≡ []) → OneByOne (Began u spawned ∷ es)
  answer : (es : List (Event F)) (u : ℕ) (spawned : Bool) (given : Answer F) (before : OneByOne es) (none : flying_after es ≡ []) → OneByOne (Gave u given ∷ Began u spawned ∷ es)

-- with one job, the units begin and answer one by one
abbrev pub OneJobIsOneByOne : {S : Type 0} → (F : Type 0) → (S → List ℕ → ℕ → S → Type 0) → Type 0
OneJobIsOneByOne {S} F Picks = (needs : List (List ℕ)) (from now : Jobs S) (es : List (Event F)) → from.jobs ≤ 1 → Flies (TurnsOfJobs Picks) needs Anyhow Anything from es now → OneByOne es
