-- Which events the units of a build have: which unit begins or answers next.
use Rattle.std.specs.Prelude.{◌≡◌, ◌<◌, ◌≤◌, ◌⊎◌, ◌↔◌, ◌∷◌, [], ℕ, max, false, List, length, Some, slice_get}
use Rattle.pb_build_result.specs.declared.bad_unit.BadUnit.{BadUnit}
use Rattle.pb_build.specs.Headline.{ByFirst}
use Rattle.pb_run_flight.specs.Events.{Event, Began, Gave, MayBegin, flying_after, states_after}
use Rattle.pb_run_flight.specs.Table.{is_finished}
use Rattle.pb_run_flight.specs.declared.flight.State.{State}
use Rattle.pb_workspace_types.specs.declared.options.Options.{Options}
use Rattle.pb_command_types.specs.declared.project.Project.{Project}
use Rattle.pb_build_turns.specs.Executor.{needs_of}

-- the unit is the first, in plan order, of those that may begin
abbrev pub IsFirstToBegin : {F : Type 0} → List (List ℕ) → List (State F) → ℕ → Type 0
IsFirstToBegin needs states u = MayBegin needs states u × ((v : ℕ) → v < u → MayBegin needs states v → ⊥)

-- The event is the next one, given the number of jobs. If some unit may begin, and fewer than
-- `jobs` units are in flight, the first such unit begins. Otherwise the unit that has been in
-- flight longest answers.
abbrev pub IsNext : {F : Type 0} → ℕ → List (List ℕ) → List (Event F) → Event F → Type 0
IsNext jobs needs es (Began u spawned) = (length (flying_after es) < jobs) × IsFirstToBegin needs (states_after needs es) u
IsNext jobs needs es (Gave u answer) = (((v : ℕ) → MayBegin needs (states_after needs es) v → ⊥) ⊎ (jobs ≤ length (flying_after es))) × (slice_get (flying_after es) 0 ≡ Some u)

-- Each event was the next one when the event came, in a build that was not finished. The newest
-- event is the first of the list.
abbrev pub AreInTurn : {F : Type 0} → ℕ → List (List ℕ) → List (Event F) → Type 0
AreInTurn jobs needs [] = Unit {0}
AreInTurn jobs needs (e ∷ es) = AreInTurn jobs needs es × (is_finished (states_after needs es) ≡ false) × IsNext jobs needs es e

-- If a build always picks the first unit that may begin, in plan order, its events are exactly
-- those of which `AreInTurn` is true. Zero jobs count as one.
abbrev pub BuildsGoInTurn : Type 0
BuildsGoInTurn = (options : Options) (project : Project) (es : List (Event BadUnit)) → ByFirst options project es ↔ AreInTurn (max options.jobs 1) (needs_of project) es
