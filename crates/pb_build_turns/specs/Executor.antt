-- A moment of a build, and what is always true of the executor of the build's units.
use Rattle.std.specs.Prelude.{ℕ, ◌≡◌, ◌≢◌, ◌∷◌, [], Bool, IsTrue, List, map, length, Option, Some, None, is_some, slice_get}
use Rattle.std.specs.List.{flat_map, AllByRecursion}
use Rattle.pb_run_flight.specs.Table.{if_so}
use Rattle.pb_place_types.specs.At.{At}
use Rattle.pb_place_types.specs.Counts.{Counts}
use Rattle.pb_place_types.specs.Sinks.{SinkState}
use Rattle.pb_place_types.specs.World.{World}
use Rattle.pb_place_types.specs.declared.child_in_flight.ChildInFlight.{ChildInFlight}
use Rattle.pb_command_types.specs.Targets.{unit_at}
use Rattle.pb_command_types.specs.declared.project.Project.{Project}
use Rattle.pb_run.specs.UnitSteps.{WritesTo, child_of}
use Rattle.pb_run.specs.Invariants.{IsInOrder, IsCommandOf, records_folder}
use Rattle.pb_run.specs.declared.begun.Begun.{Begun}
use Rattle.pb_run.specs.declared.begun.SpawnedChild.{SpawnedChild}
use Rattle.pb_store_soundness.specs.Numbers.{IsBefore}
use Rattle.pb_store_soundness.specs.Records.{records}
use Rattle.pb_store.specs.Folder.{HasNumbers}
use Rattle.pb_build_turns.specs.declared.executor.RunningUnit.{RunningUnit}
use Rattle.pb_build_turns.specs.declared.executor.UnitExecutor.{UnitExecutor}
use Rattle.pb_unit.specs.declared.plan.Planned.{Planned}

-- A moment has the world, the counters of the place, the greatest number of children that were in
-- flight at once, and the sink.
pub record BuildState : Type 0 where
  pub world : World
  pub counts : Counts
  pub most : ℕ
  pub heard : SinkState

abbrev pub moment : At → SinkState → BuildState
moment at heard = record { world = at.world; counts = at.counts; most = at.most; heard = heard }

-- what each unit needs; `indices_of` are the indices of units in flight, `ticket_in` and
-- `number_in` the ticket and the run number of a child
abbrev pub needs_of : Project → List (List ℕ)
needs_of project = map (λ (u : Planned). u.needs) project.plan.planned

abbrev pub index_of_unit : RunningUnit → ℕ
index_of_unit a = a.unit

abbrev pub indices_of : List RunningUnit → List ℕ
indices_of running = map index_of_unit running

abbrev pub ticket_in : Option SpawnedChild → List ℕ
ticket_in None = []
ticket_in (Some launched) = launched.ticket ∷ []

abbrev pub number_in : Option SpawnedChild → List ℕ
number_in None = []
number_in (Some launched) = launched.number ∷ []

abbrev pub ticket_of_child : ChildInFlight → ℕ
ticket_of_child child = child.ticket

-- The tickets of the children of units in flight. `numbers_of` are the run numbers of these
-- children, and `launched_of` the indices of the units with a child.
abbrev pub tickets_of : List RunningUnit → List ℕ
tickets_of running = flat_map (λ (a : RunningUnit). ticket_in (child_of a.begun)) running

abbrev pub numbers_of : List RunningUnit → List ℕ
numbers_of running = flat_map (λ (a : RunningUnit). number_in (child_of a.begun)) running

abbrev pub launched_of : List RunningUnit → List ℕ
launched_of running = flat_map (λ (a : RunningUnit). if_so (is_some (child_of a.begun)) a.unit) running

-- no number occurs twice in the list
abbrev pub AreApart : List ℕ → Type 0
AreApart [] = Unit {0}
AreApart (n ∷ ns) = AllByRecursion (λ m. n ≢ m) ns × AreApart ns

-- a unit that has begun, after its difference was moved to the list of reasons
abbrev pub noted : Begun → Begun
noted begun = record begun { difference = None }

-- the unit in flight is a unit of the plan; it has the planned unit's key, and one of the planned
-- unit's commands
pub record IsOfPlan (project : Project) (a : RunningUnit) : Type 0 where
  pub unit : Planned
  pub there : slice_get project.plan.planned a.unit ≡ Some unit
  pub key : a.begun.unit ≡ unit.key
  pub asks : IsCommandOf project unit a.begun.command

-- What is true of an executor at each moment. The project is in order, and the store is the store
-- of the project's records. The children in flight are the children of the units in flight. No two
-- of these units have the same index, ticket or run number.
pub record IsConsistent (c : UnitExecutor) (counts : Counts) : Type 0 where
  pub order : IsInOrder c.project
  pub folder : c.store.folder ≡ records_folder c.project
  pub long : length c.done.items ≡ length c.project.plan.planned
  pub reasoned : length c.reasons.items ≡ length c.project.plan.planned
  pub units : AllByRecursion (IsOfPlan c.project) c.running.items
  pub units_apart : AreApart (indices_of c.running.items)
  pub tickets : map ticket_of_child counts.starts.flying ≡ tickets_of c.running.items
  pub tickets_apart : AreApart (tickets_of c.running.items)
  pub numbers_apart : AreApart (numbers_of c.running.items)
  pub before : AllByRecursion (IsBefore c.store.next) (numbers_of c.running.items)

-- the child of a unit in flight writes into the unit's own folder
abbrev pub WritesOwn : Project → List ChildInFlight → RunningUnit → Type 0
WritesOwn project flying a = (unit : Planned) → unit_at project a.unit ≡ Some unit → WritesTo unit.out (child_of a.begun) flying

-- what each call of an executor requires, and what stays true until a call fails
pub record IsAble (is_modelled : Bool) (c : UnitExecutor) (at : At) : Type 0 where
  -- the store has the run numbers of its records
  pub numbers : IsTrue is_modelled → HasNumbers (records (records_folder c.project) at.world) c.store.numbers
  pub writes : AllByRecursion (WritesOwn c.project at.counts.starts.flying) c.running.items
