-- How a build may end.
use Rattle.std.specs.Prelude.{◌≡◌, ◌⊎◌, ℕ, Bool, false, max, codes, List, [], Some, None, IsTrue, IfOk, IfErr, Result, Ok, Err}
use Rattle.std.specs.Io.KnownBytes.{Appends}
use Rattle.pb_build_result.specs.declared.fault.BuildFault.{BuildFault}
use Rattle.pb_build_result.specs.declared.fault.BuildFault.TheVariants.{Plan, Toolchain, Child, Device, Sink, OutOfMemory}
use Rattle.pb_build_result.specs.declared.fault.DeviceFault.TheVariants as device
use Rattle.pb_build_result.specs.declared.summary.Summary.{Summary}
use Rattle.pb_run_flight.specs.Steps.{PicksFirst, PicksLast, TurnsOfJobs}
use Rattle.pb_run_flight.specs.declared.turn.First.{First}
use Rattle.pb_run_flight.specs.declared.turn.Jobs.{Jobs}
use Rattle.pb_run_flight.specs.declared.turn.Last.{Last}
use Rattle.pb_run_flight.specs.declared.turn.Step.{Step}
use Rattle.pb_message.specs.Message.{finish_line}
use Rattle.pb_workspace_types.specs.declared.options.Options.{Options}
use Rattle.pb_place_types.specs.CallsInTurn.{past_calls}
use Rattle.pb_place_types.specs.Counts.{Counts, named_in, up, up_starts}
use Rattle.pb_place_types.specs.Sinks.{SinkState, TakesPart}
use Rattle.pb_place_types.specs.World.{World, Answers, from_nothing}
use Rattle.pb_place_types.specs.declared.place.Failure.TheVariants.{Called, Started}
use Rattle.pb_command_types.specs.declared.project.Project.{Project}
use Rattle.pb_run.specs.Steps.{NoStart}
use Rattle.pb_run.specs.Invariants.{IsInOrder, records_folder}
use Rattle.pb_store.specs.Looking.{opened_looked}
use Rattle.pb_store.specs.Folder.{next_in}
use Rattle.pb_build_turns.specs.Ends.{TurnsEnd}
use Rattle.pb_build_turns.specs.Executor.{BuildState}
use Rattle.pb_build.specs.Causes.{MayPlan, NamesCall, PlansInTurn, StopsBefore, plan_called, ready_called, CountsAs}
use Rattle.pb_build.specs.Environment.{environment_of}
use Rattle.pb_build.specs.Planning.{IsProject, IsRefused, IsToldRefusal}
use Rattle.pb_build.specs.Result.{toolchain_of, setup_of}
use Rattle.pb_build.specs.declared.builder.BuildPlan.{BuildPlan}
use Rattle.pb_build.specs.declared.builder.Prepared.{Prepared}
use Rattle.pb_store.specs.Calls.{FailedLast}

-- Before the units begin.

-- the world is unchanged
abbrev pub Stays : Bool → World → World → Type 0
Stays is_modelled old new = IsTrue is_modelled → new ≡ old

-- A build of this world has this plan. The plan's environment follows from the world's variables
-- and the options. The plan's project is the project of the build.
abbrev pub IsPlanOf : Options → World → BuildPlan → Type 0
IsPlanOf options w plan = (plan.environment ≡ environment_of options w.variables) × IsProject options (environment_of options w.variables).target w plan.project

-- A build was planned, and nothing else was done. Nothing was changed or written, and no child was
-- started. Only the calls of the planning were made.
pub record PlansFrom (is_modelled : Bool) (options : Options) (plan : Result BuildPlan BuildFault) (old new : BuildState) : Type 0 where
  pub is : IsTrue is_modelled → IfOk plan (IsPlanOf options old.world)
  pub refused : IsTrue is_modelled → IfErr plan (IsToldRefusal options (environment_of options old.world.variables).target old.world)
  pub stays : Stays is_modelled old.world new.world
  pub takes : CountsAs NoStart MayPlan plan old.counts new.counts
  pub named : NamesCall plan new.counts
  pub calls : IsTrue is_modelled → PlansInTurn plan (plan_called options old.world) old.counts new.counts
  pub most : new.most ≡ old.most
  pub heard : new.heard ≡ old.heard

-- the compiler does not report its version for a project of this world
abbrev pub IsSilent : Answers → Options → World → Type 0
IsSilent child options w =
    (project : Project) × IsProject options (environment_of options w.variables).target w project × (toolchain_of child (environment_of options w.variables) project (from_nothing (environment_of options w.variables).target w) ≡ None)

-- Why no unit began. The build may be refused. The compiler may fail to report its version, or fail
-- to answer. Memory may run out. A call on a path or a variable may fail, either in the planning or
-- when the records are opened.
abbrev pub FailsBefore : Bool → Answers → Options → BuildFault → World → Counts → Counts → Type 0
FailsBefore is_modelled child options (Plan why) w old new = (IsTrue is_modelled → IsRefused options (environment_of options w.variables).target w why) × (new.starts ≡ old.starts) × (new.failures ≡ old.failures)
FailsBefore is_modelled child options Toolchain w old new = (IsTrue is_modelled → IsSilent child options w) × (new.starts ≡ up_starts old.starts) × (new.failures ≡ old.failures)
FailsBefore is_modelled child options (Child key fault) w old new = (key ≡ codes "-vV") × (new.starts ≡ up_starts old.starts) × FailedLast (Started fault) old new
FailsBefore is_modelled child options (Device name (device.Place fault)) w old new = ((new.starts ≡ old.starts) ⊎ (new.starts ≡ up_starts old.starts)) × FailedLast (Called fault) old new × (named_in new ≡ name)
FailsBefore is_modelled child options (Device name device.NumbersSpent) w old new = ⊥
FailsBefore is_modelled child options Sink w old new = ⊥
FailsBefore is_modelled child options OutOfMemory w old new = ((new.starts ≡ old.starts) ⊎ (new.starts ≡ up_starts old.starts)) × (new.failures ≡ old.failures)

-- What a build's units start from: the project of this world, its setup, and the next run number.
-- That run number is one above the greatest run number in the project's records.
pub record IsPrepared (child : Answers) (options : Options) (w : World) (prepared : Prepared) : Type 0 where
  pub toolchain : List ℕ
  pub says : toolchain_of child (environment_of options w.variables) prepared.project (from_nothing (environment_of options w.variables).target w) ≡ Some toolchain
  pub setup : prepared.setup ≡ setup_of options (environment_of options w.variables) toolchain
  pub project : IsProject options (environment_of options w.variables).target w prepared.project
  pub next : prepared.store.next ≡ next_in (records_folder prepared.project) w

-- The units are prepared. The compiler has answered the query of its version, the project is in
-- order, and nothing has changed. The calls were those of the planning, the query and the opening
-- of the records, in this order.
pub record Prepares (is_modelled : Bool) (child : Answers) (options : Options) (prepared : Prepared) (old new : World) (before now : Counts) (most : ℕ) (after : ℕ) : Type 0 where
  pub is : IsTrue is_modelled → IsPrepared child options old prepared
  pub order : IsInOrder prepared.project
  pub stays : Stays is_modelled old new
  pub starts : now.starts ≡ up_starts before.starts
  pub failures : now.failures ≡ before.failures
  pub calls : IsTrue is_modelled → now ≡ ready_called (opened_looked (records_folder prepared.project) old) (past_calls (plan_called options old) before)
  pub at_most : after ≡ max most 1

-- The units.

-- the units were prepared, and then their run ended
pub record UnitsEnd {S : Type 0} (is_modelled : Bool) (child : Answers) (Turns : S → List ℕ → List ℕ → Step → S → Type 0) (options : Options) (from last : S) (result : Result Summary BuildFault) (old new : BuildState) : Type 0 where
  pub prepared : Prepared
  pub mid : BuildState
  pub heard : mid.heard ≡ old.heard
  pub prepares : Prepares is_modelled child options prepared old.world mid.world old.counts mid.counts old.most mid.most
  pub ends : TurnsEnd is_modelled child Turns prepared.setup prepared.project prepared.store.next from last result mid new

-- no unit began, for a reason that `FailsBefore` states; nothing was changed or written
pub record NoneBegan (is_modelled : Bool) (child : Answers) (options : Options) (result : Result Summary BuildFault) (old new : BuildState) : Type 0 where
  pub fault : BuildFault
  pub answer : result ≡ Err fault
  pub why : FailsBefore is_modelled child options fault old.world old.counts new.counts
  pub stays : Stays is_modelled old.world new.world
  pub most : (new.most ≡ old.most) ⊎ (new.most ≡ max old.most 1)
  pub heard : new.heard ≡ old.heard
  pub landed : new.counts.starts.flying ≡ []

-- No unit began, and the turn decided no step. The calls stopped as `StopsBefore` states.
pub record StopsEarly {S : Type 0} (is_modelled : Bool) (child : Answers) (options : Options) (from last : S) (result : Result Summary BuildFault) (old new : BuildState) : Type 0 where
  pub none_began : NoneBegan is_modelled child options result old new
  pub unasked : last ≡ from
  pub calls : IsTrue is_modelled → StopsBefore options old.world none_began.fault old.counts new.counts

-- the work of a build before its finish line: the build stops before its units begin, or the run of
-- its units ends
abbrev pub Works : {S : Type 0} → Bool → Answers → (S → List ℕ → List ℕ → Step → S → Type 0) → Options → S → S → Result Summary BuildFault → BuildState → BuildState → Type 0
Works is_modelled child Turns options from last result old new = StopsEarly is_modelled child options from last result old new ⊎ UnitsEnd is_modelled child Turns options from last result old new

-- The finish line.

-- Either these bytes are written, and `inner` is the result. Or the sink takes a prefix of these
-- bytes and fails, and the fault `Sink` is the result.
abbrev pub EndsWith : List ℕ → Result Summary BuildFault → Result Summary BuildFault → SinkState → SinkState → Type 0
EndsWith bytes inner result old new =
    ((result ≡ inner) × Appends old.taken new.taken bytes × (new.faults ≡ old.faults)) ⊎ ((result ≡ Err Sink) × TakesPart bytes old.taken new.taken × (new.faults ≡ up old.faults))

-- the finish line is written, unless the build is refused or the sink has already failed
abbrev pub Closes : Result Summary BuildFault → Result Summary BuildFault → SinkState → SinkState → Type 0
Closes (Ok summary) result old new = EndsWith (finish_line summary.success) (Ok summary) result old new
Closes (Err (Plan why)) result old new = (result ≡ Err (Plan why)) × (new ≡ old)
Closes (Err Sink) result old new = (result ≡ Err Sink) × (new ≡ old)
Closes (Err fault) result old new = EndsWith (finish_line false) (Err fault) result old new

-- A build as a whole.

-- a build ended its work with `inner`; then the finish line was written or left out, as `Closes`
-- states
pub record Builds {S : Type 0} (is_modelled : Bool) (child : Answers) (Turns : S → List ℕ → List ℕ → Step → S → Type 0) (options : Options) (from last : S) (result : Result Summary BuildFault) (old new : BuildState) : Type 0 where
  pub inner : Result Summary BuildFault
  pub heard : SinkState
  pub works : Works is_modelled child Turns options from last inner old record new { heard = heard }
  pub closes : Closes inner result heard new.heard

-- A build with the options' number of jobs. The pick chooses which unit begins. The state of the
-- pick is `pick` before the build and `picked` after the build.
abbrev pub BuildsBy : {S : Type 0} → Bool → Answers → (S → List ℕ → ℕ → S → Type 0) → Options → S → S → Result Summary BuildFault → BuildState → BuildState → Type 0
BuildsBy {S} is_modelled child Picks options pick picked result old new =
    let from : Jobs S = record { pick = pick; jobs = options.jobs } in
    let last : Jobs S = record { pick = picked; jobs = options.jobs } in
    Builds is_modelled child (TurnsOfJobs Picks) options from last result old new

-- the pick that chooses the first, in plan order, of the units that may begin
abbrev pub PicksFirstOf : First → List ℕ → ℕ → First → Type 0
PicksFirstOf old ready index new = PicksFirst ready index

abbrev pub BuildsFirst : Bool → Answers → Options → Result Summary BuildFault → BuildState → BuildState → Type 0
BuildsFirst is_modelled child options result old new = let pick : First = record {} in BuildsBy is_modelled child PicksFirstOf options pick pick result old new

-- the pick that chooses the last, in plan order, of the units that may begin
abbrev pub PicksLastOf : Last → List ℕ → ℕ → Last → Type 0
PicksLastOf old ready index new = PicksLast ready index

abbrev pub BuildsLast : Bool → Answers → Options → Result Summary BuildFault → BuildState → BuildState → Type 0
BuildsLast is_modelled child options result old new = let pick : Last = record {} in BuildsBy is_modelled child PicksLastOf options pick pick result old new
