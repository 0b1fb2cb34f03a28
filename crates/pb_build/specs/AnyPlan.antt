-- A build of a given plan. The plan may have been made at another moment or with other options, so
-- the plan need not fit this world.
use Rattle.std.specs.Prelude.{◌≡◌, ◌⊎◌, ℕ, Bool, max, List, Some, None, IsTrue, Result, Ok, Err}
use Rattle.pb_build_result.specs.declared.fault.BuildFault.{BuildFault}
use Rattle.pb_build_result.specs.declared.fault.BuildFault.TheVariants.{Toolchain}
use Rattle.pb_build_result.specs.declared.summary.Summary.{Summary}
use Rattle.pb_run_flight.specs.Steps.{TurnsOfJobs}
use Rattle.pb_run_flight.specs.declared.turn.First.{First}
use Rattle.pb_run_flight.specs.declared.turn.Jobs.{Jobs}
use Rattle.pb_run_flight.specs.declared.turn.Step.{Step}
use Rattle.pb_workspace_types.specs.declared.options.Options.{Options}
use Rattle.pb_place_types.specs.Counts.{up_starts}
use Rattle.pb_place_types.specs.World.{World, Answers, from_nothing}
use Rattle.pb_command_types.specs.declared.project.Project.{Project}
use Rattle.pb_run.specs.Steps.{HasCause}
use Rattle.pb_run.specs.Invariants.{IsInOrder, records_folder}
use Rattle.pb_store.specs.Looking.{opened_looked}
use Rattle.pb_store.specs.Folder.{next_in}
use Rattle.pb_build_turns.specs.Ends.{TurnsEnd}
use Rattle.pb_place_types.specs.Sinks.{SinkState}
use Rattle.pb_build_turns.specs.Executor.{BuildState}
use Rattle.pb_build.specs.Causes.{MayReady, Names, ReadyStopsAt, ready_called}
use Rattle.pb_build.specs.Ending.{Closes, PicksFirstOf, Stays}
use Rattle.pb_build.specs.Result.{toolchain_of, setup_of}
use Rattle.pb_build.specs.declared.builder.BuildPlan.{BuildPlan}
use Rattle.pb_build.specs.declared.builder.Prepared.{Prepared}
use Rattle.pb_build.specs.declared.environment.Environment.{Environment}

-- What the units of a project start from: project, setup and next run number. The setup comes from
-- these options, this environment, and the compiler's version in this world. The next run number is
-- one above the greatest in the project's records.
pub record IsReadyFor (child : Answers) (options : Options) (environment : Environment) (project : Project) (w : World) (prepared : Prepared) : Type 0 where
  pub toolchain : List ℕ
  pub says : toolchain_of child environment project (from_nothing project.workspace.target w) ≡ Some toolchain
  pub setup : prepared.setup ≡ setup_of options environment toolchain
  pub project_is : prepared.project ≡ project
  pub next : prepared.store.next ≡ next_in (records_folder project) w

-- if the fault is `Toolchain`, the compiler does not report its version
abbrev pub IsSilentFault : Answers → Environment → Project → World → BuildFault → Type 0
IsSilentFault child environment project w Toolchain = toolchain_of child environment project (from_nothing project.workspace.target w) ≡ None
IsSilentFault child environment project w _ = Unit {0}

-- The units of a plan were prepared, with the plan's own environment and project. The compiler
-- answered the query of its version, and the project's records were opened. Nothing was changed or
-- written.
pub record IsReadied (is_modelled : Bool) (child : Answers) (options : Options) (plan : BuildPlan) (prepared : Prepared) (old new : BuildState) : Type 0 where
  pub ready : IsTrue is_modelled → IsReadyFor child options plan.environment plan.project old.world prepared
  pub project : prepared.project ≡ plan.project
  pub order : IsInOrder prepared.project
  pub stays : Stays is_modelled old.world new.world
  pub starts : new.counts.starts ≡ up_starts old.counts.starts
  pub failures : new.counts.failures ≡ old.counts.failures
  pub calls : IsTrue is_modelled → new.counts ≡ ready_called (opened_looked (records_folder plan.project) old.world) old.counts
  pub most : new.most ≡ max old.most 1
  pub heard : new.heard ≡ old.heard

-- The units of a plan could not be prepared. The fault came from the query of the compiler's
-- version, or from the opening of the records. Nothing was changed or written.
pub record IsUnready (is_modelled : Bool) (child : Answers) (plan : BuildPlan) (fault : BuildFault) (old new : BuildState) : Type 0 where
  pub silent : IsTrue is_modelled → IsSilentFault child plan.environment plan.project old.world fault
  pub may : MayReady fault old.counts.starts new.counts.starts
  pub cause : HasCause fault old.counts new.counts
  pub names : Names fault new.counts
  pub stays : Stays is_modelled old.world new.world
  pub calls : IsTrue is_modelled → ReadyStopsAt fault (opened_looked (records_folder plan.project) old.world) old.counts new.counts
  pub most : (new.most ≡ old.most) ⊎ (new.most ≡ max old.most 1)
  pub heard : new.heard ≡ old.heard

-- If the planning failed, the preparation returns the planning's fault and does nothing. Otherwise
-- the preparation was made. `IsReadied` is true if the preparation succeeded, and `IsUnready` if it
-- failed.
abbrev pub Readies : Bool → Answers → Options → Result BuildPlan BuildFault → Result Prepared BuildFault → BuildState → BuildState → Type 0
Readies is_modelled child options (Err fault) result old new = (result ≡ Err fault) × (new ≡ old)
Readies is_modelled child options (Ok plan) (Err fault) old new = IsUnready is_modelled child plan fault old new
Readies is_modelled child options (Ok plan) (Ok prepared) old new = IsReadied is_modelled child options plan prepared old new

-- Either the build stopped before its units and the turn decided no step, or the units were
-- prepared and their run ended.
pub data WorksOn {S : Type 0} (is_modelled : Bool) (child : Answers) (Turns : S → List ℕ → List ℕ → Step → S → Type 0) (options : Options) (plan : Result BuildPlan BuildFault) (from : S) : S → Result Summary BuildFault → BuildState → BuildState → Type 0 where
  stopped : (fault : BuildFault) (old new : BuildState) (unready : Readies is_modelled child options plan (Err fault) old new) → WorksOn is_modelled child Turns options plan from from (Err fault) old new
  worked : (prepared : Prepared) (last : S) (result : Result Summary BuildFault) (old mid new : BuildState) (ready : Readies is_modelled child options plan (Ok prepared) old mid) (ends : TurnsEnd is_modelled child Turns prepared.setup prepared.project prepared.store.next from last result mid new)
      → WorksOn is_modelled child Turns options plan from last result old new

-- A build of a given plan ended its work with `inner`. Then the finish line was written or left
-- out, as `Closes` states.
pub record BuildsOn {S : Type 0} (is_modelled : Bool) (child : Answers) (Turns : S → List ℕ → List ℕ → Step → S → Type 0) (options : Options) (plan : Result BuildPlan BuildFault) (from last : S) (result : Result Summary BuildFault) (old new : BuildState) : Type 0 where
  pub inner : Result Summary BuildFault
  pub heard : SinkState
  pub works : WorksOn is_modelled child Turns options plan from last inner old record new { heard = heard }
  pub closes : Closes inner result heard new.heard

-- a build of a given plan with the options' number of jobs; of the units that may begin, the first
-- in plan order begins next
abbrev pub BuildsOnFirst : Bool → Answers → Options → Result BuildPlan BuildFault → Result Summary BuildFault → BuildState → BuildState → Type 0
BuildsOnFirst is_modelled child options plan result old new =
    (from : Jobs First) × (from.jobs ≡ options.jobs) × (last : Jobs First) × BuildsOn is_modelled child (TurnsOfJobs PicksFirstOf) options plan from last result old new
