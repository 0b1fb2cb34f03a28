-- Calls before the units, in turn.
use Rattle.std.proofs.Common.{◌≡◌, ◌∙◌, ◌++◌, ◌∷◌, inr, false, true, List, [], codes, refl, sym, ap, subst}
use Rattle.pb_build_result.specs.declared.fault.BuildFault.{BuildFault}
use Rattle.pb_build_result.specs.declared.fault.BuildFault.TheVariants.{Plan, Toolchain, Device, OutOfMemory}
use Rattle.pb_build.specs.Causes.{AskEnds, PlanStopsAt, ReadyStopsAt, StopsBefore, plan_called, ready_called, variables_asked, SpawnEnds}
use Rattle.pb_build.specs.Environment.{environment_of}
use Rattle.pb_build.specs.Planning.{IsProject}
use Rattle.pb_build.specs.Private.{IsRefusedOf, fault_of_load}
use Rattle.pb_workspace_types.specs.declared.fault.LoadFault.{LoadFault}
use Rattle.pb_workspace_types.specs.declared.fault.LoadFault.TheVariants as load
use Rattle.pb_workspace_types.specs.declared.options.Options.{Options}
use Rattle.pb_workspace_types.specs.declared.workspace.Workspace.{Workspace}
use Rattle.pb_place_types.specs.CallsInTurn.{MakesSome, past_calls}
use Rattle.pb_place_types.specs.declared.call.Call.{Call}
use Rattle.pb_place_types.specs.declared.call.Call.TheVariants as call
use Rattle.pb_place_types.specs.Counts.{Counts, past_call}
use Rattle.pb_place_types.specs.World.{World}
use Rattle.pb_command_types.specs.declared.project.Project.{Project}
use Rattle.pb_run.specs.Steps.{StopsAt}
use Rattle.pb_run.specs.Invariants.{records_folder}
use Rattle.pb_run.proofs.Calling.{memory_last, stops_first, stops_then}
use Rattle.pb_store.specs.Looking.{opened_looked}
use Rattle.pb_workspace_package.specs.Causes.{is_failure, is_outside}
use Rattle.pb_workspace_package.specs.Looks.{FailsOn}

-- a fault at a variable, and behind all of them
abbrev RUSTC : Call
RUSTC = call.Variable (codes "RUSTC")

abbrev RUSTFLAGS : Call
RUSTFLAGS = call.Variable (codes "RUSTFLAGS")

abbrev TARGET : Call
TARGET = call.Variable (codes "CARGO_TARGET_DIR")

pub first_stops : (e : BuildFault) (old new : Counts) → StopsAt e (RUSTC ∷ []) old new → StopsAt e variables_asked old new
first_stops e old new is = stops_first e (RUSTC ∷ []) (RUSTFLAGS ∷ TARGET ∷ []) old new is

pub second_stops : (e : BuildFault) (old mid new : Counts) → mid ≡ past_call old → StopsAt e (RUSTFLAGS ∷ []) mid new → StopsAt e variables_asked old new
second_stops e old mid new first is = stops_then e (RUSTC ∷ []) (RUSTFLAGS ∷ TARGET ∷ []) old mid new first (stops_first e (RUSTFLAGS ∷ []) (TARGET ∷ []) mid new is)

pub third_stops : (e : BuildFault) (old mid last new : Counts) → mid ≡ past_call old → last ≡ past_call mid → StopsAt e (TARGET ∷ []) last new → StopsAt e variables_asked old new
third_stops e old mid last new first second is = stops_then e (RUSTC ∷ RUSTFLAGS ∷ []) (TARGET ∷ []) old last new (second ∙ ap past_call first) is

pub all_asked : (old mid last new : Counts) → mid ≡ past_call old → last ≡ past_call mid → new ≡ past_call last → new ≡ past_calls variables_asked old
all_asked old mid last new first second third = third ∙ ap past_call (second ∙ ap past_call first)

-- a workspace that is not read
abbrev Ends : LoadFault → List Call → Counts → Counts → Type 0
Ends e names old new = (is_outside e ≡ false → new ≡ past_calls names old) × (is_failure e ≡ false → MakesSome names old new) × (is_failure e ≡ true → FailsOn e names old new)

load_stops : (e : LoadFault) (names : List Call) (old new : Counts) → Ends e names old new → PlanStopsAt (fault_of_load e) names old new
load_stops (load.Place path fault) names old new ends = ends.2 refl
load_stops load.OutOfMemory names old new ends = ends.1 refl
load_stops _ names old new ends = ends.0 refl

pub load_fault_stops : (e : LoadFault) (told : BuildFault) (names : List Call) (old new : Counts) → told ≡ fault_of_load e → Ends e names old new → PlanStopsAt told names old new
load_fault_stops e told names old new is ends = subst (λ f. PlanStopsAt f names old new) (sym is) (load_stops e names old new ends)

-- one that was read, and of which no plan is made
pub refused_stops : (options : Options) (ws : Workspace) (e : BuildFault) (names : List Call) (old new : Counts) → IsRefusedOf options ws e → new ≡ past_calls names old → PlanStopsAt e names old new
refused_stops options ws (Plan why) names old new may made = made
refused_stops options ws OutOfMemory names old new may made = memory_last names old new made
refused_stops options ws _ names old new may made = absurd may

-- the variables, and then the workspace
pub plan_first : (e : BuildFault) (a b : List Call) (old new : Counts) → StopsAt e a old new → PlanStopsAt e (a ++ b) old new
plan_first (Device unit fault) a b old new is = stops_first (Device unit fault) a b old new is
plan_first OutOfMemory a b old new is = stops_first OutOfMemory a b old new is
plan_first _ a b old new is = absurd is

-- the query
pub ask_stops : (e : BuildFault) (old new : Counts) → SpawnEnds e old new → AskEnds e old new
ask_stops Toolchain old new is = absurd is
ask_stops _ old new is = is

pub ruleset ask_laws = (ask_stops)

-- the plan, and then the query and the opening
pub plan_then : (options : Options) (project own : Project) (v w : World) (old mid new : Counts) → own ≡ project → v ≡ w → mid ≡ past_calls (plan_called options w) old → new ≡ ready_called (opened_looked (records_folder project) v) mid
    → new ≡ ready_called (opened_looked (records_folder own) w) (past_calls (plan_called options w) old)
plan_then options project own v w old mid new its same first made =
    subst (λ (p : Project). new ≡ ready_called (opened_looked (records_folder p) w) (past_calls (plan_called options w) old)) (sym its)
    (subst (λ (c : Counts). new ≡ ready_called (opened_looked (records_folder project) w) c) first (subst (λ (u : World). new ≡ ready_called (opened_looked (records_folder project) u) mid) same made))

pub plan_then_stops : (options : Options) (project : Project) (e : BuildFault) (v w : World) (old mid new : Counts) → v ≡ w → IsProject options (environment_of options w.variables).target w project → mid ≡ past_calls (plan_called options w) old
    → ReadyStopsAt e (opened_looked (records_folder project) v) mid new → StopsBefore options w e old new
plan_then_stops options project e v w old mid new same is first stops =
    inr
    (project, is, subst (λ (c : Counts). ReadyStopsAt e (opened_looked (records_folder project) w) c new) first (subst (λ (u : World). ReadyStopsAt e (opened_looked (records_folder project) u) mid new) same stops))
