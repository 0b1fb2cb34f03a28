-- What a build does before its units begin. The build makes calls and starts a child. If a fault
-- ends the build before its units begin, these definitions say which calls were made, and which
-- call failed.
use Rattle.std.specs.Prelude.{◌≡◌, ◌⊎◌, ◌+◌, ◌++◌, ◌∷◌, codes, length, max, List, [], Result, MatchResult, OnErr, OnOk, ℕ}
use Rattle.pb_place_types.specs.At.{At}
use Rattle.pb_place_types.specs.CallsInTurn.{past_calls}
use Rattle.pb_place_types.specs.declared.call.Call.{Call}
use Rattle.pb_place_types.specs.declared.call.Call.TheVariants as call
use Rattle.pb_place_types.specs.Counts.{Counts, Starts, named_in, one_start, past_call, up_starts, past_start_fault}
use Rattle.pb_place_types.specs.World.{World}
use Rattle.pb_workspace_types.specs.declared.options.Options.{Options}
use Rattle.pb_command_types.specs.declared.project.Project.{Project}
use Rattle.pb_run.specs.Steps.{NoStart, StopsAt, HasCause}
use Rattle.pb_run.specs.Invariants.{records_folder}
use Rattle.pb_store.specs.Looking.{opened_looked}
use Rattle.pb_workspace.specs.LookedAt.{looked_at}
use Rattle.pb_build.specs.Environment.{environment_of}
use Rattle.pb_build.specs.Planning.{IsProject}
use Rattle.pb_build_result.specs.declared.fault.BuildFault.{BuildFault}
use Rattle.pb_build_result.specs.declared.fault.DeviceFault.TheVariants as device
use Rattle.pb_build_result.specs.declared.fault.BuildFault.TheVariants.{Plan, Toolchain, Child, Device, Sink, OutOfMemory}
use Rattle.pb_place_types.specs.declared.place.StartFault.{StartFault}
use Rattle.pb_place_types.specs.declared.place.StartFault.TheVariants as start

-- the faults that may end the planning, which comes before the query of the compiler's version
abbrev pub MayPlan : BuildFault → Starts → Starts → Type 0
MayPlan (Plan why) old new = new ≡ old
MayPlan Toolchain old new = ⊥
MayPlan (Child unit fault) old new = ⊥
MayPlan (Device unit (device.Place fault)) old new = new ≡ old
MayPlan (Device unit device.NumbersSpent) old new = ⊥
MayPlan Sink old new = ⊥
MayPlan OutOfMemory old new = new ≡ old

-- the faults that may end the query of the compiler's version
abbrev pub MayAsk : BuildFault → Starts → Starts → Type 0
MayAsk Toolchain old new = new ≡ up_starts old
MayAsk (Child unit fault) old new = (unit ≡ codes "-vV") × (new ≡ up_starts old)
MayAsk OutOfMemory old new = (new ≡ old) ⊎ (new ≡ up_starts old)
MayAsk _ old new = ⊥

-- the faults that may end the query of the compiler's version, or the opening of the records after
-- the query
abbrev pub MayReady : BuildFault → Starts → Starts → Type 0
MayReady (Plan why) old new = ⊥
MayReady Toolchain old new = new ≡ up_starts old
MayReady (Child unit fault) old new = (unit ≡ codes "-vV") × (new ≡ up_starts old)
MayReady (Device unit (device.Place fault)) old new = new ≡ up_starts old
MayReady (Device unit device.NumbersSpent) old new = ⊥
MayReady Sink old new = ⊥
MayReady OutOfMemory old new = (new ≡ old) ⊎ (new ≡ up_starts old)

-- A fault of a call on files or variables contains the path or the name that was passed to this
-- call.
abbrev pub Names : BuildFault → Counts → Type 0
Names (Device name fault) new = named_in new ≡ name
Names _ new = Unit {0}

abbrev pub NamesCall : {T : Type 0} → Result T BuildFault → Counts → Type 0
NamesCall result new = MatchResult result (λ _. Unit {0}) (λ e. Names e new)

-- How a child is started for the query of the compiler's version.

abbrev pub child_fault : List ℕ → StartFault → BuildFault
child_fault unit start.OutOfMemory = OutOfMemory
child_fault unit fault = Child unit fault

-- How a step changes the counters.
-- - If the step succeeds, no call failed, and the step started the children that `Begins` names.
-- - If the step fails, `May` allows the fault together with the children that were started. The
--   counters show the call that caused the fault.
abbrev pub CountsAs : {T : Type 0} → (T → Starts → Starts → Type 0) → (BuildFault → Starts → Starts → Type 0) → Result T BuildFault → Counts → Counts → Type 0
CountsAs Begins May result old new = MatchResult result (λ x. (new.failures ≡ old.failures) × Begins x old.starts new.starts) (λ e. May e old.starts new.starts × HasCause e old new)

abbrev pub OneStart : {T : Type 0} → T → Starts → Starts → Type 0
OneStart x old new = new ≡ up_starts old

-- the faults with which a step may end, if the step starts a child with this name
abbrev pub MayStart : List ℕ → BuildFault → Starts → Starts → Type 0
MayStart name (Child unit fault) old new = (unit ≡ name) × (new ≡ up_starts old)
MayStart name OutOfMemory old new = (new ≡ old) ⊎ (new ≡ up_starts old)
MayStart name _ old new = ⊥

-- one call has started a child, which has ended
abbrev pub RunsOnce : {T : Type 0} → T → Counts → Counts → Type 0
RunsOnce x old new = new ≡ past_call (one_start old)

-- Why there is no answer of a child. Either the spawn failed, or the wait for the child's end
-- failed. If memory ran out, the child may or may not have been started.
abbrev pub SpawnEnds : BuildFault → Counts → Counts → Type 0
SpawnEnds (Child unit fault) old new = new ≡ past_start_fault fault (one_start old)
SpawnEnds OutOfMemory old new = (new ≡ old) ⊎ (new ≡ past_call (one_start old))
SpawnEnds e old new = ⊥

-- How the work before the units changes the place.

-- The work changes nothing but the counters. If a call failed, the fault names the path or the
-- variable of this call, and no later call was made.
pub record OnlyLooks {T : Type 0} (May : BuildFault → Starts → Starts → Type 0) (result : Result T BuildFault) (old new : At) : Type 0 where
  pub world : new.world ≡ old.world
  pub most : new.most ≡ old.most
  pub takes : CountsAs NoStart May result old.counts new.counts
  pub names : NamesCall result new.counts

-- The work starts one child and waits for its end. The work changes no file and no variable.
pub record OnlyAsks {T : Type 0} (May : BuildFault → Starts → Starts → Type 0) (result : Result T BuildFault) (old new : At) : Type 0 where
  pub world : new.world ≡ old.world
  pub most : OnOk result (new.most ≡ max old.most (length old.counts.starts.flying + 1))
  pub most_else : OnErr result ((new.most ≡ old.most) ⊎ (new.most ≡ max old.most (length old.counts.starts.flying + 1)))
  pub takes : CountsAs OneStart May result old.counts new.counts

-- Which calls are made before the units begin.

-- the calls that read the variables of a build
abbrev pub variables_asked : List Call
variables_asked = call.Variable (codes "RUSTC") ∷ call.Variable (codes "RUSTFLAGS") ∷ call.Variable (codes "CARGO_TARGET_DIR") ∷ []

-- the calls that plan a build: first the calls that read the build's variables, and then the calls
-- that read the workspace
abbrev pub plan_called : Options → World → List Call
plan_called options w = variables_asked ++ looked_at options.manifest (environment_of options w.variables).target w

-- If the plan is refused, all of these calls were made. Any other fault ended the planning at one
-- of these calls.
abbrev pub PlanStopsAt : BuildFault → List Call → Counts → Counts → Type 0
PlanStopsAt (Plan why) calls old new = new ≡ past_calls calls old
PlanStopsAt e calls old new = StopsAt e calls old new

-- If there is a plan, exactly these calls were made, in this order. Otherwise the calls stopped as
-- `PlanStopsAt` states.
abbrev pub PlansInTurn : {T : Type 0} → Result T BuildFault → List Call → Counts → Counts → Type 0
PlansInTurn result calls old new = MatchResult result (λ x. new ≡ past_calls calls old) (λ e. PlanStopsAt e calls old new)

-- How the counters change if a fault ends the query of the compiler's version. If the fault is
-- `Toolchain`, one call started a child. The other faults are those of `SpawnEnds`.
abbrev pub AskEnds : BuildFault → Counts → Counts → Type 0
AskEnds Toolchain old new = new ≡ past_call (one_start old)
AskEnds e old new = SpawnEnds e old new

-- the counters after the query of the compiler's version (one call), and after the given calls,
-- which open the records
abbrev pub ready_called : List Call → Counts → Counts
ready_called calls old = past_calls calls (past_call (one_start old))

-- the build stopped at the query of the compiler's version, or later at one of the given calls,
-- which open the records
abbrev pub ReadyStopsAt : BuildFault → List Call → Counts → Counts → Type 0
ReadyStopsAt e calls old new = AskEnds e old new ⊎ StopsAt e calls (past_call (one_start old)) new

-- If the preparation succeeded, the query came first, and then exactly these calls, in this order.
-- If the preparation failed, the calls stopped as `ReadyStopsAt` states.
abbrev pub ReadiesInTurn : {T : Type 0} → Result T BuildFault → List Call → Counts → Counts → Type 0
ReadiesInTurn result calls old new = MatchResult result (λ x. new ≡ ready_called calls old) (λ e. ReadyStopsAt e calls old new)

-- Where a build of this world stopped before its units began. Either the planning stopped, or the
-- preparation of the project stopped after all calls of the planning.
abbrev pub StopsBefore : Options → World → BuildFault → Counts → Counts → Type 0
StopsBefore options w fault old new =
    PlanStopsAt fault (plan_called options w) old new
    ⊎ ((project : Project) × IsProject options (environment_of options w.variables).target w project × ReadyStopsAt fault (opened_looked (records_folder project) w) (past_calls (plan_called options w) old) new)
