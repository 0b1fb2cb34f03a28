-- What comes before a build's units.
use Rattle.std.proofs.Common.{◌≡◌, ◌∙◌, ◌⊎◌, Bool, ℕ, max, [], Some, None, IsTrue, Result, refl, sym, ap, subst, inl, inr}
use Rattle.pb_build_result.specs.declared.fault.BuildFault.{BuildFault}
use Rattle.pb_build_result.specs.declared.fault.BuildFault.TheVariants.{Plan, Toolchain, Child, Device, Sink, OutOfMemory}
use Rattle.pb_build_result.specs.declared.fault.DeviceFault.TheVariants as device
use Rattle.pb_place_types.specs.Counts.{Counts, Starts, up_starts}
use Rattle.pb_place_types.specs.World.{World, Answers, from_nothing}
use Rattle.pb_place_types.specs.declared.place.PlaceFault.TheVariants as place
use Rattle.pb_workspace_types.specs.declared.options.Options.{Options}
use Rattle.pb_command_types.specs.declared.project.Project.{Project}
use Rattle.pb_run.specs.Steps.{HasCause}
use Rattle.pb_run.specs.Invariants.{records_folder}
use Rattle.pb_store.specs.Calls.{FailsToOpen}
use Rattle.pb_store.specs.Folder.{next_in}
use Rattle.pb_store.specs.declared.fault.OpenFault.{OpenFault}
use Rattle.pb_store.specs.declared.fault.OpenFault.TheVariants as open_fault
use Rattle.pb_workspace.proofs.Accepted.{target_kept}
use Rattle.pb_build.specs.Causes.{MayPlan, MayAsk, MayReady, Names}
use Rattle.pb_build_turns.specs.Executor.{BuildState}
use Rattle.pb_build.specs.Ending.{FailsBefore, IsSilent, IsPrepared, PlansFrom}
use Rattle.pb_build.specs.Environment.{environment_of}
use Rattle.pb_build.specs.Planning.{IsProject, IsToldRefusal}
use Rattle.pb_build.specs.AnyPlan.{IsReadyFor, IsSilentFault}
use Rattle.pb_build.specs.Private.{IsUnrefused, fault_of_opening}
use Rattle.pb_build.specs.Result.{toolchain_of, setup_of}
use Rattle.pb_build.specs.declared.builder.BuildPlan.{BuildPlan}
use Rattle.pb_build.specs.declared.builder.Prepared.{Prepared}
use Rattle.pb_build.specs.declared.environment.Environment.{Environment}

-- The opening.

pub open_may : (e : OpenFault) (old new : Counts) → new.starts ≡ old.starts → FailsToOpen e old new → MayPlan (fault_of_opening e) old.starts new.starts × HasCause (fault_of_opening e) old new × Names (fault_of_opening e) new
open_may (open_fault.Place path place.Read) old new starts (kind, failed, named) = (starts, failed, named)
open_may (open_fault.Place path place.List) old new starts (kind, failed, named) = (starts, failed, named)
open_may (open_fault.Place path place.Write) old new starts (kind, failed, named) = (starts, failed, named)
open_may (open_fault.Place path place.Remove) old new starts (kind, failed, named) = (starts, failed, named)
open_may (open_fault.Place path place.Variable) old new starts (kind, failed, named) = (starts, failed, named)
open_may (open_fault.Place path place.OutOfMemory) old new starts (kind, failed, named) = absurd (no_memory kind)
  where
    no_memory : (place.OutOfMemory ≡ place.List) ⊎ (place.OutOfMemory ≡ place.Read) → ⊥
    no_memory (inl e) = cc
    no_memory (inr e) = cc
open_may open_fault.OutOfMemory old new starts none = (starts, none, tt)

-- no store tells a refusal
pub open_unrefused : (e : OpenFault) → IsUnrefused (fault_of_opening e)
open_unrefused (open_fault.Place path place.Read) = tt
open_unrefused (open_fault.Place path place.List) = tt
open_unrefused (open_fault.Place path place.Write) = tt
open_unrefused (open_fault.Place path place.Remove) = tt
open_unrefused (open_fault.Place path place.Variable) = tt
open_unrefused (open_fault.Place path place.OutOfMemory) = tt
open_unrefused open_fault.OutOfMemory = tt

-- The query.

pub ask_ready : (e : BuildFault) (old new : Starts) → MayAsk e old new → MayReady e old new
ask_ready (Plan why) old new may = absurd may
ask_ready Toolchain old new may = may
ask_ready (Child key fault) old new may = may
ask_ready (Device key (device.Place fault)) old new may = absurd may
ask_ready (Device key device.NumbersSpent) old new may = absurd may
ask_ready Sink old new may = absurd may
ask_ready OutOfMemory old new may = may

pub open_ready : (e : BuildFault) (old mid new : Starts) → mid ≡ up_starts old → IsUnrefused e → MayPlan e mid new → MayReady e old new
open_ready (Plan why) old mid new one unrefused may = absurd unrefused
open_ready Toolchain old mid new one unrefused may = absurd may
open_ready (Child key fault) old mid new one unrefused may = absurd may
open_ready (Device key (device.Place fault)) old mid new one unrefused may = may ∙ one
open_ready (Device key device.NumbersSpent) old mid new one unrefused may = absurd may
open_ready Sink old mid new one unrefused may = absurd may
open_ready OutOfMemory old mid new one unrefused may = inr (may ∙ one)

-- Faults before the units.

pub plan_fails : (is_modelled : Bool) (child : Answers) (options : Options) (e : BuildFault) (w : World) (old new : Counts) → MayPlan e old.starts new.starts → HasCause e old new → Names e new
    → (IsTrue is_modelled → IsToldRefusal options (environment_of options w.variables).target w e) → FailsBefore is_modelled child options e w old new
plan_fails is_modelled child options (Plan why) w old new may cause named refused = (refused, may, cause)
plan_fails is_modelled child options Toolchain w old new may cause named refused = absurd may
plan_fails is_modelled child options (Child key fault) w old new may cause named refused = absurd may
plan_fails is_modelled child options (Device name (device.Place fault)) w old new may cause named refused = (inl may, cause, named)
plan_fails is_modelled child options (Device name device.NumbersSpent) w old new may cause named refused = absurd may
plan_fails is_modelled child options Sink w old new may cause named refused = absurd may
plan_fails is_modelled child options OutOfMemory w old new may cause named refused = (inl may, cause)

pub ready_fails : (is_modelled : Bool) (child : Answers) (options : Options) (e : BuildFault) (w : World) (old new : Counts) → MayReady e old.starts new.starts → HasCause e old new → Names e new
    → (IsTrue is_modelled → e ≡ Toolchain → IsSilent child options w) → FailsBefore is_modelled child options e w old new
ready_fails is_modelled child options (Plan why) w old new may cause named silent = absurd may
ready_fails is_modelled child options Toolchain w old new may cause named silent = (λ t. silent t refl, may, cause)
ready_fails is_modelled child options (Child key fault) w old new may cause named silent = (may.0, may.1, cause)
ready_fails is_modelled child options (Device name (device.Place fault)) w old new may cause named silent = (inr may, cause, named)
ready_fails is_modelled child options (Device name device.NumbersSpent) w old new may cause named silent = absurd may
ready_fails is_modelled child options Sink w old new may cause named silent = absurd may
ready_fails is_modelled child options OutOfMemory w old new may cause named silent = (may, cause)

-- the counters of a call that ended well before
pub may_ready_from : (e : BuildFault) (old mid new : Starts) → mid ≡ old → MayReady e mid new → MayReady e old new
may_ready_from e old mid new same may = subst (λ s. MayReady e s new) same may

-- and no child flies then
pub may_ready_landed : (e : BuildFault) (old new : Starts) → MayReady e old new → old.flying ≡ [] → new.flying ≡ []
may_ready_landed (Plan why) old new may none = absurd may
may_ready_landed Toolchain old new may none = ap (λ (s : Starts). s.flying) may ∙ none
may_ready_landed (Child key fault) old new may none = ap (λ (s : Starts). s.flying) may.1 ∙ none
may_ready_landed (Device name (device.Place fault)) old new may none = ap (λ (s : Starts). s.flying) may ∙ none
may_ready_landed (Device name device.NumbersSpent) old new may none = absurd may
may_ready_landed Sink old new may none = absurd may
may_ready_landed OutOfMemory old new (inl may) none = ap (λ (s : Starts). s.flying) may ∙ none
may_ready_landed OutOfMemory old new (inr may) none = ap (λ (s : Starts). s.flying) may ∙ none

-- a plan that ended so
pub plan_at : (is_modelled : Bool) (options : Options) (plan ended : Result BuildPlan BuildFault) (from here : BuildState) → plan ≡ ended → PlansFrom is_modelled options plan from here → PlansFrom is_modelled options ended from here
plan_at is_modelled options plan ended from here is planned = subst (λ (r : Result BuildPlan BuildFault). PlansFrom is_modelled options r from here) is planned

-- the same, whatever the sink
pub unheard : (is_modelled : Bool) (options : Options) (plan : Result BuildPlan BuildFault) (from here : BuildState) → PlansFrom is_modelled options plan from here → PlansFrom is_modelled options plan from record here { heard = from.heard }
unheard is_modelled options plan from here planned = record {
  is = planned.is;
  refused = planned.refused;
  stays = planned.stays;
  takes = planned.takes;
  named = planned.named;
  calls = planned.calls;
  most = planned.most;
  heard = refl;
}

-- the most children, counted from before the plan
pub most_from : (from here new : ℕ) → here ≡ from → (new ≡ here) ⊎ (new ≡ max here 1) → (new ≡ from) ⊎ (new ≡ max from 1)
most_from from here new same most = subst (λ m. (new ≡ m) ⊎ (new ≡ max m 1)) same most

-- What the units start from.

pub silent_of : (child : Answers) (options : Options) (environment : Environment) (project : Project) (v w : World) (e : BuildFault) → v ≡ w → environment ≡ environment_of options w.variables → IsProject options environment.target w project
    → IsSilentFault child environment project v e → e ≡ Toolchain → IsSilent child options w
silent_of child options environment project v w e same is of_world silent toolchain =
    let told : toolchain_of child environment project (from_nothing project.workspace.target v) ≡ None = subst (IsSilentFault child environment project v) toolchain silent in
    let target : project.workspace.target ≡ environment.target = target_kept options.manifest environment.target w project.workspace of_world.selected.read in
    subst (λ (env : Environment). (project : Project) × IsProject options env.target w project × (toolchain_of child env project (from_nothing env.target w) ≡ None)) is
    (project, of_world, subst (λ (x : World). toolchain_of child environment project (from_nothing environment.target x) ≡ None) same (subst (λ t. toolchain_of child environment project (from_nothing t v) ≡ None) target told))

pub prepared_of : (child : Answers) (options : Options) (environment : Environment) (project : Project) (v w : World) (prepared : Prepared) → v ≡ w → environment ≡ environment_of options w.variables → IsProject options environment.target w project
    → IsReadyFor child options environment project v prepared → IsPrepared child options w prepared
prepared_of child options environment project v w prepared same is of_world ready =
    let target : project.workspace.target ≡ environment.target = target_kept options.manifest environment.target w project.workspace of_world.selected.read in
    let says : toolchain_of child environment prepared.project (from_nothing environment.target w) ≡ Some ready.toolchain =
    subst (λ (p : Project). toolchain_of child environment p (from_nothing environment.target w) ≡ Some ready.toolchain) (sym ready.project_is)
    (subst (λ (x : World). toolchain_of child environment project (from_nothing environment.target x) ≡ Some ready.toolchain) same (subst (λ t. toolchain_of child environment project (from_nothing t v) ≡ Some ready.toolchain) target ready.says)) in
    let at : IsProject options environment.target w prepared.project = subst (λ (p : Project). IsProject options environment.target w p) (sym ready.project_is) of_world in
    record {
      toolchain = ready.toolchain;
      says = subst (λ (env : Environment). toolchain_of child env prepared.project (from_nothing env.target w) ≡ Some ready.toolchain) is says;
      setup = ready.setup ∙ ap (λ env. setup_of options env ready.toolchain) is;
      project = subst (λ (env : Environment). IsProject options env.target w prepared.project) is at;
      next =
          subst (λ (x : World). prepared.store.next ≡ next_in (records_folder prepared.project) x) same
          (subst (λ (p : Project). prepared.store.next ≡ next_in (records_folder p) v) (sym ready.project_is) (ready.next));
    }
