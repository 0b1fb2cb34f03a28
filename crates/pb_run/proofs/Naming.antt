-- A fault that gets the unit's name and loses it again is the same; and what a step says of it, said of the fault of the build.
use Rattle.std.proofs.Common.{◌≡◌, ◌≢◌, ◌∙◌, ◌⊎◌, ℕ, List, Option, None, IsSome, refl, ap}
use Rattle.pb_build_result.specs.declared.fault.BuildFault.{BuildFault}
use Rattle.pb_build_result.specs.declared.fault.BuildFault.TheVariants.{Plan, Toolchain, Child, Device, Sink, OutOfMemory}
use Rattle.pb_build_result.specs.declared.fault.DeviceFault.TheVariants.{Place, NumbersSpent}
use Rattle.pb_place_types.specs.Counts.{Counts, Starts, up_starts}
use Rattle.pb_place_types.specs.declared.call.Call.{Call}
use Rattle.pb_place_types.specs.declared.place.PlaceFault.TheVariants as place
use Rattle.pb_place_types.specs.declared.place.StartFault.TheVariants as start
use Rattle.pb_run.specs.Steps.{HasCause, LandsBy, StopsAt, is_of_start, IsOfUnit, fault_in, named, MayAnswer, BeginFaults, StepCause, StepStopsAt, starts}
use Rattle.pb_run.specs.declared.begun.SpawnedChild.{SpawnedChild}
use Rattle.pb_run.specs.declared.faults.StepFault.{StepFault}
use Rattle.pb_run.specs.declared.faults.StepFault.TheVariants as step
use Rattle.pb_store.specs.declared.fault.StoreFault.TheVariants as store

pub bare_named : (unit : List ℕ) (e : StepFault) → fault_in (named unit e) ≡ e
bare_named unit (step.Store (store.Place fault)) = refl
bare_named unit (step.Store store.NumbersSpent) = refl
bare_named unit (step.Store store.OutOfMemory) = refl
bare_named unit (step.Start fault) = refl

pub named_is : (unit : List ℕ) (e : StepFault) → IsOfUnit unit (named unit e)
named_is unit (step.Store (store.Place fault)) = refl
named_is unit (step.Store store.NumbersSpent) = refl
named_is unit (step.Store store.OutOfMemory) = tt
named_is unit (step.Start fault) = refl

pub bare_is : (unit : List ℕ) (e : StepFault) (told : BuildFault) → told ≡ named unit e → fault_in told ≡ e
bare_is unit e told is = ap fault_in is ∙ bare_named unit e

pub ruleset naming_laws = (bare_named, named_is)

-- For the layers that speak of the faults of a build.

-- the faults of the calls that look for a difference, remove the record and the files, and spawn the child of the unit of this key; a run number is missing only where none is left
abbrev pub MayBeginUnit : Option ℕ → List ℕ → BuildFault → Starts → Starts → Type 0
MayBeginUnit next key (Child unit fault) old new = (unit ≡ key) × (fault ≡ start.CannotStart) × (new ≡ up_starts old)
MayBeginUnit next key (Device unit (Place fault)) old new = (unit ≡ key) × (fault ≢ place.Write) × (new ≡ old)
MayBeginUnit next key (Device unit NumbersSpent) old new = (unit ≡ key) × (next ≡ None) × (new ≡ old)
MayBeginUnit next key OutOfMemory old new = (new ≡ old) ⊎ (new ≡ up_starts old)
MayBeginUnit next key _ old new = ⊥

-- of those that ask for the child's end, or read the record again, read the dep-info, and keep or renew the record
abbrev pub MayAnswerUnit : Option ℕ → List ℕ → Option SpawnedChild → BuildFault → Starts → Starts → Type 0
MayAnswerUnit next key launched (Child unit fault) old new = (unit ≡ key) × IsSome launched × ((fault ≡ start.Died) ⊎ (fault ≡ start.Capture)) × LandsBy launched old new
MayAnswerUnit next key launched (Device unit (Place fault)) old new = (unit ≡ key) × (fault ≢ place.Remove) × LandsBy launched old new
MayAnswerUnit next key launched (Device unit NumbersSpent) old new = (unit ≡ key) × (next ≡ None) × (launched ≡ None) × (new ≡ old)
MayAnswerUnit next key launched OutOfMemory old new = LandsBy launched old new
MayAnswerUnit next key launched _ old new = ⊥

pub begin_told : (next : Option ℕ) (key : List ℕ) (e : BuildFault) (old new : Starts) → IsOfUnit key e → BeginFaults next (fault_in e) old new → MayBeginUnit next key e old new
begin_told next key (Child unit fault) old new its may = (its, may.0, may.1)
begin_told next key (Device unit (Place fault)) old new its may = (its, may.0, may.1)
begin_told next key (Device unit NumbersSpent) old new its may = (its, may.0, may.1)
begin_told next key OutOfMemory old new its may = may
begin_told next key _ old new its may = absurd its

pub answer_told : (next : Option ℕ) (key : List ℕ) (launched : Option SpawnedChild) (e : BuildFault) (old new : Starts) → IsOfUnit key e → MayAnswer next launched (fault_in e) old new → MayAnswerUnit next key launched e old new
answer_told next key launched (Child unit fault) old new its may = (its, may.0, may.1, may.2)
answer_told next key launched (Device unit (Place fault)) old new its may = (its, may.0, may.1)
answer_told next key launched (Device unit NumbersSpent) old new its may = (its, may.0, may.1, may.2)
answer_told next key launched OutOfMemory old new its may = may
answer_told next key launched _ old new its may = absurd its

pub cause_told : (e : BuildFault) (old new : Counts) → StepCause (fault_in e) old new → HasCause e old new
cause_told (Plan refusal) old new cause = cause
cause_told Toolchain old new cause = cause
cause_told (Child unit fault) old new cause = cause
cause_told (Device unit (Place fault)) old new cause = cause
cause_told (Device unit NumbersSpent) old new cause = cause
cause_told Sink old new cause = cause
cause_told OutOfMemory old new cause = cause

pub stops_told : (key : List ℕ) (e : BuildFault) (calls : List Call) (old new : Counts) → IsOfUnit key e → StepStopsAt (fault_in e) calls old new → StopsAt e calls old new
stops_told key (Plan refusal) calls old new its stops = absurd its
stops_told key Toolchain calls old new its stops = absurd its
stops_told key (Child unit fault) calls old new its stops = stops
stops_told key (Device unit (Place fault)) calls old new its stops = stops
stops_told key (Device unit NumbersSpent) calls old new its stops = stops
stops_told key Sink calls old new its stops = absurd its
stops_told key OutOfMemory calls old new its stops = stops

pub start_told : (e : BuildFault) → is_of_start e ≡ starts (fault_in e)
start_told (Plan refusal) = refl
start_told Toolchain = refl
start_told (Child unit fault) = refl
start_told (Device unit (Place place.Read)) = refl
start_told (Device unit (Place place.List)) = refl
start_told (Device unit (Place place.Write)) = refl
start_told (Device unit (Place place.Remove)) = refl
start_told (Device unit (Place place.Variable)) = refl
start_told (Device unit (Place place.OutOfMemory)) = refl
start_told (Device unit NumbersSpent) = refl
start_told Sink = refl
start_told OutOfMemory = refl
