-- How a step of one unit ends: which call failed, with which fault, and how often a child was
-- started. Faults are stated both with the unit's key and without it.
use Rattle.std.specs.Prelude.{◌≡◌, ℕ, List, Result, Ok, Err, ◌≢◌, ◌⊎◌, ◌++◌, ◌∷◌, [], Bool, true, false, Option, Some, None, IfErr, MatchResult, IsSome}
use Rattle.pb_build_result.specs.declared.fault.BuildFault.{BuildFault}
use Rattle.pb_build_result.specs.declared.fault.BuildFault.TheVariants.{Child, Device}
use Rattle.pb_build_result.specs.declared.fault.BuildFault.TheVariants as build
use Rattle.pb_build_result.specs.declared.fault.DeviceFault.TheVariants as device
use Rattle.pb_place_types.specs.At.{At}
use Rattle.pb_place_types.specs.CallsInTurn.{FailsAt, MakesSome, past_calls}
use Rattle.pb_place_types.specs.Children.{is_flying, KeepsStill, KeepsStillOutside}
use Rattle.pb_place_types.specs.Counts.{Counts, Starts, up, up_starts, without, counted_finish}
use Rattle.pb_place_types.specs.World.{ChangesOnly}
use Rattle.pb_place_types.specs.declared.call.Call.{Call}
use Rattle.pb_place_types.specs.declared.call.Call.TheVariants as call
use Rattle.pb_place_types.specs.declared.child_in_flight.ChildInFlight.{ChildInFlight}
use Rattle.pb_place_types.specs.declared.command.Ended.{Ended}
use Rattle.pb_place_types.specs.declared.place.Failure.TheVariants.{Called, Started}
use Rattle.pb_place_types.specs.declared.place.PlaceFault.{PlaceFault}
use Rattle.pb_place_types.specs.declared.place.PlaceFault.TheVariants as place
use Rattle.pb_place_types.specs.declared.place.StartFault.{StartFault}
use Rattle.pb_place_types.specs.declared.place.StartFault.TheVariants as start
use Rattle.pb_run.specs.declared.begun.SpawnedChild.{SpawnedChild}
use Rattle.pb_run.specs.declared.faults.StepFault.{StepFault}
use Rattle.pb_run.specs.declared.faults.StepFault.TheVariants as step
use Rattle.pb_store.specs.Calls.{FailedLast}
use Rattle.pb_store.specs.declared.fault.StoreFault.TheVariants as store

-- a child's fault as a fault of the step; out of memory becomes a fault of the store
abbrev pub started : StartFault → StepFault
started start.OutOfMemory = step.Store store.OutOfMemory
started fault = step.Start fault

-- a step's fault as a fault of the build, with the unit's key; out of memory has no key
abbrev pub named : List ℕ → StepFault → BuildFault
named unit (step.Store (store.Place fault)) = Device unit (device.Place fault)
named unit (step.Store store.NumbersSpent) = Device unit device.NumbersSpent
named unit (step.Store store.OutOfMemory) = build.OutOfMemory
named unit (step.Start fault) = Child unit fault

-- A fault of a build as the fault of the step from which it came. No step ends with a refusal,
-- `Toolchain` or `Sink`.
abbrev pub fault_in : BuildFault → StepFault
fault_in (Device unit (device.Place fault)) = step.Store (store.Place fault)
fault_in (Device unit device.NumbersSpent) = step.Store store.NumbersSpent
fault_in (Child unit fault) = step.Start fault
fault_in _ = step.Store store.OutOfMemory

abbrev pub bare : {T : Type 0} → Result T BuildFault → Result T StepFault
bare (Ok x) = Ok x
bare (Err e) = Err (fault_in e)

-- the fault names this unit, or memory ran out
abbrev pub IsOfUnit : List ℕ → BuildFault → Type 0
IsOfUnit key (Device unit fault) = unit ≡ key
IsOfUnit key build.OutOfMemory = Unit {0}
IsOfUnit key (Child unit fault) = unit ≡ key
IsOfUnit key _ = ⊥

-- the fault of a call on files or variables as a fault of the build, with this name; out of memory
-- has no name
abbrev pub device_fault : List ℕ → PlaceFault → BuildFault
device_fault unit place.OutOfMemory = build.OutOfMemory
device_fault unit fault = Device unit (device.Place fault)

-- no child was started, and no child has ended
abbrev pub NoStart : {T : Type 0} → T → Starts → Starts → Type 0
NoStart x old new = new ≡ old

-- How the two steps of a unit change the counters of starts.

-- one more start is counted; the last child in flight has this ticket, which is new
pub record StartsRise (ticket : ℕ) (old new : Starts) : Type 0 where
  pub child : ChildInFlight
  pub its : child.ticket ≡ ticket
  pub free : is_flying ticket old.flying ≡ false
  pub lifted : new ≡ record old { count = up old.count; flying = old.flying ++ child ∷ [] }

-- How the counters of starts change when a unit begins. `LandsBy` is how they change when the unit
-- answers.
abbrev pub BeginsBy : Option SpawnedChild → Starts → Starts → Type 0
BeginsBy None old new = new ≡ old
BeginsBy (Some launched) old new = StartsRise launched.ticket old new

abbrev pub LandsBy : Option SpawnedChild → Starts → Starts → Type 0
LandsBy None old new = new ≡ old
LandsBy (Some launched) old new = new ≡ record old { flying = without launched.ticket old.flying }

abbrev pub Lands : {T : Type 0} → Option SpawnedChild → T → Starts → Starts → Type 0
Lands launched x old new = LandsBy launched old new

-- if there is a child, its end was awaited and its answer was dropped; otherwise nothing was done
abbrev pub Drops : Option SpawnedChild → Counts → Counts → Type 0
Drops None old new = new ≡ old
Drops (Some launched) old new = (result : Result Ended StartFault) × (new ≡ counted_finish launched.ticket result old) × IfErr result (λ e. e ≢ start.OutOfMemory → (e ≡ start.Died) ⊎ (e ≡ start.Capture))

-- Calls on files and variables that are made one after the other.

-- How these calls ended with this fault of a build. Either one of the calls failed; then all calls
-- before it succeeded, and no call came after it. Or memory ran out after the first n calls. No
-- other fault is possible.
abbrev pub StopsAt : BuildFault → List Call → Counts → Counts → Type 0
StopsAt (Device unit (device.Place fault)) calls old new = FailsAt fault calls old new
StopsAt build.OutOfMemory calls old new = MakesSome calls old new
StopsAt e calls old new = ⊥

-- After a success exactly these calls were made. After a fault, the calls stopped at one of these
-- calls. Each call may fail with its own fault, so the counters determine the order of the calls.
abbrev pub MakesInTurn : {T : Type 0} → Result T BuildFault → List Call → Counts → Counts → Type 0
MakesInTurn result calls old new = MatchResult result (λ x. new ≡ past_calls calls old) (λ e. StopsAt e calls old new)

-- The cause of a step's fault. If a call failed, the call had this fault, and no later call was
-- made. If no number was left, or memory ran out, no call failed.
abbrev pub StepCause : StepFault → Counts → Counts → Type 0
StepCause (step.Store (store.Place fault)) old new = FailedLast (Called fault) old new
StepCause (step.Store store.NumbersSpent) old new = new.failures ≡ old.failures
StepCause (step.Store store.OutOfMemory) old new = new.failures ≡ old.failures
StepCause (step.Start fault) old new = FailedLast (Started fault) old new

-- How a step changes the counters. After a success no call has failed, and the starts changed as
-- `Goes` says. After a fault, `May` allows the fault with this change of the starts, and the fault
-- has its cause.
abbrev pub StepTakes : {T : Type 0} → (T → Starts → Starts → Type 0) → (StepFault → Starts → Starts → Type 0) → Result T StepFault → Counts → Counts → Type 0
StepTakes Goes May result old new = MatchResult result (λ x. (new.failures ≡ old.failures) × Goes x old.starts new.starts) (λ e. May e old.starts new.starts × StepCause e old new)

-- The faults with which a unit may fail to begin, and how the starts change with each. If a spawn
-- was tried, one more start is counted. Otherwise the starts are unchanged. None of these faults
-- leaves a new child in flight.
abbrev pub BeginFaults : Option ℕ → StepFault → Starts → Starts → Type 0
BeginFaults next (step.Store (store.Place fault)) old new = (fault ≢ place.Write) × (new ≡ old)
BeginFaults next (step.Store store.NumbersSpent) old new = (next ≡ None) × (new ≡ old)
BeginFaults next (step.Store store.OutOfMemory) old new = (new ≡ old) ⊎ (new ≡ up_starts old)
BeginFaults next (step.Start fault) old new = (fault ≡ start.CannotStart) × (new ≡ up_starts old)

-- the faults of the one call that removes the files of a folder
abbrev pub MayRemove : StepFault → Starts → Starts → Type 0
MayRemove (step.Store (store.Place fault)) old new = (fault ≡ place.Remove) × (new ≡ old)
MayRemove (step.Store store.NumbersSpent) old new = ⊥
MayRemove (step.Store store.OutOfMemory) old new = new ≡ old
MayRemove (step.Start fault) old new = ⊥

-- The faults of the calls that a unit makes after its child's end, or without a child. These calls
-- read and write files, list folders and read variables.
abbrev pub MayFollow : StepFault → Starts → Starts → Type 0
MayFollow (step.Store (store.Place fault)) old new = (fault ≢ place.Remove) × (new ≡ old)
MayFollow (step.Store store.NumbersSpent) old new = ⊥
MayFollow (step.Store store.OutOfMemory) old new = new ≡ old
MayFollow (step.Start fault) old new = ⊥

-- The faults with which a unit may fail to answer. The child's end is awaited, the dep-info is
-- read, and the record is kept or gets a number. `NumbersSpent` is possible only if the unit has no
-- child and no number is left.
abbrev pub MayAnswer : Option ℕ → Option SpawnedChild → StepFault → Starts → Starts → Type 0
MayAnswer next launched (step.Store (store.Place fault)) old new = (fault ≢ place.Remove) × LandsBy launched old new
MayAnswer next launched (step.Store store.NumbersSpent) old new = (next ≡ None) × (launched ≡ None) × (new ≡ old)
MayAnswer next launched (step.Store store.OutOfMemory) old new = LandsBy launched old new
MayAnswer next launched (step.Start fault) old new = IsSome launched × ((fault ≡ start.Died) ⊎ (fault ≡ start.Capture)) × LandsBy launched old new

-- The fault comes from a step that a unit takes only if something differs. Such a step takes a run
-- number, removes the record or the files, or spawns the child.
abbrev pub starts : StepFault → Bool
starts (step.Store (store.Place place.Remove)) = true
starts (step.Store (store.Place fault)) = false
starts (step.Store store.NumbersSpent) = true
starts (step.Store store.OutOfMemory) = false
starts (step.Start fault) = true

-- the cause of a build's fault; the name in the fault does not matter
abbrev pub HasCause : BuildFault → Counts → Counts → Type 0
HasCause fault old new = StepCause (fault_in fault) old new

-- the build's fault comes from a step that a unit takes only if something differs, as `starts` says
abbrev pub is_of_start : BuildFault → Bool
is_of_start fault = starts (fault_in fault)

-- Calls that are made one after the other. In these definitions the faults have no key.

-- How these calls ended with this fault of a step. Either one of the calls failed; then all calls
-- before it succeeded, and no call came after it. Or memory ran out after the first n calls.
abbrev pub StepStopsAt : StepFault → List Call → Counts → Counts → Type 0
StepStopsAt (step.Store (store.Place fault)) calls old new = FailsAt fault calls old new
StepStopsAt (step.Store store.NumbersSpent) calls old new = ⊥
StepStopsAt (step.Store store.OutOfMemory) calls old new = MakesSome calls old new
StepStopsAt (step.Start fault) calls old new = ⊥

-- After a success exactly these calls were made. After a fault, the calls stopped at one of these
-- calls.
abbrev pub StepMakes : {T : Type 0} → Result T StepFault → List Call → Counts → Counts → Type 0
StepMakes result calls old new = MatchResult result (λ x. new ≡ past_calls calls old) (λ e. StepStopsAt e calls old new)

-- How these calls ended in a step that may give a record a run number. If no number was left, all
-- calls but the write of the record were made. Any other fault is one of `StepStopsAt`.
abbrev pub NumberingStopsAt : StepFault → List Call → Counts → Counts → Type 0
NumberingStopsAt (step.Store store.NumbersSpent) calls old new = (before : List Call) × (path : List ℕ) × (calls ≡ before ++ call.Write path ∷ []) × (new ≡ past_calls before old)
NumberingStopsAt e calls old new = StepStopsAt e calls old new

abbrev pub NumbersInTurn : {T : Type 0} → Result T StepFault → List Call → Counts → Counts → Type 0
NumbersInTurn result calls old new = MatchResult result (λ x. new ≡ past_calls calls old) (λ e. NumberingStopsAt e calls old new)

-- How a step changes the place.

-- the step changes nothing but the counters
pub record StepLooks {T : Type 0} (May : StepFault → Starts → Starts → Type 0) (result : Result T StepFault) (old new : At) : Type 0 where
  pub world : new.world ≡ old.world
  pub most : new.most ≡ old.most
  pub still : KeepsStill old.still new.still
  pub takes : StepTakes NoStart May result old.counts new.counts

-- the step changes files only at these paths, and starts no child
pub record StepChanges {T : Type 0} (inside : List ℕ → Bool) (May : StepFault → Starts → Starts → Type 0) (result : Result T StepFault) (old new : At) : Type 0 where
  pub only : ChangesOnly inside old.world new.world
  pub most : new.most ≡ old.most
  pub still : KeepsStillOutside inside old.counts.starts.flying old.still new.still
  pub takes : StepTakes NoStart May result old.counts new.counts
