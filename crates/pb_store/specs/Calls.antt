-- How a call of the store changes the place, which call of the place failed, and what the failed
-- call's fault was.
use Rattle.std.specs.Prelude.{◌≡◌, ◌⊎◌, ℕ, List, Option, Some, None, Result, MatchResult, Bool, true, false, IsTrue, Contains, IfErr}
use Rattle.pb_place_types.specs.At.{At}
use Rattle.pb_place_types.specs.CallsInTurn.{Fails}
use Rattle.pb_place_types.specs.Children.{KeepsStill, KeepsStillOutside}
use Rattle.pb_place_types.specs.Counts.{Counts, named_in, up, past_call}
use Rattle.pb_place_types.specs.World.{World, listed_directly, ChangesOnly}
use Rattle.pb_place_types.specs.declared.call.Call.{Call}
use Rattle.pb_place_types.specs.declared.call.Call.TheVariants as call
use Rattle.pb_place_types.specs.declared.place.Failure.{Failure}
use Rattle.pb_place_types.specs.declared.place.Failure.TheVariants.{Called}
use Rattle.pb_place_types.specs.declared.place.PlaceFault.{PlaceFault}
use Rattle.pb_place_types.specs.declared.place.PlaceFault.TheVariants as place
use Rattle.pb_store_soundness.specs.Records.{ends_as_record}
use Rattle.pb_store.specs.declared.fault.OpenFault.{OpenFault}
use Rattle.pb_store.specs.declared.fault.OpenFault.TheVariants as open_fault
use Rattle.pb_store.specs.declared.fault.StoreFault.{StoreFault}
use Rattle.pb_store.specs.declared.fault.StoreFault.TheVariants.{Place, NumbersSpent, OutOfMemory}

-- a fault of the place as a fault of the store; out of memory stays out of memory
abbrev pub fault_in_store : PlaceFault → StoreFault
fault_in_store place.OutOfMemory = OutOfMemory
fault_in_store fault = Place fault

-- a fault of the place on this path as a fault of opening; out of memory stays out of memory
abbrev pub fault_in_opening : List ℕ → PlaceFault → OpenFault
fault_in_opening path place.OutOfMemory = open_fault.OutOfMemory
fault_in_opening path fault = open_fault.Place path fault

-- a call of the place failed in this way, and no call came after the failed call
abbrev pub FailedLast : Failure → Counts → Counts → Type 0
FailedLast failure old new = (new.failures ≡ up old.failures) × (new.late ≡ 0) × (new.last ≡ Some failure)

-- The cause of a fault of the store. For a fault of the place, a call failed with this fault and
-- was the last call. For any other fault, no call failed.
abbrev pub HasCause : StoreFault → Counts → Counts → Type 0
HasCause (Place fault) old new = FailedLast (Called fault) old new
HasCause NumbersSpent old new = new.failures ≡ old.failures
HasCause OutOfMemory old new = new.failures ≡ old.failures

-- How a call of the store changes the counters. The call starts no child. If the call succeeds, no
-- call of the place failed. If the call fails, the call's fault is allowed and has its cause.
abbrev pub CountsAs : {T : Type 0} → (StoreFault → Type 0) → Result T StoreFault → Counts → Counts → Type 0
CountsAs May result old new = (new.starts ≡ old.starts) × MatchResult result (λ x. new.failures ≡ old.failures) (λ e. May e × HasCause e old new)

-- the faults that are allowed for a call that reads files
abbrev pub MayRead : StoreFault → Type 0
MayRead (Place fault) = fault ≡ place.Read
MayRead NumbersSpent = ⊥
MayRead OutOfMemory = Unit {0}

-- the faults that are allowed for a call that looks at inputs: it reads files, lists folders and
-- reads variables
abbrev pub MayLook : StoreFault → Type 0
MayLook (Place fault) = (fault ≡ place.Read) ⊎ ((fault ≡ place.List) ⊎ (fault ≡ place.Variable))
MayLook NumbersSpent = ⊥
MayLook OutOfMemory = Unit {0}

-- the faults that are allowed for a call that removes a record
abbrev pub MayRemove : StoreFault → Type 0
MayRemove (Place fault) = fault ≡ place.Remove
MayRemove NumbersSpent = ⊥
MayRemove OutOfMemory = Unit {0}

-- The faults that are allowed for a call that first takes a run number. If no number is left, only
-- `NumbersSpent` is allowed. Otherwise the faults of `MayRemove` are allowed.
abbrev pub MayDrop : Option ℕ → StoreFault → Type 0
MayDrop None NumbersSpent = Unit {0}
MayDrop None (Place fault) = ⊥
MayDrop None OutOfMemory = ⊥
MayDrop (Some number) e = MayRemove e

-- the faults that are allowed for a call that writes a record
abbrev pub MayWrite : StoreFault → Type 0
MayWrite (Place fault) = fault ≡ place.Write
MayWrite NumbersSpent = ⊥
MayWrite OutOfMemory = Unit {0}

-- the faults that are allowed for a call that looks at inputs and then writes a record
abbrev pub MayKeep : StoreFault → Type 0
MayKeep (Place fault) = (fault ≡ place.Write) ⊎ MayLook (Place fault)
MayKeep NumbersSpent = ⊥
MayKeep OutOfMemory = Unit {0}

-- The faults that are allowed for a call that reads a record, takes a run number and writes the
-- record. `NumbersSpent` is allowed only if no number is left.
abbrev pub MayMigrate : Option ℕ → StoreFault → Type 0
MayMigrate next (Place fault) = (fault ≡ place.Write) ⊎ (fault ≡ place.Read)
MayMigrate next NumbersSpent = next ≡ None
MayMigrate next OutOfMemory = Unit {0}

-- The cause of a fault of opening. Either the call on this path failed with this fault and was the
-- last call, or memory ran out and no call failed.
abbrev pub FailsToOpen : OpenFault → Counts → Counts → Type 0
FailsToOpen (open_fault.Place path fault) old new = ((fault ≡ place.List) ⊎ (fault ≡ place.Read)) × FailedLast (Called fault) old new × (named_in new ≡ path)
FailsToOpen open_fault.OutOfMemory old new = new.failures ≡ old.failures

-- How opening changes the counters. Opening starts no child. If opening succeeds, no call of the
-- place failed. If opening fails, the fault has its cause.
abbrev pub CountsAsOpen : {T : Type 0} → Result T OpenFault → Counts → Counts → Type 0
CountsAsOpen result old new = (new.starts ≡ old.starts) × MatchResult result (λ x. new.failures ≡ old.failures) (λ e. FailsToOpen e old new)

-- How one call of the place ended, given the fault of the store. If the store's fault is a fault of
-- the place, the call failed with this fault. If no number is left, the call was not made. If
-- memory ran out, the call may have been made.
abbrev pub EndsOnce : Call → StoreFault → Counts → Counts → Type 0
EndsOnce call (Place fault) old new = Fails fault call old new
EndsOnce call NumbersSpent old new = new ≡ old
EndsOnce call OutOfMemory old new = (new ≡ old) ⊎ (new ≡ past_call old)

-- after a success this one call of the place was made; after an error the call ended as `EndsOnce`
-- says
abbrev pub CallsOnce : {T : Type 0} → Call → Result T StoreFault → Counts → Counts → Type 0
CallsOnce call result old new = MatchResult result (λ x. new ≡ past_call old) (λ e. EndsOnce call e old new)

-- if the fault says that a write failed, the failed call was the write of this file
abbrev pub FailsToWrite : {T : Type 0} → List ℕ → Result T StoreFault → Counts → Type 0
FailsToWrite path result new = IfErr result (λ e. e ≡ Place place.Write → new.failing ≡ Some (call.Write path))

-- the fault comes from a call that reads a file, lists a folder or reads a variable
abbrev pub is_look : PlaceFault → Bool
is_look place.Read = true
is_look place.List = true
is_look place.Write = false
is_look place.Remove = false
is_look place.Variable = true
is_look place.OutOfMemory = false

-- the store's fault comes from a call that reads a file, lists a folder or reads a variable
abbrev pub looked : StoreFault → Bool
looked (Place fault) = is_look fault
looked NumbersSpent = false
looked OutOfMemory = false

-- either memory ran out, or a record could not be read and the fault names the record's path, which
-- is one of these paths
abbrev pub ReadsOneOf : List (List ℕ) → OpenFault → Type 0
ReadsOneOf paths (open_fault.Place at fault) = (fault ≡ place.Read) × Contains paths at × (ends_as_record at ≡ true)
ReadsOneOf paths open_fault.OutOfMemory = Unit {0}

-- The fault says that memory ran out, that the folder could not be listed, or that a record
-- directly in the folder could not be read.
abbrev pub OpensBy : Bool → List ℕ → World → OpenFault → Type 0
OpensBy is_modelled folder w (open_fault.Place at fault) = ((fault ≡ place.List) × (at ≡ folder)) ⊎ ((fault ≡ place.Read) × (ends_as_record at ≡ true) × (IsTrue is_modelled → Contains (listed_directly folder w) at))
OpensBy is_modelled folder w open_fault.OutOfMemory = Unit {0}

-- This call of the store changes nothing but the counters. If a call of the place failed, the
-- failed call's fault is allowed, and no call came after the failed call.
pub record OnlyLooks {T : Type 0} (May : StoreFault → Type 0) (result : Result T StoreFault) (old new : At) : Type 0 where
  pub world : new.world ≡ old.world
  pub most : new.most ≡ old.most
  pub still : KeepsStill old.still new.still
  pub takes : CountsAs May result old.counts new.counts

-- Opening a store changes nothing but the counters. A fault of opening has its cause.
pub record OnlyOpens {T : Type 0} (result : Result T OpenFault) (old new : At) : Type 0 where
  pub world : new.world ≡ old.world
  pub most : new.most ≡ old.most
  pub still : KeepsStill old.still new.still
  pub takes : CountsAsOpen result old.counts new.counts

-- This call of the store changes files only at these paths, and starts no child. If a call of the
-- place failed, the failed call's fault is allowed, and no call came after the failed call.
pub record ChangesOnlyAt {T : Type 0} (inside : List ℕ → Bool) (May : StoreFault → Type 0) (result : Result T StoreFault) (old new : At) : Type 0 where
  pub only : ChangesOnly inside old.world new.world
  pub most : new.most ≡ old.most
  pub still : KeepsStillOutside inside old.counts.starts.flying old.still new.still
  pub takes : CountsAs May result old.counts new.counts
