-- How a step that reads files ends: which faults come from outside the rules, and how the counters
-- of the place change.
use Rattle.std.specs.Prelude.{◌≡◌, ℕ, List, [], Bool, true, false, Option, Some, None, Result, Ok, Err, MatchResult}
use Rattle.pb_place_types.specs.At.{At}
use Rattle.pb_place_types.specs.Children.{KeepsStill}
use Rattle.pb_place_types.specs.Counts.{Counts, named_in, up}
use Rattle.pb_place_types.specs.declared.place.Failure.{Failure}
use Rattle.pb_place_types.specs.declared.place.Failure.TheVariants.{Called}
use Rattle.pb_place_types.specs.declared.place.PlaceFault.{PlaceFault}
use Rattle.pb_place_types.specs.declared.place.PlaceFault.TheVariants as place
use Rattle.pb_workspace_types.specs.declared.fault.LoadFault.{LoadFault}
use Rattle.pb_workspace_types.specs.declared.fault.LoadFault.TheVariants.{Place, OutOfMemory}

-- the fault reports a failed call of the place
abbrev pub is_failure : LoadFault → Bool
is_failure (Place path fault) = true
is_failure _ = false

-- The fault reports a failed call of the place, or that memory ran out. Definitions of answers do
-- not have such faults.
abbrev pub is_outside : LoadFault → Bool
is_outside (Place path fault) = true
is_outside OutOfMemory = true
is_outside _ = false

-- the fault says that a file could not be read, or that a folder could not be listed
abbrev pub is_read_fault : PlaceFault → Bool
is_read_fault place.Read = true
is_read_fault place.List = true
is_read_fault _ = false

-- if the fault reports a failed call, this call was to read a file or to list a folder
abbrev pub is_read : LoadFault → Bool
is_read (Place path fault) = is_read_fault fault
is_read _ = true

-- the failure that the place recorded for a failed call
abbrev pub failure_of : LoadFault → Option Failure
failure_of (Place path fault) = Some (Called fault)
failure_of _ = None

-- the path that was passed to the failed call
abbrev pub path_told : LoadFault → List ℕ
path_told (Place path fault) = path
path_told _ = []

-- the fault of a failed call on a path; if memory ran out, the fault is out of memory
abbrev pub fault_at : List ℕ → PlaceFault → LoadFault
fault_at path place.OutOfMemory = OutOfMemory
fault_at path fault = Place path fault

-- the result is exactly this answer, unless a call failed or memory ran out
abbrev pub UnlessFailed : {A : Type 0} → Result A LoadFault → Result A LoadFault → Type 0
UnlessFailed result answer = MatchResult result (λ x. answer ≡ Ok x) (λ e. is_outside e ≡ false → answer ≡ Err e)

-- No child was started. A call failed if and only if the result reports a failed call. In this case
-- the result has the call's own fault and path, and no call came after this call.
abbrev pub ReadsOnly : {T : Type 0} → Result T LoadFault → Counts → Counts → Type 0
ReadsOnly result old new = MatchResult result (λ _. (new.failures ≡ old.failures) × (new.starts ≡ old.starts))
    (λ e. (new.starts ≡ old.starts) × (is_failure e ≡ false → new.failures ≡ old.failures) × (is_failure e ≡ true → new.failures ≡ up old.failures) × (is_failure e ≡ true → new.late ≡ 0) × (is_failure e ≡ true → new.last ≡ failure_of e) × (is_failure e ≡ true → named_in new ≡ path_told e) × (is_read e ≡ true))

-- The step changes nothing but the counters. If a call failed, no call came after the failed call.
pub record OnlyLooks {T : Type 0} (result : Result T LoadFault) (old new : At) : Type 0 where
  pub world : new.world ≡ old.world
  pub most : new.most ≡ old.most
  pub still : KeepsStill old.still new.still
  pub reads : ReadsOnly result old.counts new.counts
