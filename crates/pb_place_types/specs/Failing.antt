-- What a failed call leaves unchanged. The fault of the call is recorded as the last fault.
use Rattle.std.specs.Prelude.{◌≡◌, ◌≢◌, ◌⊎◌, ◌++◌, ℕ, Bool, false, List, Option, Some, None}
use Rattle.std.specs.FinMap as map
use Rattle.pb_place_types.specs.Paths.{is_below, is_at_or_below}
use Rattle.pb_place_types.specs.World.{World, Torn, PartlyRemoved, ChangesOnlyInSome}
use Rattle.pb_place_types.specs.Counts.{Counts, past_fault, past_place_fault, past_start_fault, up}
use Rattle.pb_place_types.specs.declared.call.Call.{Call}
use Rattle.pb_place_types.specs.declared.place.Failure.TheVariants.{Called, Started}
use Rattle.pb_place_types.specs.declared.place.PlaceFault.{PlaceFault}
use Rattle.pb_place_types.specs.declared.place.PlaceFault.TheVariants as place
use Rattle.pb_place_types.specs.declared.place.StartFault.{StartFault}
use Rattle.pb_place_types.specs.declared.place.StartFault.TheVariants as start

-- after a failed write at a path, the contents of all other paths are unchanged
abbrev pub TornSparesOthers : Type 0
TornSparesOthers = (path bytes q : List ℕ) (old new : World) → Torn path bytes old new → q ≢ path → map.get new.files q ≡ map.get old.files q

-- after a failed write, the path has its old bytes, no bytes, or a prefix of the new bytes
abbrev pub TornLeaves : Type 0
TornLeaves = (path bytes : List ℕ) (old new : World) → Torn path bytes old new
    → (map.get new.files path ≡ map.get old.files path) ⊎ ((map.get new.files path ≡ None) ⊎ ((first : List ℕ) × (rest : List ℕ) × (bytes ≡ first ++ rest) × (map.get new.files path ≡ Some first)))

-- after a failed removal, every path that is not at or below the removed path has its old content
abbrev pub PartlySparesOthers : Type 0
PartlySparesOthers = (path q : List ℕ) (old new : World) → PartlyRemoved path old new → is_at_or_below path q ≡ false → map.get new.files q ≡ map.get old.files q

-- after a failed removal, no path has new bytes
abbrev pub PartlyMakesNothing : Type 0
PartlyMakesNothing = (path q b : List ℕ) (old new : World) → PartlyRemoved path old new → map.get new.files q ≡ Some b → map.get old.files q ≡ Some b

-- the path is strictly below the folder in which a child may write
abbrev pub is_in_out : Option (List ℕ) → List ℕ → Bool
is_in_out None q = false
is_in_out (Some folder) q = is_below folder q

-- after a start, every path outside the child's folder has its old content, even if the start
-- failed
abbrev pub StartSparesOthers : Type 0
StartSparesOthers = (out : Option (List ℕ)) (q : List ℕ) (old new : World) → ChangesOnlyInSome out old new → is_in_out out q ≡ false → map.get new.files q ≡ map.get old.files q

-- no failed write, no failed removal and no start changes a variable
abbrev pub TornSparesVariables : Type 0
TornSparesVariables = (path bytes : List ℕ) (old new : World) → Torn path bytes old new → new.variables ≡ old.variables

abbrev pub PartlySparesVariables : Type 0
PartlySparesVariables = (path : List ℕ) (old new : World) → PartlyRemoved path old new → new.variables ≡ old.variables

abbrev pub StartSparesVariables : Type 0
StartSparesVariables = (out : Option (List ℕ)) (old new : World) → ChangesOnlyInSome out old new → new.variables ≡ old.variables

-- If a call failed and memory did not run out, the call is counted. The call is recorded as the
-- last failing call, and the call's fault as the last fault.
abbrev pub CallTellsFault : Type 0
CallTellsFault = (call : Call) (e : PlaceFault) (c : Counts) → e ≢ place.OutOfMemory → past_place_fault call e c ≡ record (past_fault (Called e) c) { calls = up c.calls; failing = Some call }

-- if a start failed and memory did not run out, the start is counted, and its fault is recorded as
-- the last fault
abbrev pub StartTellsFault : Type 0
StartTellsFault = (e : StartFault) (c : Counts) → e ≢ start.OutOfMemory → past_start_fault e c ≡ record (past_fault (Started e) c) { calls = up c.calls }
