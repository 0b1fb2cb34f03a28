-- Sequences of calls on files and variables, and which call failed.
use Rattle.std.specs.Prelude.{◌≡◌, ◌≢◌, ◌⊎◌, ◌+◌, ◌≤◌, ◌++◌, ◌∷◌, List, [], Some, length}
use Rattle.pb_place_types.specs.Counts.{Counts, past_call, past_place_fault}
use Rattle.pb_place_types.specs.declared.call.Call.{Call}
use Rattle.pb_place_types.specs.declared.call.Call.TheVariants as call
use Rattle.pb_place_types.specs.declared.place.PlaceFault.{PlaceFault}
use Rattle.pb_place_types.specs.declared.place.PlaceFault.TheVariants as place

-- the fault that a failed call returns if memory did not run out
abbrev pub own_fault : Call → PlaceFault
own_fault (call.Read path) = place.Read
own_fault (call.IsFile path) = place.Read
own_fault (call.List folder) = place.List
own_fault (call.ListOutside folder left_out) = place.List
own_fault (call.ListDirectly folder) = place.List
own_fault (call.ListFolders folder left_out) = place.List
own_fault (call.Write path) = place.Write
own_fault (call.Remove path) = place.Remove
own_fault (call.Variable name) = place.Variable

-- the counters after all of these calls succeeded
abbrev pub past_calls : List Call → Counts → Counts
past_calls [] c = c
past_calls (call ∷ calls) c = past_calls calls (past_call c)

-- this call failed with this fault, which is the call's own fault
abbrev pub Fails : PlaceFault → Call → Counts → Counts → Type 0
Fails fault call old new = (fault ≡ own_fault call) × (new ≡ past_place_fault call fault old)

-- One of these calls failed with this fault. All calls before the failed call succeeded, and no
-- call came after the failed call.
abbrev pub FailsAt : PlaceFault → List Call → Counts → Counts → Type 0
FailsAt fault [] old new = ⊥
FailsAt fault (call ∷ calls) old new = Fails fault call old new ⊎ FailsAt fault calls (past_call old) new

-- exactly the first n of these calls were made, for some n
abbrev pub MakesSome : List Call → Counts → Counts → Type 0
MakesSome [] old new = new ≡ old
MakesSome (call ∷ calls) old new = (new ≡ old) ⊎ MakesSome calls (past_call old) new

-- The counters determine which call of a sequence failed and at which position. The fault is the
-- failed call's own fault.
pub record TellsTurn (fault : PlaceFault) (calls : List Call) (old new : Counts) : Type 0 where
  pub before : List Call
  pub call : Call
  pub behind : List Call
  pub row : calls ≡ before ++ call ∷ behind
  pub told : new.failing ≡ Some call
  pub own : fault ≡ own_fault call
  pub turn : new.calls ≡ old.calls + length before + 1

-- if 64 bits suffice to count the calls of a sequence, the counters determine the failed call, as
-- `TellsTurn` says
abbrev pub FaultTellsTurn : Type 0
FaultTellsTurn = (fault : PlaceFault) (calls : List Call) (old new : Counts) → fault ≢ place.OutOfMemory → old.calls + length calls ≤ 0xffff_ffff_ffff_ffff
    → FailsAt fault calls old new → TellsTurn fault calls old new
