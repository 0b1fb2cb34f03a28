-- Calls in turn, with the faults that a build ends with.
use Rattle.std.proofs.Common.{◌≡◌, ◌≢◌, ◌++◌, inl, inr, ℕ, List, [], ◌∷◌, sym, subst}
use Rattle.pb_build_result.specs.declared.fault.BuildFault.{BuildFault}
use Rattle.pb_build_result.specs.declared.fault.BuildFault.TheVariants.{Plan, Toolchain, Child, Device, Sink, OutOfMemory}
use Rattle.pb_build_result.specs.declared.fault.DeviceFault.TheVariants.{Place, NumbersSpent}
use Rattle.pb_place_types.specs.CallsInTurn.{own_fault, MakesSome, past_calls}
use Rattle.pb_place_types.specs.Counts.{Counts, past_place_fault}
use Rattle.pb_place_types.specs.declared.call.Call.{Call}
use Rattle.pb_place_types.specs.declared.place.PlaceFault.{PlaceFault}
use Rattle.pb_place_types.specs.declared.place.PlaceFault.TheVariants as place
use Rattle.pb_place_types.proofs.CallsInTurn.{fails_left, fails_right, some_all, some_left, some_none, some_right}
use Rattle.pb_run.specs.Steps.{StopsAt, device_fault}

-- a first step stops it, and no second comes
pub stops_first : (e : BuildFault) (a b : List Call) (old new : Counts) → StopsAt e a old new → StopsAt e (a ++ b) old new
stops_first (Plan refusal) a b old new is = is
stops_first Toolchain a b old new is = is
stops_first (Child unit fault) a b old new is = is
stops_first (Device unit (Place fault)) a b old new is = fails_left fault a b old new is
stops_first (Device unit NumbersSpent) a b old new is = is
stops_first Sink a b old new is = is
stops_first OutOfMemory a b old new is = some_left a b old new is

-- a second step stops it, after a first
pub stops_then : (e : BuildFault) (a b : List Call) (old mid new : Counts) → mid ≡ past_calls a old → StopsAt e b mid new → StopsAt e (a ++ b) old new
stops_then (Plan refusal) a b old mid new first is = is
stops_then Toolchain a b old mid new first is = is
stops_then (Child unit fault) a b old mid new first is = is
stops_then (Device unit (Place fault)) a b old mid new first is = fails_right fault a b old mid new first is
stops_then (Device unit NumbersSpent) a b old mid new first is = is
stops_then Sink a b old mid new first is = is
stops_then OutOfMemory a b old mid new first is = some_right a b old mid new first is

-- memory is refused before the first call, or behind the last
pub memory_first : (names : List Call) (c : Counts) → StopsAt OutOfMemory names c c
memory_first names c = some_none names c

pub memory_last : (names : List Call) (old new : Counts) → new ≡ past_calls names old → StopsAt OutOfMemory names old new
memory_last names old new is = subst (λ c. MakesSome names old c) (sym is) (some_all names old)

-- the one call
one_stops : (call : Call) (unit : List ℕ) (fault : PlaceFault) (old new : Counts) → (fault ≢ place.OutOfMemory → fault ≡ own_fault call) → new ≡ past_place_fault call fault old → StopsAt (device_fault unit fault) (call ∷ []) old new
one_stops call unit place.OutOfMemory old new kind is = inr is
one_stops call unit _ old new kind is = inl (kind (λ e. cc), is)

pub call_stops : (call : Call) (unit : List ℕ) (fault : PlaceFault) (told : BuildFault) (old new : Counts) → told ≡ device_fault unit fault → (fault ≢ place.OutOfMemory → fault ≡ own_fault call) → new ≡ past_place_fault call fault old → StopsAt told (call ∷ []) old new
call_stops call unit fault told old new is kind counts = subst (λ e. StopsAt e (call ∷ []) old new) (sym is) (one_stops call unit fault old new kind counts)

pub ruleset call_laws = (call_stops, memory_first, memory_last)
