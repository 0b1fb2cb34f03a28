-- What a failed call leaves of a place in memory, and how fuses and deaths are used up. Running out
-- of memory does not count as a failure, and uses up neither a fuse nor a death.
use Rattle.std.specs.Prelude.{◌≡◌, ◌≢◌, ◌⊎◌, ℕ, ◌+◌, ◌-◌, ◌/◌, ◌==◌, max, List, length, take, Option, Result, Ok, Err, IfOk, IfErr, if◌then◌else◌}
use Rattle.pb_place_types.specs.World.{World, written, removed}
use Rattle.pb_place_types.specs.CallsInTurn.{own_fault}
use Rattle.pb_place_types.specs.Copies.{half_removed}
use Rattle.pb_place_types.specs.Counts.{counted}
use Rattle.pb_place_types.specs.declared.call.Call.{Call}
use Rattle.pb_place.specs.InFlight.{children_in}
use Rattle.pb_place.specs.Memory.{Held, other_deaths}
use Rattle.pb_place.specs.declared.in_flight.Death.{Death}
use Rattle.pb_place_types.specs.declared.place.PlaceFault.{PlaceFault}
use Rattle.pb_place_types.specs.declared.place.PlaceFault.TheVariants.{OutOfMemory}
use Rattle.pb_place_types.specs.declared.place.StartFault.{StartFault}
use Rattle.pb_place_types.specs.declared.place.StartFault.TheVariants as start

-- The fuse after a call is one less than the old fuse. But if the call was to fail and memory ran
-- out, the next call is to fail.
abbrev pub fuse_past : PlaceFault → ℕ → ℕ
fuse_past OutOfMemory fuse = if fuse == 1 then 1 else fuse - 1
fuse_past e fuse = fuse - 1

abbrev pub fuse_after : {T : Type 0} → Result T PlaceFault → ℕ → ℕ
fuse_after (Ok x) fuse = fuse - 1
fuse_after (Err e) fuse = fuse_past e fuse

-- A call on files or variables fails if and only if the fuse is 1. A failed call has its own fault.
-- Any call may run out of memory.
pub record FailsByFuse {T : Type 0} (call : Call) (result : Result T PlaceFault) (old : Held) : Type 0 where
  pub fails_now : old.fuse ≡ 1 → IfOk result (λ _. ⊥)
  pub fault : IfErr result (λ e. e ≢ OutOfMemory → e ≡ own_fault call)
  pub fails : IfErr result (λ e. e ≢ OutOfMemory → old.fuse ≡ 1)

-- the state of a place after a call on files or variables, except for the change of files
abbrev pub called : {T : Type 0} → Call → Result T PlaceFault → Held → Held
called call result old = record old { tally = counted call result old.tally; fuse = fuse_after result old.fuse }

-- The world after a write returned this fault. The file has the first half of the bytes; half of an
-- odd length is rounded down. If memory ran out, the file is unchanged.
abbrev pub torn_by : PlaceFault → List ℕ → List ℕ → World → World
torn_by OutOfMemory path bytes w = w
torn_by e path bytes w = written path (take (length bytes / 2) bytes) w

abbrev pub after_write : {T : Type 0} → Result T PlaceFault → List ℕ → List ℕ → World → World
after_write (Ok x) path bytes w = written path bytes w
after_write (Err e) path bytes w = torn_by e path bytes w

-- The world after a removal returned this fault. The first half of the files in byte order is gone;
-- the half's length is rounded down. If memory ran out, no file is gone.
abbrev pub halved_by : PlaceFault → List ℕ → World → World
halved_by OutOfMemory path w = w
halved_by e path w = record w { files = half_removed path w.files }

abbrev pub after_removal : {T : Type 0} → Result T PlaceFault → List ℕ → World → World
after_removal (Ok x) path w = removed path w
after_removal (Err e) path w = halved_by e path w

-- The deaths after a spawn for this folder. The folder's first death is used up if a child was
-- spawned, or if this death prevented the spawn. If the fuse made the spawn fail, all deaths stay.
abbrev pub deaths_past : StartFault → Option (List ℕ) → ℕ → List Death → List Death
deaths_past start.OutOfMemory out fuse ds = ds
deaths_past e out fuse ds = if fuse == 1 then ds else other_deaths out ds

abbrev pub deaths_after : {T : Type 0} → Option (List ℕ) → ℕ → Result T StartFault → List Death → List Death
deaths_after out fuse (Ok x) ds = other_deaths out ds
deaths_after out fuse (Err e) ds = deaths_past e out fuse ds

-- What a start uses up if its spawn returns this fault: one call. No child of this start was in
-- flight.
pub record SpawnFailed (e : StartFault) (out : Option (List ℕ)) (old new : Held) : Type 0 where
  pub fuse : new.fuse ≡ old.fuse - 1
  pub deaths : new.deaths ≡ deaths_past e out old.fuse old.deaths
  pub most : new.most ≡ old.most

-- What a start uses up if its child was spawned: two calls. The two calls are the spawn and the
-- wait for the end, whatever the end was.
pub record ChildFlew (out : Option (List ℕ)) (old new : Held) : Type 0 where
  pub fuse : new.fuse ≡ old.fuse - 2
  pub deaths : new.deaths ≡ other_deaths out old.deaths
  pub most : new.most ≡ max old.most (length (children_in old.flying) + 1)

-- The fault of a start determines what the start used up. If the fault is out of memory, memory ran
-- out either in the spawn or in the wait for the end.
abbrev pub UsedByFault : StartFault → Option (List ℕ) → Held → Held → Type 0
UsedByFault start.CannotStart out old new = SpawnFailed start.CannotStart out old new
UsedByFault start.OutOfMemory out old new = SpawnFailed start.OutOfMemory out old new ⊎ ChildFlew out old new
UsedByFault e out old new = ChildFlew out old new

abbrev pub UsedByStart : {T : Type 0} → Result T StartFault → Option (List ℕ) → Held → Held → Type 0
UsedByStart (Ok x) out old new = ChildFlew out old new
UsedByStart (Err e) out old new = UsedByFault e out old new

-- a start failed because memory ran out in its spawn
abbrev pub SpawnRefused : {T : Type 0} → Result T StartFault → Option (List ℕ) → Held → Held → Type 0
SpawnRefused result out old new = (result ≡ Err start.OutOfMemory) × SpawnFailed start.OutOfMemory out old new
