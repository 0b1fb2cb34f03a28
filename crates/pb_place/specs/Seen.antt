-- How the calls after a failed call are counted.
use Rattle.std.specs.Prelude.{ℕ, Bool, true, false, ◌||◌, Result, Ok, Err, if◌then◌else◌}
use Rattle.pb_place_types.specs.Counts.{up}
use Rattle.pb_place_types.specs.declared.place.PlaceFault.{PlaceFault}
use Rattle.pb_place_types.specs.declared.place.PlaceFault.TheVariants as place
use Rattle.pb_place_types.specs.declared.place.StartFault.{StartFault}
use Rattle.pb_place_types.specs.declared.place.StartFault.TheVariants as start

-- the call failed; a call that runs out of memory is not counted as failed
abbrev pub call_failed : {T : Type 0} → Result T PlaceFault → Bool
call_failed (Ok x) = false
call_failed (Err place.OutOfMemory) = false
call_failed (Err e) = true

abbrev pub start_failed : {T : Type 0} → Result T StartFault → Bool
start_failed (Ok x) = false
start_failed (Err start.OutOfMemory) = false
start_failed (Err e) = true

-- The state after one more call. A state says whether a call has failed, and how many calls have
-- come after the first failure.
abbrev pub seen : Bool → Bool × ℕ → Bool × ℕ
seen failed (faulted, after) = (faulted || failed, if faulted then up after else after)

-- the state after a `finish`, which is not counted as a call
abbrev pub seen_end : Bool → Bool × ℕ → Bool × ℕ
seen_end failed (faulted, after) = (faulted || failed, after)
