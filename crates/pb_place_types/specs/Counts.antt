-- How the calls of a place are counted, which fault came last, and which call on files or variables
-- failed last. Each counter stops at the greatest number of 64 bits. The counter of calls leaves
-- out `finish`.
use Rattle.std.specs.Prelude.{ℕ, ◌+◌, ◌++◌, ◌∷◌, ◌==◌, min, if◌then◌else◌, List, [], Option, Some, None, Result, Ok, Err}
use Rattle.pb_place_types.specs.declared.call.Call.{Call}
use Rattle.pb_place_types.specs.declared.call.Call.TheVariants as call
use Rattle.pb_place_types.specs.declared.child_in_flight.ChildInFlight.{ChildInFlight}
use Rattle.pb_place_types.specs.declared.place.PlaceFault.{PlaceFault}
use Rattle.pb_place_types.specs.declared.place.PlaceFault.TheVariants.{OutOfMemory}
use Rattle.pb_place_types.specs.declared.place.Failure.{Failure}
use Rattle.pb_place_types.specs.declared.place.Failure.TheVariants.{Called, Started}
use Rattle.pb_place_types.specs.declared.place.StartFault.{StartFault}
use Rattle.pb_place_types.specs.declared.place.StartFault.TheVariants as start

-- The counters of starts. `count` is the number of calls of `spawn` and `start`. `flying` lists the
-- children in flight, in the order of their spawns. `settings` counts how often a test has set
-- calls of the place to fail. No call of a place changes `settings`.
pub record Starts : Type 0 where
  pub count : ℕ
  pub flying : List ChildInFlight
  pub settings : ℕ

-- The counters of a place. No method returns the number of all calls, so no body can depend on this
-- number. A fault and the counters together determine which call failed and at which position.
pub record Counts : Type 0 where
  -- the number of all calls except `finish`
  pub calls : ℕ
  -- the number of calls that failed, including `finish`
  pub failures : ℕ
  -- how often `spawn` and `start` were called, and the children in flight
  pub starts : Starts
  -- the number of calls except `finish` since the last failure
  pub late : ℕ
  -- the fault of the last failure
  pub last : Option Failure
  -- the last failing call on files or variables
  pub failing : Option Call

-- the path or the variable's name to which a call applies
abbrev pub name_given : Call → List ℕ
name_given (call.Read path) = path
name_given (call.IsFile path) = path
name_given (call.List folder) = folder
name_given (call.ListOutside folder left_out) = folder
name_given (call.ListDirectly folder) = folder
name_given (call.ListFolders folder left_out) = folder
name_given (call.Write path) = path
name_given (call.Remove path) = path
name_given (call.Variable name) = name

-- the path or the variable's name of the last failing call on files or variables
abbrev pub named_in : Counts → List ℕ
named_in c = names_of c.failing
  where
    names_of : Option Call → List ℕ
    names_of None = []
    names_of (Some call) = name_given call

-- the counters before the first call
abbrev pub no_calls : Counts
no_calls = record { calls = 0; failures = 0; starts = record { count = 0; flying = []; settings = 0 }; late = 0; last = None; failing = None }

-- one more than a number, but at most the greatest number of 64 bits
abbrev pub up : ℕ → ℕ
up n = min (n + 1) 0xffff_ffff_ffff_ffff

-- the counters of starts after a start that leaves no child in flight
abbrev pub up_starts : Starts → Starts
up_starts s = record s { count = up s.count }

-- The counters after a call that did not fail. If an earlier call failed, `late` is one more.
abbrev pub past_call : Counts → Counts
past_call c = record c { calls = up c.calls; late = if c.failures == 0 then 0 else up c.late }

-- the counters after any call failed in this way
abbrev pub past_fault : Failure → Counts → Counts
past_fault f c = record c { failures = up c.failures; late = 0; last = Some f }

-- The counters after this call returned this fault. A call that runs out of memory is not counted
-- as a failure.
abbrev pub past_place_fault : Call → PlaceFault → Counts → Counts
past_place_fault call OutOfMemory c = past_call c
past_place_fault call e c = record (past_fault (Called e) c) { calls = up c.calls; failing = Some call }

abbrev pub counted : {T : Type 0} → Call → Result T PlaceFault → Counts → Counts
counted call (Ok x) c = past_call c
counted call (Err e) c = past_place_fault call e c

-- the counters after `start` was called, before its result is counted
abbrev pub one_start : Counts → Counts
one_start c = record c { starts = up_starts c.starts }

abbrev pub past_start_fault : StartFault → Counts → Counts
past_start_fault start.OutOfMemory c = past_call c
past_start_fault e c = record (past_fault (Started e) c) { calls = up c.calls }

abbrev pub counted_start : {T : Type 0} → Result T StartFault → Counts → Counts
counted_start (Ok x) c = past_call (one_start c)
counted_start (Err e) c = past_start_fault e (one_start c)

abbrev pub without : ℕ → List ChildInFlight → List ChildInFlight
without ticket [] = []
without ticket (f ∷ fs) = if f.ticket == ticket then fs else f ∷ without ticket fs

-- the counters after a call of `spawn`
abbrev pub counted_spawn : (ℕ → ChildInFlight) → Result ℕ StartFault → Counts → Counts
counted_spawn spawned (Ok ticket) c = past_call record c { starts = record c.starts { count = up c.starts.count; flying = c.starts.flying ++ spawned ticket ∷ [] } }
counted_spawn spawned (Err e) c = past_start_fault e (one_start c)

-- the counters after the ticket's child is removed from the children in flight
abbrev pub landed : ℕ → Counts → Counts
landed ticket c = record c { starts = record c.starts { flying = without ticket c.starts.flying } }

-- The counters after `finish` returned this fault. Running out of memory is not counted.
abbrev pub past_finish_fault : StartFault → Counts → Counts
past_finish_fault start.OutOfMemory c = c
past_finish_fault e c = past_fault (Started e) c

abbrev pub counted_finish : {T : Type 0} → ℕ → Result T StartFault → Counts → Counts
counted_finish ticket (Ok x) c = landed ticket c
counted_finish ticket (Err e) c = past_finish_fault e (landed ticket c)
