-- Children in flight. A child's reply and its files are fixed at the moment of its spawn.
use Rattle.std.specs.Prelude.{◌≡◌, ◌≢◌, IfSome, ℕ, ◌==◌, ◌||◌, Bool, false, not, List, [], ◌∷◌, max, Option, Some, None, Result, Ok, Err, if◌then◌else◌}
use Rattle.std.specs.FinMap as map
use Rattle.pb_place_types.specs.Paths.{is_below}
use Rattle.pb_place_types.specs.World.{World, Map, ChangesOnly, put_files, seen_by}
use Rattle.pb_place_types.specs.Folders.{files_in, over}
use Rattle.pb_place_types.specs.declared.command.Command.{Command}
use Rattle.pb_place_types.specs.declared.command.Ended.{Ended}
use Rattle.pb_place_types.specs.declared.child.Reply.{Reply}
use Rattle.pb_place_types.specs.declared.child_in_flight.ChildInFlight.{ChildInFlight}
use Rattle.pb_place_types.specs.declared.place.StartFault.{StartFault}

-- the files strictly below a child's output folder, or no files if the child has no such folder
abbrev pub inside_out : Option (List ℕ) → Map → Map
inside_out None m = map.empty
inside_out (Some out) m = files_in out m

-- The child that a spawn starts in this world. The child's fields are fixed at the spawn: the
-- command, the reply to what the child sees, and what the child's folder contained.
abbrev pub child_spawned : (World → Reply) → Command → World → ℕ → ChildInFlight
child_spawned child command w ticket = record {
  ticket = ticket;
  command = command;
  ended = record { status = (child (seen_by command w)).status; stdout = (child (seen_by command w)).stdout; stderr = (child (seen_by command w)).stderr };
  files = (child (seen_by command w)).files;
  before = inside_out command.out w.files;
}

-- A child with this ticket is in flight. `child_at` is the first child with this ticket.
abbrev pub is_flying : ℕ → List ChildInFlight → Bool
is_flying ticket [] = false
is_flying ticket (f ∷ fs) = (f.ticket == ticket) || is_flying ticket fs

abbrev pub child_at : ℕ → List ChildInFlight → Option ChildInFlight
child_at ticket [] = None
child_at ticket (f ∷ fs) = if f.ticket == ticket then Some f else child_at ticket fs

-- The greatest number of children that were ever in flight, after a spawn. If the spawn succeeds,
-- `n` children are in flight.
abbrev pub most_after : {T : Type 0} → Result T StartFault → ℕ → ℕ → ℕ
most_after (Ok x) n m = max m n
most_after (Err e) n m = m

-- the map that has the files of `before` below the folder, and the files of `now` at all other
-- paths
abbrev pub put_back : List ℕ → Map → Map → Map
put_back out before now = over before (map.retain_keys now (λ q. not (is_below out q)))

-- The world after a child ends. The child's folder contains what it contained at the spawn, and the
-- reply's files. Nothing else has changed.
abbrev pub landing : Option (List ℕ) → List (List ℕ × List ℕ) → Map → World → World
landing None files before w = w
landing (Some out) files before w = record w { files = put_files out files (put_back out (files_in out before) w.files) }

-- the result of waiting for this child's end, and the world afterwards
pub record LandsAs (spawned : ChildInFlight) (old : World) (ended : Ended) (new : World) : Type 0 where
  pub answer : ended ≡ spawned.ended
  pub world : new ≡ landing spawned.command.out spawned.files spawned.before old

-- the child sees the same in both worlds, and the child's folder contains the same files in both
abbrev pub SeesStill : ChildInFlight → World → World → Type 0
SeesStill spawned old new = (seen_by spawned.command new ≡ seen_by spawned.command old) × (inside_out spawned.command.out new.files ≡ inside_out spawned.command.out old.files)

abbrev pub StandsStill : ℕ → List ChildInFlight → World → World → Type 0
StandsStill ticket flying old new = IfSome (child_at ticket flying) (λ spawned. SeesStill spawned old new)

-- If a ticket stood still before a call, and the call changed nothing on which the ticket's child
-- depends, the ticket stands still afterwards.
abbrev pub StaysStill : List ChildInFlight → World → World → (ℕ → Type 0) → (ℕ → Type 0) → Type 0
StaysStill flying old new before after = (ticket : ℕ) → StandsStill ticket flying old new → before ticket → after ticket

-- each ticket except `ended` stays still, as `StaysStill` states for all tickets
abbrev pub StaysStillBut : ℕ → List ChildInFlight → World → World → (ℕ → Type 0) → (ℕ → Type 0) → Type 0
StaysStillBut ended flying old new before after = (ticket : ℕ) → ticket ≢ ended → StandsStill ticket flying old new → before ticket → after ticket

-- if a ticket stood still before a call, it stands still after the call
abbrev pub KeepsStill : (ℕ → Type 0) → (ℕ → Type 0) → Type 0
KeepsStill before after = (ticket : ℕ) → before ticket → after ticket

-- Suppose that changes at the paths of `inside` cannot touch what a ticket's child depends on. If
-- the ticket stood still before the changes, it stands still afterwards.
abbrev pub KeepsStillOutside : (List ℕ → Bool) → List ChildInFlight → (ℕ → Type 0) → (ℕ → Type 0) → Type 0
KeepsStillOutside inside flying before after = (ticket : ℕ) → ((v w : World) → ChangesOnly inside v w → StandsStill ticket flying v w) → before ticket → after ticket
