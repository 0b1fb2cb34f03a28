-- A place as clauses see it, and how one call changes it.
use Rattle.std.specs.Prelude.{◌≡◌, ◌≢◌, ◌⊎◌, ◌+◌, ℕ, Bool, false, List, Result, IfOk, IfErr, IfSome, OnOk, OnErr, length, max}
use Rattle.pb_place_types.specs.CallsInTurn.{own_fault}
use Rattle.pb_place_types.specs.Children.{child_at, child_spawned, is_flying, most_after, KeepsStill, KeepsStillOutside, StaysStill, StaysStillBut}
use Rattle.pb_place_types.specs.Counts.{Counts, counted, counted_finish, counted_spawn, counted_start}
use Rattle.pb_place_types.specs.World.{World, Answers, ChangesOnly, ChangesOnlyInSome}
use Rattle.pb_place_types.specs.declared.call.Call.{Call}
use Rattle.pb_place_types.specs.declared.command.Command.{Command}
use Rattle.pb_place_types.specs.declared.command.Ended.{Ended}
use Rattle.pb_place_types.specs.declared.moved.Moved.{Moved}
use Rattle.pb_place_types.specs.declared.place.PlaceFault.{PlaceFault}
use Rattle.pb_place_types.specs.declared.place.PlaceFault.TheVariants as place
use Rattle.pb_place_types.specs.declared.place.StartFault.{StartFault}
use Rattle.pb_place_types.specs.declared.place.StartFault.TheVariants as start

-- A place at one moment.
pub record At : Type 1 where
  -- the files and variables of the place
  pub world : World
  -- the counters of the place, and its children in flight
  pub counts : Counts
  -- the greatest number of children that were ever in flight at once
  pub most : ℕ
  -- If `still` is true of a ticket, two things are unchanged since the spawn: what the ticket's
  -- child sees, and the files of the child's folder.
  pub still : ℕ → Type 0
  -- the paths that changed while a child was running, as far as `watch` has looked
  pub moved : List Moved

-- Nothing of the place has changed, and no call was counted. The record says nothing about `moved`.
pub record IsUnchanged (old new : At) : Type 0 where
  pub world : new.world ≡ old.world
  pub counts : new.counts ≡ old.counts
  pub most : new.most ≡ old.most
  pub still : KeepsStill old.still new.still

-- One call that reads a file, lists a folder or reads a variable. The call changes nothing but the
-- counters.
pub record LooksOnce {T : Type 0} (call : Call) (result : Result T PlaceFault) (old new : At) : Type 0 where
  pub world : new.world ≡ old.world
  pub counts : new.counts ≡ counted call result old.counts
  pub most : new.most ≡ old.most
  pub still : KeepsStill old.still new.still
  pub fault : IfErr result (λ e. e ≢ place.OutOfMemory → e ≡ own_fault call)

-- one call changes only the counters and the files at paths of which `inside` is true
pub record ChangesOnce {T : Type 0} (inside : List ℕ → Bool) (call : Call) (result : Result T PlaceFault) (old new : At) : Type 0 where
  pub only : ChangesOnly inside old.world new.world
  pub counts : new.counts ≡ counted call result old.counts
  pub most : new.most ≡ old.most
  pub still : KeepsStillOutside inside old.counts.starts.flying old.still new.still
  pub fault : IfErr result (λ e. e ≢ place.OutOfMemory → e ≡ own_fault call)

-- Either a child process is spawned, or the result is an error and no child is spawned.
pub record Spawns (child : Answers) (command : Command) (result : Result ℕ StartFault) (old new : At) : Type 0 where
  pub only : ChangesOnlyInSome command.out old.world new.world
  -- the new ticket belongs to no child that was in flight when the call began
  pub fresh : IfOk result (λ ticket. is_flying ticket old.counts.starts.flying ≡ false)
  pub counts : new.counts ≡ counted_spawn (child_spawned (child command) command old.world) result old.counts
  pub most : new.most ≡ most_after result (length old.counts.starts.flying + 1) old.most
  pub stands : IfOk result (λ ticket. new.still ticket)
  pub still : StaysStill old.counts.starts.flying old.world new.world old.still new.still
  pub fault : IfErr result (λ e. e ≢ start.OutOfMemory → e ≡ start.CannotStart)

-- The place waits for the ticket's child. After the wait this child is not in flight, even if the
-- wait failed.
pub record Finishes (ticket : ℕ) (result : Result Ended StartFault) (old new : At) : Type 0 where
  pub only : IfSome (child_at ticket old.counts.starts.flying) (λ spawned. ChangesOnlyInSome spawned.command.out old.world new.world)
  pub counts : new.counts ≡ counted_finish ticket result old.counts
  pub most : new.most ≡ old.most
  pub still : StaysStillBut ticket old.counts.starts.flying old.world new.world old.still new.still
  pub fault : IfErr result (λ e. e ≢ start.OutOfMemory → (e ≡ start.Died) ⊎ (e ≡ start.Capture))

-- A child is spawned, and the place waits for its end.
pub record Starts (command : Command) (result : Result Ended StartFault) (old new : At) : Type 0 where
  pub only : ChangesOnlyInSome command.out old.world new.world
  pub counts : new.counts ≡ counted_start result old.counts
  pub most : OnOk result (new.most ≡ max old.most (length old.counts.starts.flying + 1))
  -- after an error, `most` is either unchanged or counts the spawned child, too
  pub most_else : OnErr result ((new.most ≡ old.most) ⊎ (new.most ≡ max old.most (length old.counts.starts.flying + 1)))
