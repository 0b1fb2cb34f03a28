-- When a child of a place in memory cannot be started, when such a child dies, and what the child's
-- spawn and end change at the place.
use Rattle.std.specs.Prelude.{◌≡◌, ◌≢◌, ◌⊎◌, ◌-◌, ◌+◌, ◌++◌, ◌∷◌, [], ℕ, false, length, List, Option, Some, None, Result, Err, IfOk, IfErr, IfSome, OnOk, OnErr}
use Rattle.pb_place_types.specs.Children.{child_at, child_spawned, is_flying, most_after, LandsAs}
use Rattle.pb_place_types.specs.Copies.{put_half}
use Rattle.pb_place_types.specs.World.{Answers, ChangesOnlyInSome, seen_by}
use Rattle.pb_place_types.specs.declared.command.Command.{Command}
use Rattle.pb_place_types.specs.declared.command.Ended.{Ended}
use Rattle.pb_place_types.specs.declared.place.StartFault.{StartFault}
use Rattle.pb_place_types.specs.declared.place.StartFault.TheVariants as start
use Rattle.pb_place.specs.Fuses.{SpawnRefused, UsedByStart, deaths_after}
use Rattle.pb_place.specs.InFlight.{children_in, other_entries}
use Rattle.pb_place.specs.Memory.{Held, fate_at, fate_of}

-- A spawn for this folder fails if and only if the fuse is 1 or the first death for the folder is
-- `CannotStart`. Any other spawn may run out of memory.
pub record SpawnFails (out : Option (List ℕ)) (result : Result ℕ StartFault) (old : Held) : Type 0 where
  pub fails_now : old.fuse ≡ 1 → result ≡ Err start.CannotStart
  pub spawn_fails : old.fuse ≢ 1 → fate_of out old.deaths ≡ Some start.CannotStart → result ≡ Err start.CannotStart
  pub quiet : old.fuse ≢ 1 → fate_of out old.deaths ≢ Some start.CannotStart → IfErr result (λ e. e ≡ start.OutOfMemory)
  pub fault : IfErr result (λ e. e ≢ start.OutOfMemory → e ≡ start.CannotStart)

-- The place after a spawn. Either the new child is the last in flight, and half of its files are
-- written. Or no child was added; if the child could not be started, no file changed either.
pub record SpawnsIn (child : Answers) (command : Command) (result : Result ℕ StartFault) (old new : Held) : Type 0 where
  pub fresh : IfOk result (λ ticket. is_flying ticket (children_in old.flying) ≡ false)
  pub flying : IfOk result (λ ticket. new.flying ≡ old.flying ++ record { child = child_spawned (child command) command old.world ticket; kept = fate_of command.out old.deaths } ∷ [])
  pub kept : OnErr result (new.flying ≡ old.flying)
  pub half : OnOk result (new.world ≡ put_half command.out (child command (seen_by command old.world)).files old.world)
  pub nothing : IfErr result (λ e. e ≡ start.CannotStart → new.world ≡ old.world)
  pub only : ChangesOnlyInSome command.out old.world new.world
  pub deaths : new.deaths ≡ deaths_after command.out old.fuse result old.deaths
  pub fuse : new.fuse ≡ old.fuse - 1
  pub most : new.most ≡ most_after result (length (children_in old.flying) + 1) old.most

-- The wait for a child's end fails if and only if the fuse is 1 or the child has a fault of its
-- own. Any other wait may run out of memory.
pub record EndFails (ticket : ℕ) (result : Result Ended StartFault) (old : Held) : Type 0 where
  pub fails_now : old.fuse ≡ 1 → result ≡ Err start.Died
  pub exit_fails : old.fuse ≢ 1 → IfSome (fate_at ticket old.flying) (λ e. e ≢ start.CannotStart → result ≡ Err e)
  pub quiet : old.fuse ≢ 1 → fate_at ticket old.flying ≡ None → IfErr result (λ e. e ≡ start.OutOfMemory)
  pub fault : IfErr result (λ e. e ≢ start.OutOfMemory → (e ≡ start.Died) ⊎ (e ≡ start.Capture))

-- The place after the end of a child. If the wait succeeded, the child's files are in the child's
-- folder. If the child did not reply, no file changed. The child is no longer in flight.
pub record EndsIn (ticket : ℕ) (result : Result Ended StartFault) (old new : Held) : Type 0 where
  pub lands : IfOk result (λ ended. IfSome (child_at ticket (children_in old.flying)) (λ spawned. LandsAs spawned old.world ended new.world))
  pub stands : IfErr result (λ e. e ≢ start.OutOfMemory → new.world ≡ old.world)
  pub only : IfSome (child_at ticket (children_in old.flying)) (λ spawned. ChangesOnlyInSome spawned.command.out old.world new.world)
  pub flying : new.flying ≡ other_entries ticket old.flying
  pub deaths : new.deaths ≡ old.deaths
  pub fuse : new.fuse ≡ old.fuse - 1
  pub most : new.most ≡ old.most

-- A start fails if and only if its spawn or the wait for the end fails. A fuse of 1 makes the spawn
-- fail, and a fuse of 2 makes the wait fail.
pub record StartFails (out : Option (List ℕ)) (result : Result Ended StartFault) (old new : Held) : Type 0 where
  pub fails_now : old.fuse ≡ 1 → result ≡ Err start.CannotStart
  pub spawn_fails : old.fuse ≢ 1 → fate_of out old.deaths ≡ Some start.CannotStart → result ≡ Err start.CannotStart
  pub dies : old.fuse ≡ 2 → fate_of out old.deaths ≢ Some start.CannotStart → (result ≡ Err start.Died) ⊎ SpawnRefused result out old new
  pub exit_fails : old.fuse ≢ 1 → old.fuse ≢ 2 → IfSome (fate_of out old.deaths) (λ e. e ≢ start.CannotStart → (result ≡ Err e) ⊎ SpawnRefused result out old new)
  pub quiet : old.fuse ≢ 1 → old.fuse ≢ 2 → fate_of out old.deaths ≡ None → IfErr result (λ e. e ≡ start.OutOfMemory)

-- The place after a start. The same children are in flight as before the start. If the child could
-- not be started, no file changed. If the child did not reply, half of the reply's files are in the
-- child's folder.
pub record StartsIn (child : Answers) (command : Command) (result : Result Ended StartFault) (old new : Held) : Type 0 where
  pub nothing : IfErr result (λ e. e ≡ start.CannotStart → new.world ≡ old.world)
  pub half : IfErr result (λ e. e ≢ start.CannotStart → e ≢ start.OutOfMemory → new.world ≡ put_half command.out (child command (seen_by command old.world)).files old.world)
  pub only : ChangesOnlyInSome command.out old.world new.world
  pub flying : new.flying ≡ old.flying
  pub used : UsedByStart result command.out old new
