-- The run numbers that a store has, and what differs first, as units begin and answer.
use Rattle.std.proofs.Common.{◌≡◌, ℕ, true, List, Option, Some, Result, Ok, Err, sym, subst}
use Rattle.std.specs.Prelude.{IfSome}
use Rattle.pb_place_types.specs.Children.{child_at, is_flying}
use Rattle.pb_place_types.specs.CallsInTurn.{past_calls}
use Rattle.pb_place_types.specs.Counts.{Counts}
use Rattle.pb_place_types.specs.World.{World, Answers, ChangesOnlyInSome}
use Rattle.pb_place_types.specs.declared.child_in_flight.ChildInFlight.{ChildInFlight}
use Rattle.pb_place_types.specs.declared.command.Command.{Command}
use Rattle.pb_command_types.specs.Targets.{unit_at}
use Rattle.pb_command_types.specs.declared.project.Project.{Project}
use Rattle.pb_run.specs.UnitSteps.{WritesTo}
use Rattle.pb_run.specs.Running.{DropsFor, IsSpawned}
use Rattle.pb_run.specs.Invariants.{IsInOrder, records_folder}
use Rattle.pb_run.specs.declared.faults.StepFault.{StepFault}
use Rattle.pb_run.specs.declared.begun.SpawnedChild.{SpawnedChild}
use Rattle.pb_run.proofs.Halving.{lies_at}
use Rattle.pb_run.proofs.Spawning.{launched_held}
use Rattle.pb_run.proofs.Writes.{ended_only}
use Rattle.pb_store_soundness.specs.Apart.{is_of}
use Rattle.pb_store_soundness.specs.Records.{reading, records}
use Rattle.pb_store.specs.Differences.{FirstDifference, CarriesReplayed, IsReplayed, difference_in}
use Rattle.pb_store.specs.Folder.{HasNumbers}
use Rattle.pb_store.specs.Looking.{unit_looked}
use Rattle.pb_store.specs.declared.replaying.Compared.{Compared}
use Rattle.pb_store.specs.declared.replaying.Compared.TheVariants.{Same}
use Rattle.pb_store.specs.declared.replaying.Replayed.{Replayed}
use Rattle.pb_unit.specs.declared.plan.Planned.{Planned}

-- in the same world they are the same
pub numbers_same : (folder : List ℕ) (w v : World) (numbers : List (List ℕ × Option ℕ)) → v ≡ w → HasNumbers (records folder w) numbers → HasNumbers (records folder v) numbers
numbers_same folder w v numbers same has = subst (λ (x : World). HasNumbers (records folder x) numbers) (sym same) has

-- and where the child of a unit has landed
pub numbers_landed : (project : Project) (order : IsInOrder project) (i : ℕ) (u : Planned) → unit_at project i ≡ Some u → (folder : List ℕ) → folder ≡ records_folder project → (l : SpawnedChild) (flying : List ChildInFlight) → is_flying l.ticket flying ≡ true
    → WritesTo u.out (Some l) flying → (w w1 v : World) → IfSome (child_at l.ticket flying) (λ s. ChangesOnlyInSome s.command.out w w1) → v ≡ w1 → (numbers : List (List ℕ × Option ℕ)) → HasNumbers (records folder w) numbers → HasNumbers (records folder v) numbers
numbers_landed project order i u at folder is l flying flies writes w w1 v only same numbers has =
    numbers_same folder w1 v numbers same
    (launched_held reading folder u.key u.out w w1 (order.keys i u at) (lies_at project i u folder order at is) (ended_only u.out l flying w w1 flies writes only) numbers has)

-- what differs first, by the folder, the key and the comparison as they are named
pub compared_first : (folder root key k : List ℕ) (c : Command) (w : World) (compared told : Compared) → folder ≡ root → key ≡ k → compared ≡ told → FirstDifference folder key c w (difference_in compared) → FirstDifference root k c w (difference_in told)
compared_first folder root key k c w compared told is its same first =
    subst (λ (f : List ℕ). FirstDifference f k c w (difference_in told)) is
    (subst (λ (x : List ℕ). FirstDifference folder x c w (difference_in told)) its (subst (λ (o : Compared). FirstDifference folder key c w (difference_in o)) same first))

-- and what the record gives again
pub compared_again : (folder root key k : List ℕ) (w : World) (compared : Compared) (again : Replayed) → folder ≡ root → key ≡ k → compared ≡ Same again → CarriesReplayed (records folder w key) compared → IsReplayed (records root w k) again
compared_again folder root key k w compared again is its same carries =
    subst (λ (f : List ℕ). IsReplayed (records f w k) again) is
    (subst (λ (x : List ℕ). IsReplayed (records folder w x) again) its (subst (λ (o : Compared). CarriesReplayed (records folder w key) o) same carries))

-- and the counters after the look
pub looked_so : (folder root key k : List ℕ) (c : Command) (w : World) (old mid : Counts) → folder ≡ root → key ≡ k → mid ≡ past_calls (unit_looked folder key c w) old → mid ≡ past_calls (unit_looked root k c w) old
looked_so folder root key k c w old mid is its looks =
    subst (λ (f : List ℕ). mid ≡ past_calls (unit_looked f k c w) old) is (subst (λ (x : List ℕ). mid ≡ past_calls (unit_looked folder x c w) old) its looks)

-- What a launch makes of the records, by the folder, the key and the world as they are named.
pub drops_moved : {T : Type 0} (child : Answers) (result : Result T StepFault) (folder root key k : List ℕ) (next next' : Option ℕ) (v w new : World) → folder ≡ root → key ≡ k → v ≡ w → DropsFor child folder key result next next' v new → DropsFor child root k result next next' w new
drops_moved child result folder root key k next next' v w new is its same drops =
    subst (λ (f : List ℕ). DropsFor child f k result next next' w new) is
    (subst (λ (x : List ℕ). DropsFor child folder x result next next' w new) its (subst (λ (x : World). DropsFor child folder key result next next' x new) same drops))

pub spawned_moved : (child : Answers) (c : Command) (folder root key k : List ℕ) (v w : World) (ticket : ℕ) (flying : List ChildInFlight) (still : ℕ → Type 0) → folder ≡ root → key ≡ k → v ≡ w → IsSpawned (is_of folder key) child c v ticket flying still → IsSpawned (is_of root k) child c w ticket flying still
spawned_moved child c folder root key k v w ticket flying still is its same spawned =
    subst (λ (f : List ℕ). IsSpawned (is_of f k) child c w ticket flying still) is
    (subst (λ (x : List ℕ). IsSpawned (is_of folder x) child c w ticket flying still) its (subst (λ (x : World). IsSpawned (is_of folder key) child c x ticket flying still) same spawned))

-- whatever fault ended it
pub drops_fault : (child : Answers) (e f : StepFault) (folder key : List ℕ) (next next' : Option ℕ) (old new : World) → DropsFor {T = SpawnedChild} child folder key (Err e) next next' old new → DropsFor {T = SpawnedChild} child folder key (Err f) next next' old new
drops_fault child e f folder key next next' old new drops = record { sound = drops.sound; stands = drops.stands; ahead = drops.ahead }

-- how a launch ended
abbrev pub launched_well : SpawnedChild → Result SpawnedChild StepFault
launched_well l = Ok l

abbrev pub launched_badly : StepFault → Result SpawnedChild StepFault
launched_badly e = Err e
