-- What a step of one unit does. In a step the unit begins, or it answers, or it begins and then
-- answers. A unit begins with or without a child.
use Rattle.std.specs.Prelude.{◌≡◌, ◌⊎◌, ℕ, Bool, List, Option, Some, None, Result, Ok, MatchResult, ◌++◌, ◌∷◌, if◌then◌else◌, is_some, [], map, Err, IsOk, IfOk, IfErr, IfSome, ◌≢◌, ◌+◌, true, IsTrue, IsSome, MatchOption, OnOk, length, max, slice_set, false, slice_get}
use Rattle.std.specs.FinMap as finite
use Rattle.pb_build_result.specs.declared.bad_unit.BadUnit.{BadUnit}
use Rattle.pb_command.specs.Command.{command_of}
use Rattle.pb_command.specs.Judge.{file_at}
use Rattle.pb_directive.specs.declared.directive.Directive.{Directive}
use Rattle.pb_run_flight.specs.declared.flight.State.{State}
use Rattle.pb_run_flight.specs.declared.flight.State.TheVariants as state
use Rattle.pb_command_reply.specs.Answers.{answered_of}
use Rattle.pb_place_types.specs.At.{At}
use Rattle.pb_place_types.specs.CallsInTurn.{Fails, past_calls}
use Rattle.pb_place_types.specs.Children.{child_at, child_spawned, inside_out, LandsAs}
use Rattle.pb_place_types.specs.Counts.{Counts, counted_spawn, one_start, past_call, past_start_fault, counted_finish, Starts}
use Rattle.pb_place_types.specs.Folders.{files_in}
use Rattle.pb_place_types.specs.Paths.{is_at_or_below}
use Rattle.pb_place_types.specs.World.{World, Answers, ChangesOnly, Map, ChangesOnlyInSome}
use Rattle.pb_place_types.specs.declared.call.Call.{Call}
use Rattle.pb_place_types.specs.declared.call.Call.TheVariants as call
use Rattle.pb_place_types.specs.declared.child_in_flight.ChildInFlight.{ChildInFlight}
use Rattle.pb_place_types.specs.declared.command.Command.{Command}
use Rattle.pb_place_types.specs.declared.command.Ended.{Ended}
use Rattle.pb_place_types.specs.declared.place.StartFault.{StartFault}
use Rattle.pb_command_types.specs.Targets.{dep_info_of}
use Rattle.pb_command_types.specs.declared.project.Project.{Project}
use Rattle.pb_command_types.specs.declared.project.Setup.{Setup}
use Rattle.pb_record.specs.declared.record.InputName.{InputName}
use Rattle.pb_record.specs.declared.record.Record.{Record}
use Rattle.pb_run.specs.Steps.{BeginsBy, Lands, started, NumbersInTurn, StepMakes, StepStopsAt, StepTakes, starts, MayAnswer, BeginFaults}
use Rattle.pb_run.specs.UnitSteps.{needed_keys, BuildContext, BuildInvariant, IsBegun, CanBegin, BeginsApart, KeepsOthersStill, WritesTo, child_of, outcomes_in, CanAnswer, awaits_number, Premise, build_context}
use Rattle.pb_run.specs.Outcome.{judgement_by, names_in, ran_of, unstarted, outcome_by, directives_in}
use Rattle.pb_run.specs.Invariants.{records_folder, IsCommandOf}
use Rattle.pb_run.specs.declared.begun.Awaited.{Awaited}
use Rattle.pb_run.specs.declared.begun.Awaited.TheVariants as awaited
use Rattle.pb_run.specs.declared.begun.Begun.{Begun}
use Rattle.pb_run.specs.declared.begun.SpawnedChild.{SpawnedChild}
use Rattle.pb_run.specs.declared.faults.StepFault.{StepFault}
use Rattle.pb_run.specs.declared.faults.StepFault.TheVariants as step
use Rattle.pb_run.specs.declared.unit_steps.Outcome.{Outcome}
use Rattle.pb_run.specs.declared.ran.Validated.{Validated}
use Rattle.pb_run.specs.declared.ran.Ran.{Ran}
use Rattle.pb_store_soundness.specs.Apart.{is_of}
use Rattle.pb_store_soundness.specs.Inputs.{Judge, input_in}
use Rattle.pb_store_soundness.specs.Numbers.{IsAhead, after}
use Rattle.pb_store_soundness.specs.Records.{reading, records, record_path}
use Rattle.pb_store_soundness.specs.Sound.{Sound}
use Rattle.pb_store.specs.Differences.{IsReplayed, FirstDifference}
use Rattle.pb_store.specs.Folder.{Leaves, kept_of, numbered, migrated, HasNumbers, TakesNumber, TakesNext, lacks_number}
use Rattle.pb_store.specs.Looking.{kept_called, migrated_called, unit_looked}
use Rattle.pb_store.specs.declared.difference.Difference.{Difference}
use Rattle.pb_store.specs.declared.fault.StoreFault.TheVariants as store
use Rattle.pb_store.specs.declared.store.Store.{Store}
use Rattle.pb_unit.specs.declared.plan.Planned.{Planned}
use Rattle.pb_message_units.specs.Telling.{unit_lines}

-- A child is in flight. The world in which the child was spawned differs from the old world only at
-- these paths. The child's output folder was empty at the spawn. What the child sees has not
-- changed since the spawn.
pub record IsSpawned (inside : List ℕ → Bool) (child : Answers) (c : Command) (old : World) (ticket : ℕ) (flying : List ChildInFlight) (still : ℕ → Type 0) : Type 0 where
  pub spawned : World
  pub only : ChangesOnly inside old spawned
  pub flies : child_at ticket flying ≡ Some (child_spawned (child c) c spawned ticket)
  pub emptied : inside_out c.out spawned.files ≡ finite.empty
  pub stands : still ticket

-- Which calls a step makes, one by one.

-- The calls of a step. `Makes` says which calls were made if the step succeeded. `Ends` says which
-- calls were made if the step failed, for each fault.
abbrev pub Calls : {T E : Type 0} → (T → Counts → Counts → Type 0) → (E → Counts → Counts → Type 0) → Result T E → Counts → Counts → Type 0
Calls Makes Ends result old new = MatchResult result (λ x. Makes x old new) (λ e. Ends e old new)

-- exactly one call was made, and it did not fail
abbrev pub OneCall : {T : Type 0} → T → Counts → Counts → Type 0
OneCall x old new = new ≡ past_call old

-- A step whose one call removes this path ended with this fault. If memory ran out, the call may or
-- may not have been made.
abbrev pub RemovalEnds : List ℕ → StepFault → Counts → Counts → Type 0
RemovalEnds path (step.Store (store.Place fault)) old new = Fails fault (call.Remove path) old new
RemovalEnds path (step.Store store.NumbersSpent) old new = ⊥
RemovalEnds path (step.Store store.OutOfMemory) old new = (new ≡ old) ⊎ (new ≡ past_call old)
RemovalEnds path (step.Start fault) old new = ⊥

-- A step that takes a run number and removes a record ended with this fault. If no number was left,
-- no call was made. Any other fault is as in `RemovalEnds`.
abbrev pub DropEnds : List ℕ → StepFault → Counts → Counts → Type 0
DropEnds path (step.Store store.NumbersSpent) old new = new ≡ old
DropEnds path e old new = RemovalEnds path e old new

-- one call has spawned a child for this command, in some world
pub record Spawns (child : Answers) (c : Command) (ticket : ℕ) (old new : Counts) : Type 0 where
  pub spawned : World
  pub counted : new ≡ counted_spawn (child_spawned (child c) c spawned) (Ok ticket) old

-- A spawn ended with this fault. A failed spawn counts as one start. If memory ran out, the spawn
-- may or may not have been made.
abbrev pub SpawnStops : StepFault → Counts → Counts → Type 0
SpawnStops (step.Store (store.Place fault)) old new = ⊥
SpawnStops (step.Store store.NumbersSpent) old new = ⊥
SpawnStops (step.Store store.OutOfMemory) old new = (new ≡ old) ⊎ (new ≡ past_call (one_start old))
SpawnStops (step.Start fault) old new = new ≡ past_start_fault fault (one_start old)

-- Which calls are made one after the other.

-- one call removed the files of the output folder, and then the child was spawned
abbrev pub SpawnsAnew : Answers → Command → ℕ → Counts → Counts → Type 0
SpawnsAnew child c ticket old new = Spawns child c ticket (past_call old) new

-- Two calls removed the record and the files of the output folder, and then the child was spawned.
-- `LaunchEnds` says which of these calls were made if one of them failed, and so shows their order.
abbrev pub Launches : Answers → Command → ℕ → Counts → Counts → Type 0
Launches child c ticket old new = SpawnsAnew child c ticket (past_call old) new

-- The step failed at one of two calls. The first call removes the files of the output folder, and
-- the second call spawns the child.
abbrev pub AnewEnds : List ℕ → StepFault → Counts → Counts → Type 0
AnewEnds folder e old new = RemovalEnds folder e old new ⊎ SpawnStops e (past_call old) new

-- The step failed at one of three calls. The first call removes the record at this path, the second
-- removes the files of the output folder, and the third spawns the child.
abbrev pub LaunchEnds : List ℕ → List ℕ → StepFault → Counts → Counts → Type 0
LaunchEnds path folder e old new = DropEnds path e old new ⊎ AnewEnds folder e (past_call old) new

-- What the steps do to records.

-- What a step guarantees if it drops the record of a unit. After a success the record is gone.
-- After a fault the record is gone or unchanged. The folder of records stays sound, and the next
-- run number stays above all numbers in the records.
pub record DropsFor {T : Type 0} (child : Answers) (folder key : List ℕ) (result : Result T StepFault) (before now : Option ℕ) (old new : World) : Type 0 where
  pub sound : (judge : Judge) → Sound reading judge child folder old.files → Sound reading judge child folder new.files
  pub stands : MatchResult result (λ x. records folder new key ≡ None) (λ e. Leaves None (records folder old key) (records folder new key))
  pub ahead : IsAhead (records folder old) before → IsAhead (records folder new) now

-- The child of this ticket has ended with this answer. The child is no longer in flight, and a
-- failed wait is counted. Only the child's output folder changed. If the ticket stood still to the
-- child's end, the child left exactly what was determined at the spawn.
pub record HasEnded (ticket : ℕ) (answer : Result Ended StartFault) (well stood : Type 0) (before after : World) (old new : Counts) : Type 0 where
  pub counted : new ≡ counted_finish ticket answer old
  pub answered : well → IsOk answer
  pub only : IfSome (child_at ticket old.starts.flying) (λ spawned. ChangesOnlyInSome spawned.command.out before after)
  pub lands : stood → IfOk answer (λ ended. IfSome (child_at ticket old.starts.flying) (λ spawned. LandsAs spawned before ended after))

-- If the unit has a child, this child has ended with this answer. Otherwise nothing was done, and
-- the answer is what the unit's record replays.
abbrev pub EndsBy : Awaited → Result Ended StartFault → Type 0 → (ℕ → Type 0) → World → World → Counts → Counts → Type 0
EndsBy (awaited.Child launched) answer well still before after old new = HasEnded launched.ticket answer well (still launched.ticket) before after old new
EndsBy (awaited.Record again) answer well still before after old new = (after ≡ before) × (new ≡ old) × (answer ≡ Ok again.ended)

-- what came of a unit; a unit without a child is marked as not started
abbrev pub ran_from : Awaited → Ran → Ran
ran_from (awaited.Child launched) ran = ran
ran_from (awaited.Record again) ran = unstarted ran

-- `ran` is what came of the unit, as judged from this answer and the files of this world
abbrev pub IsJudged : Project → Planned → Command → Awaited → Ended → World → Ran → Type 0
IsJudged project u c by ended w ran = ran ≡ ran_from by (ran_of project u c ended w.files)

-- The record that a good unit has after its answer.

-- the names of the inputs in a child's answer, given how the child ended and which files it left
abbrev pub names_of : Project → Planned → Command → Ended → Map → List InputName
names_of project u c ended files = names_in (answered_of project u c ended (file_at (dep_info_of project u) files))

-- The record of a child's answer. The record has the command, the run number, and the inputs with
-- the values that they have in this world. The record also has the needed units with their run
-- numbers, and the child's streams.
abbrev pub record_of : Project → Planned → Command → ℕ → Ended → World → Record
record_of project u c number ended w =
    kept_of (records_folder project) u.key c (map (input_in c.target w) (names_of project u c ended w.files)) number (numbered (records (records_folder project) w) (needed_keys project u)) ended

-- The record of a unit after its answer. If the unit had a child, this is the record of the child's
-- answer. Otherwise this is the old record. An old record without a run number gets the next
-- number.
abbrev pub record_left : Project → Planned → Command → Awaited → Ended → Option ℕ → World → Option Record
record_left project u c (awaited.Child launched) ended next w = Some (record_of project u c launched.number ended w)
record_left project u c (awaited.Record again) ended next w =
    if again.numbered then records (records_folder project) w u.key else migrated next (numbered (records (records_folder project) w) (needed_keys project u)) (records (records_folder project) w u.key)

-- if the unit has no child, its answer is what this record replays
abbrev pub GivesRecord : Option Record → Awaited → Type 0
GivesRecord found (awaited.Child launched) = Unit {0}
GivesRecord found (awaited.Record again) = IsReplayed found again

-- Which calls come after the end of a child.

-- the call that reads the dep-info of a unit, if the unit has dep-info
abbrev pub dep_info_looked : Option (List ℕ) → List Call
dep_info_looked None = []
dep_info_looked (Some path) = call.Read path ∷ []

-- The calls that write a unit's record after its answer. If the unit has a child, these calls keep
-- a new record. Without a child, these calls give a run number to an old record that lacks one.
abbrev pub recorded_called : Project → Planned → Command → World → List InputName → Awaited → List Call
recorded_called project u c w names (awaited.Child launched) = kept_called (records_folder project) u.key c.target w names
recorded_called project u c w names (awaited.Record again) = if again.numbered then [] else migrated_called (records_folder project) u.key w

-- the calls that write the record of a good unit; for a bad unit there are no such calls
abbrev pub judged_called : Project → Planned → Command → World → Awaited → Validated → List Call
judged_called project u c w by j = if is_some j.ran.bad then [] else recorded_called project u c w j.names by

-- The calls after the end of a unit's child. The dep-info is read first. The calls after that
-- depend on how the answer is judged.
abbrev pub answered_called : Project → Planned → Command → World → Awaited → Ended → List Call
answered_called project u c w by ended =
    dep_info_looked (dep_info_of project u) ++ judged_called project u c w by (judgement_by project u ended (answered_of project u c ended (file_at (dep_info_of project u) w.files)))

-- If there is an answer, these calls were made in this order, up to the first that failed. Only the
-- replay of a record can fail because no run number is left. If the child gave no answer, no
-- further call was made, and the fault is the child's fault.
abbrev pub CallsBehind : {T : Type 0} → Awaited → (Ended → List Call) → Result Ended StartFault → Result T StepFault → Counts → Counts → Type 0
CallsBehind (awaited.Child launched) calls (Ok ended) result old new = StepMakes result (calls ended) old new
CallsBehind (awaited.Record again) calls (Ok ended) result old new = NumbersInTurn result (calls ended) old new
CallsBehind by calls (Err fault) result old new = (new ≡ old) × IfErr result (λ e. e ≡ started fault)

-- something differs from the unit's record
abbrev pub Differs : Project → Planned → Command → World → Type 0
Differs project u c w = (difference : Difference) × FirstDifference (records_folder project) u.key c w (Some difference)

-- The calls that compare a unit with its record. `past_look` is the counters after these calls.
abbrev pub unit_looks : Project → Planned → Command → World → List Call
unit_looks project u c w = unit_looked (records_folder project) u.key c w

abbrev pub past_look : Project → Planned → Command → World → Counts → Counts
past_look project u c w old = past_calls (unit_looks project u c w) old

-- What is true after a unit has begun. If something differs, the unit has a child. If nothing
-- differs, the unit has what its record replays.
pub record BeginsUnit (is_modelled : Bool) (child : Answers) (project : Project) (u : Planned) (c : Command) (before now : Store) (old new : At) (begun : Begun) : Type 0 where
  -- `begun` has the unit's key and its command
  pub unit : begun.unit ≡ u.key
  pub asks : begun.command ≡ c
  -- if the place is modelled, the reported difference is the first difference
  pub differs : IsTrue is_modelled → FirstDifference (records_folder project) u.key begun.command old.world begun.difference
  pub spawned : is_some (child_of begun) ≡ is_some begun.difference
  -- If there is a child, the child has the next run number, is counted as in flight, and writes
  -- into the unit's folder. When the child was spawned, this folder was empty and no record counted
  -- for the unit.
  pub number : MatchOption (child_of begun) (now.next ≡ before.next) (λ launched. (before.next ≡ Some launched.number) × (now.next ≡ after launched.number))
  pub most : MatchOption (child_of begun) (new.most ≡ old.most) (λ launched. new.most ≡ max old.most (length old.counts.starts.flying + 1))
  pub writes : WritesTo u.out (child_of begun) new.counts.starts.flying
  pub launched : IsTrue is_modelled → IfSome (child_of begun) (λ launched. IsSpawned (is_of (records_folder project) u.key) child begun.command old.world launched.ticket new.counts.starts.flying new.still)
  pub dropped : IsTrue is_modelled → IsSome (child_of begun) → records (records_folder project) new.world u.key ≡ None
  pub launches : IsTrue is_modelled → IfSome (child_of begun) (λ launched. Launches child begun.command launched.ticket (past_look project u begun.command old.world old.counts) new.counts)
  -- if there is no child, nothing has changed, and no call came after the comparison with the
  -- record
  pub same : child_of begun ≡ None → new.world ≡ old.world
  pub looks : IsTrue is_modelled → child_of begun ≡ None → new.counts ≡ past_look project u begun.command old.world old.counts
  pub carries : IsTrue is_modelled → GivesRecord (records (records_folder project) old.world u.key) begun.awaited

-- How a unit fails to begin. A call of the comparison failed, or something differs and a call of
-- the launch failed. The launch removes the record and the files, and spawns the child.
abbrev pub StopsToBegin : Project → Planned → Command → StepFault → World → Counts → Counts → Type 0
StopsToBegin project u c fault w old new = StepStopsAt fault (unit_looks project u c w) old new ⊎ (Differs project u c w × LaunchEnds (record_path (records_folder project) u.key) u.out fault (past_look project u c w old) new)

pub record FailsToBegin (is_modelled : Bool) (project : Project) (u : Planned) (c : Command) (old new : At) (e : StepFault) : Type 0 where
  pub stops : IsTrue is_modelled → StopsToBegin project u c e old.world old.counts new.counts
  -- if a call of the launch failed, if anything changed, or if a spawn was tried, something
  -- differed from the unit's record
  pub cause : IsTrue is_modelled → starts e ≡ true → Differs project u c old.world
  pub spared : IsTrue is_modelled → (new.world ≡ old.world) ⊎ Differs project u c old.world
  pub tried : IsTrue is_modelled → (new.counts.starts ≡ old.counts.starts) ⊎ Differs project u c old.world
  pub most : new.most ≡ old.most

-- What is true of a build stays true when a unit begins, whether the build has true records or no
-- records.
pub record BeginsBuild (b : BuildContext) (done : List (Option (List Directive))) (index : ℕ) (u : Planned) (result : Result Begun StepFault) (before now : Option ℕ) (old new : At) : Type 0 where
  pub begun : (states : List (State BadUnit)) → CanBegin b states done index u before old.world → IfOk result (λ begun. IsBegun b index begun now new.world new.counts.starts.flying new.still)
  pub keeps : (states : List (State BadUnit)) → CanBegin b states done index u before old.world → BuildInvariant b (slice_set states index state.Begun) done now new.world
  pub others : (states : List (State BadUnit)) (other : ℕ) (its : Begun) → CanBegin b states done index u before old.world
      → BeginsApart b states index None other its before old.world old.counts.starts.flying old.still → IsBegun b other its now new.world new.counts.starts.flying new.still

-- What a step guarantees as a whole.

-- What a step does to the store. The folder stays the same. The next run number is unchanged or was
-- taken. After a success the store has the numbers of the records.
pub record KeepsStore {T : Type 0} (is_modelled : Bool) (result : Result T StepFault) (before now : Store) (new : At) : Type 0 where
  pub folder : now.folder ≡ before.folder
  pub next : TakesNumber before.next now.next
  pub numbers : IsTrue is_modelled → OnOk result (HasNumbers (records before.folder new.world) now.numbers)

-- Only this unit's folder and record change. All children in flight, except the child `ended`, stay
-- in flight. Such a child's ticket stands still unless a change at these paths touches what the
-- child sees. At most one call failed, and no call came after it.
pub record ChangesUnit {T : Type 0} (folder key : List ℕ) (ended : Option SpawnedChild) (Goes : T → Starts → Starts → Type 0) (May : StepFault → Starts → Starts → Type 0) (result : Result T StepFault) (old new : At) : Type 0 where
  pub only : ChangesOnly (is_of folder key) old.world new.world
  pub still : KeepsOthersStill ended (is_of folder key) old.counts.starts.flying old.still new.still
  pub stay : (ticket : ℕ) (its : ChildInFlight) → IfSome ended (λ launched. ticket ≢ launched.ticket) → child_at ticket old.counts.starts.flying ≡ Some its → child_at ticket new.counts.starts.flying ≡ Some its
  pub takes : StepTakes Goes May result old.counts new.counts

-- how the counters of starts change when a unit begins
abbrev pub Begins : Begun → Starts → Starts → Type 0
Begins begun old new = BeginsBy (child_of begun) old new

-- this unit has begun, with one of its commands
pub record IsOf (project : Project) (u : Planned) (begun : Begun) : Type 0 where
  pub unit : begun.unit ≡ u.key
  pub asks : IsCommandOf project u begun.command

-- The answer has come. When it came, `Then` was true of the world and the counters.
pub record AnswersThen (by : Awaited) (answer : Result Ended StartFault) (well : Type 0) (old : At) (Then : World → Counts → Type 0) : Type 0 where
  pub world : World
  pub counts : Counts
  pub ends : EndsBy by answer well old.still old.world world old.counts counts
  pub comes : Then world counts

-- What came of a unit with a child is judged from the child's answer. What came of a unit without a
-- child is judged from the replayed answer. A good unit then has the record `record_left`.
pub record AnswersUnit (is_modelled : Bool) (project : Project) (u : Planned) (begun : Begun) (before now : Store) (old new : At) (ran : Ran) : Type 0 where
  pub started : ran.started ≡ is_some (child_of begun)
  pub directives : directives_in (outcome_by finite.empty ran) ≡ ran.directives
  pub judged : IsTrue is_modelled → (ended : Ended) × AnswersThen begun.awaited (Ok ended) (IsTrue true) old (λ w counts. IsJudged project u begun.command begun.awaited ended w ran)
  pub kept : IsTrue is_modelled → is_some ran.bad ≡ false → (ended : Ended) × AnswersThen begun.awaited (Ok ended) (IsTrue true) old (λ w counts.
      records (records_folder project) new.world u.key ≡ record_left project u begun.command begun.awaited ended before.next w)
  -- if the unit is bad, nothing changes outside its output folder, and no number is taken
  pub unkept : IsSome ran.bad → ChangesOnly (is_at_or_below u.out) old.world new.world
  pub bad : IsSome ran.bad → now.next ≡ before.next
  -- if the unit is good and its record had no number, the next number is taken
  pub taken : IsTrue is_modelled → awaits_number begun.awaited ≡ true → lacks_number (records (records_folder project) old.world u.key) ≡ true → is_some ran.bad ≡ false → TakesNext before.next now.next

-- Whether the step succeeds or fails, only the calls of `answered_called` were made after the
-- answer came. These calls changed only the unit's record.
pub record EndsUnit {T : Type 0} (is_modelled : Bool) (project : Project) (u : Planned) (begun : Begun) (result : Result T StepFault) (before now : Store) (old new : At) : Type 0 where
  pub lands : IsTrue is_modelled → (answer : Result Ended StartFault) × AnswersThen begun.awaited answer (IsOk result) old (λ w counts.
      ChangesOnly (is_at_or_below (record_path (records_folder project) u.key)) w new.world × CallsBehind begun.awaited (answered_called project u begun.command w begun.awaited) answer result counts new.counts)
  -- if the unit has no child and its record has a number, nothing changes and no number is taken
  pub same : IsTrue is_modelled → child_of begun ≡ None → lacks_number (records (records_folder project) old.world u.key) ≡ false → new.world ≡ old.world
  pub untaken : awaits_number begun.awaited ≡ false → now.next ≡ before.next
  pub most : new.most ≡ old.most

-- What is true of a build stays true when a unit answers, whether the build has true records or no
-- records.
pub record AnswersBuild (b : BuildContext) (index : ℕ) (u : Planned) (begun : Begun) (result : Result Ran StepFault) (before now : Option ℕ) (old new : At) : Type 0 where
  pub outcome : (states : List (State BadUnit)) (done : List (Option (List Directive))) → CanAnswer b states done index u begun before old.world old.counts.starts.flying old.still
      → IfOk result (λ ran. slice_get (outcomes_in b) index ≡ Some (outcome_by (files_in u.out new.world.files) ran))
  pub keeps : (states : List (State BadUnit)) (done : List (Option (List Directive))) → CanAnswer b states done index u begun before old.world old.counts.starts.flying old.still → MatchResult result
      (λ ran. (lines : List ℕ) → BuildInvariant b (slice_set states index (state.Answered record { fault = ran.bad; lines = lines })) (slice_set done index ran.directives) now new.world)
      (λ e. BuildInvariant b states done now new.world)
  pub others : (states : List (State BadUnit)) (done : List (Option (List Directive))) (other : ℕ) (its : Begun) → CanAnswer b states done index u begun before old.world old.counts.starts.flying old.still
      → BeginsApart b states index (child_of begun) other its before old.world old.counts.starts.flying old.still → IsBegun b other its now new.world new.counts.starts.flying new.still

-- What is true of a build stays true when a unit's answer is dropped, whether the build has true
-- records or no records.
pub record DropsBuild (b : BuildContext) (index : ℕ) (u : Planned) (begun : Begun) (next : Option ℕ) (old new : At) : Type 0 where
  pub keeps : (states : List (State BadUnit)) (done : List (Option (List Directive))) → CanAnswer b states done index u begun next old.world old.counts.starts.flying old.still → BuildInvariant b states done next new.world
  pub others : (states : List (State BadUnit)) (done : List (Option (List Directive))) (other : ℕ) (its : Begun) → CanAnswer b states done index u begun next old.world old.counts.starts.flying old.still
      → BeginsApart b states index (child_of begun) other its next old.world old.counts.starts.flying old.still → IsBegun b other its next new.world new.counts.starts.flying new.still

-- all that is promised about how a unit begins; the fault has no key yet
pub record StepBegins (is_modelled : Bool) (child : Answers) (setup : Setup) (project : Project) (done : List (Option (List Directive))) (index : ℕ) (u : Planned) (result : Result Begun StepFault) (before now : Store) (old new : At) : Type 0 where
  pub begins : IfOk result (BeginsUnit is_modelled child project u (command_of setup project u done) before now old new)
  pub fails : IfErr result (FailsToBegin is_modelled project u (command_of setup project u done) old new)
  pub build : (premise : Premise) (sources : World) → IsTrue is_modelled → BeginsBuild (build_context premise child setup project sources) done index u result before.next now.next old new
  pub store : KeepsStore is_modelled result before now new
  pub changes : ChangesUnit (records_folder project) u.key None Begins (BeginFaults before.next) result old new

-- all that is promised about how a unit answers; the fault has no key yet
pub record StepAnswers (is_modelled : Bool) (child : Answers) (project : Project) (index : ℕ) (u : Planned) (begun : Begun) (result : Result Ran StepFault) (before now : Store) (old new : At) : Type 0 where
  pub answers : IfOk result (AnswersUnit is_modelled project u begun before now old new)
  pub ends : EndsUnit is_modelled project u begun result before now old new
  pub build : (premise : Premise) (setup : Setup) (sources : World) → IsTrue is_modelled → AnswersBuild (build_context premise child setup project sources) index u begun result before.next now.next old new
  pub store : KeepsStore is_modelled result before now new
  pub changes : ChangesUnit (records_folder project) u.key (child_of begun) (Lands (child_of begun)) (MayAnswer before.next (child_of begun)) result old new

-- what came of a unit, with its message lines and its difference
abbrev pub told_of : Project → Planned → Option Difference → Ran → Outcome
told_of project u difference ran = record { fault = ran.bad; directives = ran.directives; lines = unit_lines project u ran.started ran.messages; started = ran.started; difference = difference }

-- The result is the answer with its lines, unless memory ran out. If the answer is a fault, the
-- result is this fault.
abbrev pub TellsAnswer : Project → Planned → Option Difference → Result Ran StepFault → Result Outcome StepFault → Type 0
TellsAnswer project u difference (Ok ran) result = MatchResult result (λ outcome. outcome ≡ told_of project u difference ran) (λ e. e ≡ step.Store store.OutOfMemory)
TellsAnswer project u difference (Err fault) result = result ≡ Err fault

-- the unit has answered, and the result reports this answer or its fault
pub record HasTold (is_modelled : Bool) (child : Answers) (project : Project) (index : ℕ) (u : Planned) (begun : Begun) (result : Result Outcome StepFault) (before now : Store) (old new : At) : Type 0 where
  pub answer : Result Ran StepFault
  pub answered : StepAnswers is_modelled child project index u begun answer before now old new
  pub told : TellsAnswer project u begun.difference answer result

-- Either the unit could not begin, because of this fault, or the unit began and then answered. The
-- answer starts from the store and the place that the beginning left.
abbrev pub RunsUnit : {P : Type 0} → (P → At) → Bool → Answers → Setup → Project → List (Option (List Directive)) → ℕ → Planned → Result Outcome StepFault → Store → Store → P → P → Type 0
RunsUnit {P} at is_modelled child setup project done index u result before now old new =
    ((fault : StepFault) × (result ≡ Err fault) × StepBegins is_modelled child setup project done index u (Err fault) before now (at old) (at new))
    ⊎ ((begun : Begun) × (mid_store : Store) × (mid : P) × StepBegins is_modelled child setup project done index u (Ok begun) before mid_store (at old) (at mid) × HasTold is_modelled child project index u begun result mid_store now (at mid) (at new))
