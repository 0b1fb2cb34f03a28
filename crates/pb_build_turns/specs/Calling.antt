-- How units answer, by replay or by a new child, and which calls of the place they make, event by
-- event.
use Rattle.std.specs.Prelude.{◌≡◌, ℕ, true, false, List, Option, Some, slice_get, ◌⊎◌, ◌∷◌, [], Bool, is_some, None, Result, Ok, Err, IsOk, IfErr, IfOk, IfSome}
use Rattle.std.specs.FinMap as finite
use Rattle.pb_build_result.specs.declared.bad_unit.BadUnit.{BadUnit}
use Rattle.pb_build_result.specs.declared.fault.BuildFault.{BuildFault}
use Rattle.pb_build_result.specs.declared.fault.BuildFault.TheVariants.{Sink, OutOfMemory}
use Rattle.pb_command.specs.Command.{command_of}
use Rattle.pb_command.specs.Judge.{ended_by, replied_files}
use Rattle.pb_directive.specs.declared.directive.Directive.{Directive}
use Rattle.pb_run_flight.specs.Events.{Event, Began, Gave}
use Rattle.pb_run_flight.specs.declared.flight.Answer.{Answer}
use Rattle.pb_place_types.specs.Children.{child_at}
use Rattle.pb_place_types.specs.Counts.{Counts}
use Rattle.pb_place_types.specs.Folders.{files_in}
use Rattle.pb_place_types.specs.Paths.{is_at_or_below}
use Rattle.pb_place_types.specs.World.{World, Map, Answers, seen_by, ChangesOnly}
use Rattle.pb_place_types.specs.declared.child.Reply.{Reply}
use Rattle.pb_place_types.specs.declared.child_in_flight.ChildInFlight.{ChildInFlight}
use Rattle.pb_place_types.specs.declared.command.Command.{Command}
use Rattle.pb_place_types.specs.declared.command.Ended.{Ended}
use Rattle.pb_place_types.specs.declared.place.StartFault.{StartFault}
use Rattle.pb_command_types.specs.Targets.{unit_at}
use Rattle.pb_command_types.specs.declared.project.Project.{Project}
use Rattle.pb_command_types.specs.declared.project.Setup.{Setup}
use Rattle.pb_record.specs.Commands.{command_of as asked_command}
use Rattle.pb_record.specs.declared.record.Record.{Record}
use Rattle.pb_run.specs.UnitSteps.{IsInFlight, BuildContext, child_in, command_in, view_in}
use Rattle.pb_run.specs.Outcome.{ran_of, unstarted}
use Rattle.pb_run.specs.Running.{CallsBehind, EndsBy, GivesRecord, answered_called, Launches, StopsToBegin, past_look}
use Rattle.pb_run.specs.Invariants.{records_folder}
use Rattle.pb_run.specs.Steps.{IsOfUnit, bare, fault_in}
use Rattle.pb_run.specs.declared.begun.Awaited.{Awaited}
use Rattle.pb_run.specs.declared.begun.Awaited.TheVariants as awaited
use Rattle.pb_run.specs.declared.begun.SpawnedChild.{SpawnedChild}
use Rattle.pb_run.specs.declared.ran.Ran.{Ran}
use Rattle.pb_store_soundness.specs.Apart.{is_of}
use Rattle.pb_store_soundness.specs.Inputs.{Agrees, reply_in}
use Rattle.pb_store_soundness.specs.Records.{records, record_path}
use Rattle.pb_store.specs.Differences.{replayed}
use Rattle.pb_store.specs.declared.replaying.Replayed.{Replayed}
use Rattle.pb_build_turns.specs.Rows.{is_started}
use Rattle.pb_build_turns.specs.declared.executor.RunningUnit.{RunningUnit}
use Rattle.pb_unit.specs.declared.plan.Planned.{Planned}
use Rattle.pb_message_units.specs.Telling.{unit_lines}

-- What came of a unit that had no child. The unit's answer is what this record replays, judged by
-- the record's own command and these files.
abbrev pub ran_again : Project → Planned → Record → Map → Ran
ran_again project u r files = unstarted (ran_of project u (asked_command r.asked) (replayed r).ended files)

-- The unit at this index has answered with the record that it had before any unit began. The unit's
-- fault, lines and directives follow from this record, the record's command, and the files as they
-- were before any unit began.
pub record AnswersAgain (setup : Setup) (project : Project) (done : List (Option (List Directive))) (first : World) (index : ℕ) (answer : Answer BadUnit) : Type 0 where
  pub unit : Planned
  pub there : unit_at project index ≡ Some unit
  pub kept : Record
  pub here : records (records_folder project) first unit.key ≡ Some kept
  pub asks : asked_command kept.asked ≡ command_of setup project unit done
  pub inputs : Agrees project.workspace.target kept.inputs first
  pub fault : answer.fault ≡ (ran_again project unit kept first.files).bad
  pub lines : answer.lines ≡ unit_lines project unit false (ran_again project unit kept first.files).messages
  pub noted : slice_get done index ≡ Some (ran_again project unit kept first.files).directives

-- Units in flight that will answer by replay.

-- The unit will replay the record that it had before any unit began. The record has the unit's
-- command. Before any unit began, the inputs had the values that the record has for them. The
-- unit's folder and record have not changed.
pub record WaitsAgain (setup : Setup) (project : Project) (done : List (Option (List Directive))) (first now : World) (u : Planned) (c : Command) (again : Replayed) : Type 0 where
  pub kept : Record
  pub here : records (records_folder project) first u.key ≡ Some kept
  pub asked : asked_command kept.asked ≡ c
  pub asks : c ≡ command_of setup project u done
  pub inputs : Agrees project.workspace.target kept.inputs first
  pub gives : again ≡ replayed kept
  pub stays : (q : List ℕ) → is_of (records_folder project) u.key q ≡ true → finite.get now.files q ≡ finite.get first.files q

-- A unit without a child will answer by replay, as `WaitsAgain` says. Nothing is required of a unit
-- with a child.
abbrev pub CarriesAgain : Setup → Project → List (Option (List Directive)) → World → World → Planned → Command → Awaited → Type 0
CarriesAgain setup project done first now u c (awaited.Child launched) = Unit {0}
CarriesAgain setup project done first now u c (awaited.Record again) = WaitsAgain setup project done first now u c again

-- if a unit in flight has no child, it will answer by replay, as `WaitsAgain` says
abbrev pub FliesAgain : Setup → Project → List (Option (List Directive)) → World → World → RunningUnit → Type 0
FliesAgain setup project done first now a = (u : Planned) → unit_at project a.unit ≡ Some u → CarriesAgain setup project done first now u a.begun.command a.begun.awaited

-- what came of a unit whose child gave this reply
abbrev pub ran_anew : Project → Planned → Command → Reply → Ran
ran_anew project u c reply = ran_of project u c (ended_by reply) (replied_files u.out reply)

-- The unit at this index has answered with its child's reply, given what the child sees of this
-- world. The unit's folder contains exactly the reply's files. The unit's fault, lines and
-- directives follow from the reply.
pub record AnswersAnew (child : Answers) (setup : Setup) (project : Project) (done : List (Option (List Directive))) (now : World) (index : ℕ) (answer : Answer BadUnit) : Type 0 where
  pub unit : Planned
  pub there : unit_at project index ≡ Some unit
  pub reply : Reply
  pub replies : reply ≡ reply_in child (command_of setup project unit done) now
  pub files : files_in unit.out now.files ≡ replied_files unit.out reply
  pub fault : answer.fault ≡ (ran_anew project unit (command_of setup project unit done) reply).bad
  pub lines : answer.lines ≡ unit_lines project unit true (ran_anew project unit (command_of setup project unit done) reply).messages
  pub noted : slice_get done index ≡ Some (ran_anew project unit (command_of setup project unit done) reply).directives

-- Units in flight that will answer with their child's reply.

-- The child of a unit is in flight and sees what it saw when it was spawned. Nothing is required of
-- a unit without a child.
abbrev pub CarriesAnew : Answers → Setup → Project → List (Option (List Directive)) → World → List ChildInFlight → (ℕ → Type 0) → Planned → Command → Awaited → Type 0
CarriesAnew child setup project done now flying still u c (awaited.Child launched) = (c ≡ command_of setup project u done) × IsInFlight child c (seen_by c now) launched.ticket flying still
CarriesAnew child setup project done now flying still u c (awaited.Record again) = Unit {0}

abbrev pub FliesAnew : Answers → Setup → Project → List (Option (List Directive)) → World → List ChildInFlight → (ℕ → Type 0) → RunningUnit → Type 0
FliesAnew child setup project done now flying still a = (u : Planned) → unit_at project a.unit ≡ Some u → CarriesAnew child setup project done now flying still u a.begun.command a.begun.awaited

-- What determines the calls of a build: the child, the project, the command of each unit, and what
-- the unit's child sees of a world.
pub record CallBasis : Type 0 where
  pub child : Answers
  pub project : Project
  pub command : ℕ → Planned → Command
  pub sees : ℕ → Planned → World → World

-- In a build context, the command and the view that each unit has in a clean build determine the
-- calls. The present world makes no difference.
abbrev pub call_basis : BuildContext → CallBasis
call_basis b = record { child = b.child; project = b.project; command = command_in b; sees = λ index u w. view_in b index u }

-- What determines the calls over any records, true or not. Each unit has the command that the noted
-- directives determine, and sees what a child with this command sees of the world.
abbrev pub call_basis_on_any : Answers → Setup → Project → List (Option (List Directive)) → CallBasis
call_basis_on_any child setup project done = record {
  child = child;
  project = project;
  command = λ index u. command_of setup project u done;
  sees = λ index u w. seen_by (command_of setup project u done) w;
}

-- A unit begins.

-- The calls with which a unit begins. If no child was started, nothing changed, and no call came
-- after the comparison with the unit's record. If a child was started, the calls of the launch came
-- after the comparison.
abbrev pub CallsToBegin : Answers → Project → Planned → Command → Bool → World → Counts → World → Counts → Type 0
CallsToBegin child project u c false before old after new = (after ≡ before) × (new ≡ past_look project u c before old)
CallsToBegin child project u c true before old after new = (ticket : ℕ) × Launches child c ticket (past_look project u c before old) new

-- the unit at this index began with exactly these calls
pub record BeginsCalling (b : CallBasis) (index : ℕ) (spawned : Bool) (before : World) (old : Counts) (after : World) (new : Counts) : Type 0 where
  pub unit : Planned
  pub there : unit_at b.project index ≡ Some unit
  pub only : ChangesOnly (is_of (records_folder b.project) unit.key) before after
  pub calls : CallsToBegin b.child b.project unit (b.command index unit) spawned before old after new

-- The unit at this index could not begin. Either the comparison with the unit's record stopped at
-- one of its calls, or something differed and the launch stopped at one of its calls.
pub record StopsBeginning (b : CallBasis) (index : ℕ) (fault : BuildFault) (w : World) (old : Counts) (after : World) (new : Counts) : Type 0 where
  pub unit : Planned
  pub there : unit_at b.project index ≡ Some unit
  pub only : ChangesOnly (is_of (records_folder b.project) unit.key) w after
  pub named : IsOfUnit unit.key fault
  pub stops : StopsToBegin b.project unit (b.command index unit) (fault_in fault) w old new

-- A unit answers.

-- the reply of the child to the command of the unit at this index, given what the child sees of the
-- world
abbrev pub reply_by : CallBasis → ℕ → Planned → World → Reply
reply_by b index u w = b.child (b.command index u) (b.sees index u w)

-- the child has ended with this reply, and the unit's folder contains exactly the reply's files
pub record EndsAsReplied (reply : Reply) (u : Planned) (ended : Ended) (left : World) : Type 0 where
  pub answer : ended ≡ ended_by reply
  pub files : files_in u.out left.files ≡ replied_files u.out reply

-- the child that was launched is in flight, and was spawned for this command
abbrev pub FliesFor : Command → List ChildInFlight → SpawnedChild → Type 0
FliesFor c flying launched = (spawned : ChildInFlight) × (child_at launched.ticket flying ≡ Some spawned) × (spawned.command ≡ c)

-- The answer of the unit at this index was taken. If the unit has a child, the child's end was
-- awaited. After that, exactly the calls of the unit's answer were made. Contracts use this
-- definition only over a modelled place.
pub record AnswersCalling (b : CallBasis) (index : ℕ) (spawned : Bool) (result : Result (Unit {0}) BuildFault) (before : World) (old : Counts) (after : World) (new : Counts) : Type 0 where
  pub unit : Planned
  pub there : unit_at b.project index ≡ Some unit
  pub by : Awaited
  pub is_child : spawned ≡ is_some (child_in by)
  pub its : IfSome (child_in by) (FliesFor (b.command index unit) old.starts.flying)
  pub counts_now : GivesRecord (records (records_folder b.project) before unit.key) by
  pub left : World
  pub mid : Counts
  pub answer : Result Ended StartFault
  pub ends : EndsBy by answer (IsOk result) (λ ticket. Unit {0}) before left old mid
  pub replied : spawned ≡ true → IfOk answer (λ ended. EndsAsReplied (reply_by b index unit left) unit ended left)
  pub only : ChangesOnly (is_at_or_below (record_path (records_folder b.project) unit.key)) left after
  pub named : IfErr result (IsOfUnit unit.key)
  pub calls : CallsBehind by (answered_called b.project unit (b.command index unit) left by) answer (bare result) mid new

-- All calls of a build's units.

-- From the first moment of the place to the last, exactly the calls of these events were made.
abbrev pub CallsOver : CallBasis → List (Event BadUnit) → World → Counts → World → Counts → Type 0
CallsOver b [] first at last now = (last ≡ first) × (now ≡ at)
CallsOver b (Began index spawned ∷ es) first at last now = (before : World) × (old : Counts) × CallsOver b es first at before old × BeginsCalling b index spawned before old last now
CallsOver b (Gave index answer ∷ es) first at last now = (before : World) × (old : Counts) × CallsOver b es first at before old × AnswersCalling b index (is_started es index) (Ok tt) before old last now

-- The calls of the event at which a fault came. The event is an answer, or the beginning of a unit
-- that could not begin. If the sink failed or memory ran out, there may be no calls.
abbrev pub StopsLast : CallBasis → BuildFault → Option ℕ → List (Event BadUnit) → List (Event BadUnit) → World → Counts → World → Counts → Type 0
StopsLast b fault (Some index) es before w old after new = AnswersCalling b index (is_started before index) (Err fault) w old after new
StopsLast b fault None es before w old after new = (((fault ≡ Sink) ⊎ (fault ≡ OutOfMemory)) × (after ≡ w) × (new ≡ old)) ⊎ ((index : ℕ) × (spawned : Bool) × (es ≡ Began index spawned ∷ before) × StopsBeginning b index fault w old after new)

-- First the calls of the events before the fault were made, and then the calls of the event at
-- which the fault came. No other call was made.
abbrev pub CallsCut : CallBasis → BuildFault → Option ℕ → List (Event BadUnit) → List (Event BadUnit) → World → Counts → World → Counts → Type 0
CallsCut b fault asked es before first at last now = (w : World) × (old : Counts) × CallsOver b before first at w old × StopsLast b fault asked es before w old last now

-- Over any records, true or not, exactly the calls of these events were made. Each unit had the
-- command that the noted directives determine.
abbrev pub CallsOnAny : Answers → Setup → Project → List (Option (List Directive)) → List (Event BadUnit) → World → Counts → World → Counts → Type 0
CallsOnAny child setup project done es first at last now = CallsOver (call_basis_on_any child setup project done) es first at last now

-- over any records, true or not, the calls up to a fault were exactly those that `CallsCut` states
abbrev pub CallsCutOnAny : Answers → Setup → Project → List (Option (List Directive)) → BuildFault → Option ℕ → List (Event BadUnit) → List (Event BadUnit) → World → Counts → World → Counts → Type 0
CallsCutOnAny child setup project done fault asked es before first at last now = CallsCut (call_basis_on_any child setup project done) fault asked es before first at last now
