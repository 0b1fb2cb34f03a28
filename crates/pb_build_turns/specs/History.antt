-- What has happened while the units of a build began and answered.
use Rattle.std.specs.Prelude.{◌≡◌, ◌≢◌, ◌⊎◌, ◌<◌, ◌≤◌, ◌==◌, ◌∷◌, [], ℕ, zero, suc, max, Bool, true, false, if◌then◌else◌, List, length, take, Option, Some, None, is_some, Contains, IfSome, IsSome, IsTrue, slice_get}
use Rattle.std.specs.FinMap as finite
use Rattle.std.specs.Io.KnownBytes.{Appends}
use Rattle.std.specs.List.{AllByRecursion}
use Rattle.pb_build_result.specs.declared.fault.BuildFault.{BuildFault}
use Rattle.pb_build_result.specs.declared.fault.BuildFault.TheVariants.{Plan, Toolchain, Child, Device, Sink, OutOfMemory}
use Rattle.pb_build_result.specs.declared.fault.DeviceFault.TheVariants.{NumbersSpent}
use Rattle.pb_command.specs.Command.{command_of}
use Rattle.pb_command.specs.Judge.{ended_by}
use Rattle.pb_directive.specs.declared.directive.Directive.{Directive}
use Rattle.pb_run_flight.specs.declared.flight.Answer.{Answer}
use Rattle.pb_run_flight.specs.declared.flight.State.{State}
use Rattle.pb_run_flight.specs.declared.flight.State.TheVariants.{Untouched, Begun, Answered}
use Rattle.pb_run_flight.specs.Events.{Event, Began, Gave, started_by, launched_after, states_after, peak}
use Rattle.pb_run_flight.specs.Laws.{HasBegun}
use Rattle.pb_run_flight.specs.Table.{due_first, due, count_due, are_good}
use Rattle.pb_place_types.specs.Children.{child_at}
use Rattle.pb_place_types.specs.Counts.{up}
use Rattle.pb_place_types.specs.Paths.{is_at_or_below}
use Rattle.pb_place_types.specs.World.{World, Answers, from_nothing}
use Rattle.pb_place_types.specs.declared.child_in_flight.ChildInFlight.{ChildInFlight}
use Rattle.pb_place_types.specs.declared.command.Command.{Command}
use Rattle.pb_place_types.specs.declared.place.StartFault.TheVariants.{CannotStart}
use Rattle.pb_command_types.specs.Targets.{unit_at}
use Rattle.pb_build_result.specs.declared.bad_unit.BadUnit.{BadUnit}
use Rattle.pb_command_types.specs.declared.project.Project.{Project}
use Rattle.pb_command_types.specs.declared.project.Setup.{Setup}
use Rattle.pb_record.specs.declared.record.Record.{Record}
use Rattle.pb_run.specs.Steps.{HasCause, is_of_start}
use Rattle.pb_run.specs.UnitSteps.{Premise, BuildContext, build_context, outcomes_in, command_in, BuildInvariant, IsBegun, WritesTo, child_of, key_at, needed_keys}
use Rattle.pb_run.specs.Running.{record_of}
use Rattle.pb_run.specs.Outcome.{Outcome, directives_in}
use Rattle.pb_run.specs.Invariants.{records_folder}
use Rattle.pb_message_units.specs.Telling.{unit_lines}
use Rattle.pb_store_soundness.specs.Apart.{is_of}
use Rattle.pb_store_soundness.specs.Records.{record_path, records}
use Rattle.pb_store.specs.Differences.{FirstDifference}
use Rattle.pb_store.specs.Folder.{numbered, TakesNext, TakesNumber, lacks_number, migrated}
use Rattle.pb_store.specs.declared.difference.Difference.{Difference}
use Rattle.pb_build_turns.specs.Calling.{AnswersAgain, FliesAgain, AnswersAnew, FliesAnew, CallsCut, CallsCutOnAny, CallsOver, CallsOnAny, call_basis}
use Rattle.pb_store_soundness.specs.Inputs.{reply_in}
use Rattle.pb_build_turns.specs.Executor.{needs_of, launched_of, BuildState}
use Rattle.pb_build_turns.specs.Rows.{Reasons, fault_in, messages_in, is_started}
use Rattle.pb_build_turns.specs.declared.executor.RunningUnit.{RunningUnit}
use Rattle.pb_build_turns.specs.declared.executor.UnitExecutor.{UnitExecutor}
use Rattle.pb_unit.specs.declared.plan.Planned.{Planned}

-- the state of each unit after these events
abbrev pub states_in : Project → List (Event BadUnit) → List (State BadUnit)
states_in project es = states_after (needs_of project) es

-- What is true of the counters, the sink and the lists, over every place.

-- the counter `n` after it was raised k times
abbrev pub upped : ℕ → ℕ → ℕ
upped zero n = n
upped (suc k) n = up (upped k n)

-- So far no call has failed, and no failure was injected. The due lines of the first `given` units
-- were written. One child was started for each unit that began with a child. The greatest number of
-- children in flight is what the events imply.
pub record CountersSoFar (project : Project) (first now : BuildState) (started : List ℕ) (running : List RunningUnit) (es : List (Event BadUnit)) (given : ℕ) : Type 0 where
  pub started_are : started ≡ started_by es
  pub launched_are : launched_of running ≡ launched_after es
  pub lines : Appends first.heard.taken now.heard.taken (due_first given (states_in project es))
  pub faults : now.heard.faults ≡ first.heard.faults
  pub failures : now.counts.failures ≡ first.counts.failures
  pub starts : now.counts.starts.count ≡ upped (length (started_by es)) first.counts.starts.count
  pub settings : now.counts.starts.settings ≡ first.counts.starts.settings
  pub most : now.most ≡ max first.most (peak es)

-- no child in flight writes into this folder
abbrev pub NoneWritesTo : List ℕ → List ChildInFlight → Type 0
NoneWritesTo out flying = (ticket : ℕ) (its : ChildInFlight) → child_at ticket flying ≡ Some its → its.command.out ≢ Some out

-- A call for the unit with this key failed, or no run number was left for the unit. The unit has
-- begun and not answered, and no child in flight writes into its folder. All lines that were due
-- have been written.
pub record StopsAt (is_modelled : Bool) (project : Project) (first now : BuildState) (key : List ℕ) (es : List (Event BadUnit)) : Type 0 where
  pub index : ℕ
  pub unit : Planned
  pub there : unit_at project index ≡ Some unit
  pub named : unit.key ≡ key
  pub flies : slice_get (states_in project es) index ≡ Some Begun
  pub landed : IsTrue is_modelled → NoneWritesTo unit.out now.counts.starts.flying
  pub lines : Appends first.heard.taken now.heard.taken (due (states_in project es))
  pub faults : now.heard.faults ≡ first.heard.faults

-- The sink failed after the last event, which is an answer. The sink took all lines that were due
-- before this answer. Of the bytes that became due with the answer, the sink took a prefix, but not
-- all.
pub record StopsAtSink (project : Project) (first now : BuildState) (es : List (Event BadUnit)) : Type 0 where
  pub before : List (Event BadUnit)
  pub unit : ℕ
  pub answer : Answer BadUnit
  pub last : es ≡ Gave unit answer ∷ before
  pub taken : ℕ
  pub whole : length (due_first (count_due (states_in project before)) (states_in project es)) ≤ taken
  pub part : taken < length (due (states_in project es))
  pub lines : Appends first.heard.taken now.heard.taken (take taken (due (states_in project es)))
  pub faults : now.heard.faults ≡ up first.heard.faults

-- How a fault ended the build. Either a unit stopped the build (`StopsAt`), or the sink failed
-- after an answer (`StopsAtSink`), or memory ran out. If memory ran out, the due lines of the first
-- n units were written, for some n.
abbrev pub StopsBy : Bool → BuildFault → Project → BuildState → BuildState → List (Event BadUnit) → Type 0
StopsBy is_modelled (Plan why) project first now es = ⊥
StopsBy is_modelled Toolchain project first now es = ⊥
StopsBy is_modelled (Child key fault) project first now es = StopsAt is_modelled project first now key es
StopsBy is_modelled (Device key fault) project first now es = StopsAt is_modelled project first now key es
StopsBy is_modelled Sink project first now es = StopsAtSink project first now es
StopsBy is_modelled OutOfMemory project first now es = ((n : ℕ) × Appends first.heard.taken now.heard.taken (due_first n (states_in project es))) × (now.heard.faults ≡ first.heard.faults)

-- The build stopped as `StopsBy` says, and the fault has its cause. No failure was injected. One
-- child was started for each unit that began with a child; for the last of these units, the spawn
-- may have failed.
pub record Stops (is_modelled : Bool) (fault : BuildFault) (project : Project) (first now : BuildState) (es : List (Event BadUnit)) : Type 0 where
  pub by : StopsBy is_modelled fault project first now es
  pub cause : HasCause fault first.counts now.counts
  pub starts : now.counts.starts.count ≡ upped (length (started_by es)) first.counts.starts.count
  pub settings : now.counts.starts.settings ≡ first.counts.starts.settings

-- The run number that a unit takes when it answers. A unit that is bad, or has a child, takes no
-- number. A good unit without a child takes the next number if its old record is known to have
-- lacked a number. If the old record is known to have had a number, the unit takes no number. If
-- neither is known, the unit takes at most one number.
pub record TakesAsAnswered (Lacks : Bool → Type 0) (started : Bool) (fault : Option BadUnit) (before now : Option ℕ) : Type 0 where
  pub at_most : TakesNumber before now
  pub child : started ≡ true → now ≡ before
  pub bad : IsSome fault → now ≡ before
  pub had : Lacks false → now ≡ before
  pub lacked : started ≡ false → fault ≡ None → Lacks true → TakesNext before now

-- The next run number after these events. A unit takes a number when it begins with a child, or
-- when it answers. If a unit took a number and then could not begin, this number is not counted.
abbrev pub NumbersGiven : (ℕ → Bool → Type 0) → List (Event BadUnit) → Option ℕ → Option ℕ → Type 0
NumbersGiven Lacks [] first now = now ≡ first
NumbersGiven Lacks (Began unit true ∷ es) first now = (before : Option ℕ) × NumbersGiven Lacks es first before × TakesNext before now
NumbersGiven Lacks (Began unit false ∷ es) first now = NumbersGiven Lacks es first now
NumbersGiven Lacks (Gave unit answer ∷ es) first now = (before : Option ℕ) × NumbersGiven Lacks es first before × TakesAsAnswered (Lacks unit) (is_started es unit) answer.fault before now

-- if the fault says that no run number is left, these events have taken all numbers
abbrev pub Spends : (ℕ → Bool → Type 0) → BuildFault → Option ℕ → List (Event BadUnit) → Type 0
Spends Lacks (Device key NumbersSpent) first es = NumbersGiven Lacks es first None
Spends Lacks fault first es = Unit {0}

-- over a place that is not modelled, we do not say whether the record of a unit lacked a number
abbrev pub IsUntold : ℕ → Bool → Type 0
IsUntold unit lacks = ⊥

-- What is true over a modelled place.

-- The unit at this index has the outcome of a clean build: the same fault, lines and noted
-- directives. But the unit's lines say whether this build started a child for the unit.
pub record HasGiven (b : BuildContext) (es : List (Event BadUnit)) (done : List (Option (List Directive))) (index : ℕ) (answer : Answer BadUnit) : Type 0 where
  pub unit : Planned
  pub there : unit_at b.project index ≡ Some unit
  pub outcome : Outcome
  pub is : slice_get (outcomes_in b) index ≡ Some outcome
  pub fault : answer.fault ≡ fault_in outcome
  pub lines : answer.lines ≡ unit_lines b.project unit (is_started es index) (messages_in outcome)
  pub noted : slice_get done index ≡ Some (directives_in outcome)

-- the events that came before the unit at this index began
abbrev pub events_before : List (Event BadUnit) → ℕ → List (Event BadUnit)
events_before [] index = []
events_before (Began unit spawned ∷ es) index = if unit == index then es else events_before es index
events_before (Gave unit answer ∷ es) index = events_before es index

-- The only changes are in the output folders and the records of units that have begun.
pub record OnlyOf (project : Project) (es : List (Event BadUnit)) (old new : World) : Type 0 where
  pub variables : new.variables ≡ old.variables
  pub files : (q : List ℕ) → ((index : ℕ) (u : Planned) → HasBegun (states_in project es) index → unit_at project index ≡ Some u → is_of (records_folder project) u.key q ≡ false) → finite.get new.files q ≡ finite.get old.files q

-- `lacks` says whether the record of the unit at this index lacks a number
abbrev pub LacksNumber : Project → World → ℕ → Bool → Type 0
LacksNumber project w index lacks = (u : Planned) → unit_at project index ≡ Some u → lacks_number (records (records_folder project) w u.key) ≡ lacks

-- no record counts for this unit
abbrev pub HasNoRecord : Project → Planned → World → Type 0
HasNoRecord project u w = records (records_folder project) w u.key ≡ None

-- If a child was started for a unit in flight, no record counts for the unit. We do not say this
-- about the unit `asked`, if there is one.
abbrev pub KeepsNoneInFlight : Project → List (Event BadUnit) → Option ℕ → World → Type 0
KeepsNoneInFlight project es asked w = (index : ℕ) (u : Planned) → unit_at project index ≡ Some u → slice_get (states_in project es) index ≡ Some Begun → asked ≢ Some index → is_started es index ≡ true → HasNoRecord project u w

-- If no child was started for a unit in flight, the unit's folder and record are unchanged. We do
-- not say this about the unit `asked`, if there is one.
abbrev pub KeepsChildless : Project → List (Event BadUnit) → Option ℕ → World → World → Type 0
KeepsChildless project es asked first w = (index : ℕ) (u : Planned) (q : List ℕ) → unit_at project index ≡ Some u → slice_get (states_in project es) index ≡ Some Begun → asked ≢ Some index → is_started es index ≡ false → is_of (records_folder project) u.key q ≡ true
    → finite.get w.files q ≡ finite.get first.files q

-- The unit at this index had this first difference when it began. Before that moment, only units
-- that had begun earlier had changed anything. A child was started for the unit if and only if
-- something differed. The difference is noted.
pub record BeganFor (project : Project) (sources : World) (command : ℕ → Planned → Command) (es : List (Event BadUnit)) (reasons : Reasons) (first now : World) (index : ℕ) : Type 0 where
  pub unit : Planned
  pub there : unit_at project index ≡ Some unit
  pub world : World
  pub sources_stay : from_nothing project.workspace.target world ≡ sources
  pub record_stays : finite.get world.files (record_path (records_folder project) unit.key) ≡ finite.get first.files (record_path (records_folder project) unit.key)
  pub only : OnlyOf project (events_before es index) first world
  pub reaches : are_good (states_in project es) unit.reaches ≡ true
  pub reached_stay : (p : ℕ) (v : Planned) (q : List ℕ) → Contains unit.reaches p → unit_at project p ≡ Some v → is_of (records_folder project) v.key q ≡ true → finite.get world.files q ≡ finite.get now.files q
  pub answered_stay : (p : ℕ) (v : Planned) (a : Answer BadUnit) (q : List ℕ) → slice_get (states_in project (events_before es index)) p ≡ Some (Answered a) → slice_get (states_in project es) p ≡ Some (Answered a) → unit_at project p ≡ Some v
      → is_of (records_folder project) v.key q ≡ true → finite.get world.files q ≡ finite.get now.files q
  pub unrecorded : KeepsNoneInFlight project (events_before es index) None world
  pub waiting_stay : KeepsChildless project (events_before es index) None first world
  pub difference : Option Difference
  pub named : FirstDifference (records_folder project) unit.key (command index unit) world difference
  pub started : is_started es index ≡ is_some difference
  pub noted : slice_get reasons index ≡ Some (Some difference)
  pub folder_stays : difference ≡ None → (q : List ℕ) → is_at_or_below unit.out q ≡ true → finite.get now.files q ≡ finite.get first.files q
  pub kept_stays : difference ≡ None → lacks_number (records (records_folder project) first unit.key) ≡ false → (q : List ℕ) → is_of (records_folder project) unit.key q ≡ true → finite.get now.files q ≡ finite.get first.files q
  pub unstarted : started_by (events_before es index) ≡ [] → ((p : ℕ) → LacksNumber project first p false) → world ≡ first

-- `BeganFor` is true of each unit that has begun
abbrev pub AllBegan : Project → World → (ℕ → Planned → Command) → List (Event BadUnit) → Reasons → World → World → Type 0
AllBegan project sources command es reasons first now = (index : ℕ) → HasBegun (states_in project es) index → BeganFor project sources command es reasons first now index

-- Suppose that a unit could not begin because its start failed, or because memory ran out in the
-- spawn. Then something differed from the unit's record. `BeganFor` states this as if the unit's
-- child had been started.
abbrev pub HadDiffered : Project → World → (ℕ → Planned → Command) → BuildFault → List (Event BadUnit) → List (Event BadUnit) → World → World → Type 0
HadDiffered project sources command fault before es first now =
    (index : ℕ) (spawned : Bool) → es ≡ Began index spawned ∷ before → (is_of_start fault ≡ true) ⊎ (spawned ≡ true) → (reasons : Reasons) × BeganFor project sources command (Began index true ∷ before) reasons first now index

-- Over any records, true or not, `BeganFor` is true of each unit that has begun. The sources are
-- those of the first world, and each unit had the command that the noted directives determine.
abbrev pub AllBeganOnAny : Setup → Project → List (Option (List Directive)) → List (Event BadUnit) → Reasons → World → World → Type 0
AllBeganOnAny setup project done es reasons first now = AllBegan project (from_nothing project.workspace.target first) (λ index u. command_of setup project u done) es reasons first now

-- over any records, true or not, something differed from the record of a unit whose start failed
abbrev pub StartedOnAny : Setup → Project → List (Option (List Directive)) → BuildFault → List (Event BadUnit) → List (Event BadUnit) → World → World → Type 0
StartedOnAny setup project done fault before es first now = HadDiffered project (from_nothing project.workspace.target first) (λ index u. command_of setup project u done) fault before es first now

-- In a build context, `BeganFor` is true of each unit that has begun. The sources are those of the
-- context, and each unit had the command that it has in a clean build.
abbrev pub AllBeganFor : BuildContext → List (Event BadUnit) → Reasons → World → World → Type 0
AllBeganFor b es reasons first now = AllBegan b.project b.sources (command_in b) es reasons first now

-- in a build context, something differed from the record of a unit whose start failed
abbrev pub StartedFor : BuildContext → BuildFault → List (Event BadUnit) → List (Event BadUnit) → World → World → Type 0
StartedFor b fault before es first now = HadDiffered b.project b.sources (command_in b) fault before es first now

-- if a child was started for a bad unit, no record counts for the unit
abbrev pub KeepsNoneOfBad : Project → List (Event BadUnit) → World → Type 0
KeepsNoneOfBad project es w = (index : ℕ) (u : Planned) (answer : Answer BadUnit) → unit_at project index ≡ Some u → slice_get (states_in project es) index ≡ Some (Answered answer) → IsSome answer.fault → is_started es index ≡ true → HasNoRecord project u w

-- According to these events, the unit in flight has begun and not answered. If the unit has a
-- child, the child writes into the unit's folder, and no record counts for the unit.
pub record FliesIn (project : Project) (es : List (Event BadUnit)) (world : World) (flying : List ChildInFlight) (a : RunningUnit) : Type 0 where
  pub state : slice_get (states_in project es) a.unit ≡ Some Begun
  pub started : is_started es a.unit ≡ is_some (child_of a.begun)
  pub gone : (u : Planned) → unit_at project a.unit ≡ Some u → IsSome (child_of a.begun) → HasNoRecord project u world
  pub writes : (u : Planned) → unit_at project a.unit ≡ Some u → WritesTo u.out (child_of a.begun) flying

-- According to these events, the unit in flight has begun, with or without a child, and has not
-- answered. The unit in flight is not the unit `asked`.
pub record FliesBeside (project : Project) (es : List (Event BadUnit)) (asked : Option ℕ) (a : RunningUnit) : Type 0 where
  pub state : slice_get (states_in project es) a.unit ≡ Some Begun
  pub started : is_started es a.unit ≡ is_some (child_of a.begun)
  pub other : asked ≢ Some a.unit

-- The only changes are in the output folders of units that are in flight with a child. The folder
-- of the unit `asked` was not changed.
pub record ChangesInFlight (project : Project) (es : List (Event BadUnit)) (asked : Option ℕ) (old new : World) : Type 0 where
  pub variables : new.variables ≡ old.variables
  pub files : (q : List ℕ) → ((index : ℕ) (u : Planned) → slice_get (states_in project es) index ≡ Some Begun → asked ≢ Some index → is_started es index ≡ true → unit_at project index ≡ Some u → is_at_or_below u.out q ≡ false) → finite.get new.files q ≡ finite.get old.files q

-- the units in flight, and the changes by units that have begun; this is the same for both premises
pub record Changes (project : Project) (first : World) (running : List RunningUnit) (es : List (Event BadUnit)) (world : World) (flying : List ChildInFlight) : Type 0 where
  pub flies : AllByRecursion (FliesIn project es world flying) running
  pub only : OnlyOf project es first world
  pub unkept : KeepsNoneOfBad project es world

-- each answered unit without a child has answered with the record that it had before any unit began
abbrev pub AllAnswerAgain : Setup → Project → List (Event BadUnit) → List (Option (List Directive)) → World → Type 0
AllAnswerAgain setup project es done first = (index : ℕ) (answer : Answer BadUnit) → slice_get (states_in project es) index ≡ Some (Answered answer) → is_started es index ≡ false
    → AnswersAgain setup project done first index answer

-- Each answered unit without a child has answered with the record that it had before any unit
-- began. Each unit in flight without a child will answer with its record, too.
pub record Replays (setup : Setup) (project : Project) (done : List (Option (List Directive))) (running : List RunningUnit) (es : List (Event BadUnit)) (first now : World) : Type 0 where
  pub waits : AllByRecursion (λ (a : RunningUnit). FliesAgain setup project done first now a) running
  pub gave : AllAnswerAgain setup project es done first

-- Over any records, true or not, each answered unit with a child answered with the child's reply,
-- given what the child sees of this world.
abbrev pub AllAnswerAnew : Answers → Setup → Project → List (Event BadUnit) → List (Option (List Directive)) → World → Type 0
AllAnswerAnew child setup project es done now = (index : ℕ) (answer : Answer BadUnit) → slice_get (states_in project es) index ≡ Some (Answered answer) → is_started es index ≡ true → AnswersAnew child setup project done now index answer

-- Each answered unit with a child has answered with the child's reply, as `AllAnswerAnew` says.
-- Each unit in flight with a child will answer with the child's reply, too.
pub record Replies (child : Answers) (setup : Setup) (project : Project) (done : List (Option (List Directive))) (running : List RunningUnit) (es : List (Event BadUnit)) (now : World) (flying : List ChildInFlight) (still : ℕ → Type 0) : Type 0 where
  pub waits : AllByRecursion (FliesAnew child setup project done now flying still) running
  pub gave : AllAnswerAnew child setup project es done now

-- the events that came before the unit at this index answered
abbrev pub events_until : List (Event BadUnit) → ℕ → List (Event BadUnit)
events_until [] index = []
events_until (Began unit spawned ∷ es) index = events_until es index
events_until (Gave unit answer ∷ es) index = if unit == index then es else events_until es index

-- The record of a unit for which a child was started. The record has the unit's command, the
-- child's reply in this world, and the present values of the inputs. The record also has this run
-- number, and the run numbers of the needed units.
abbrev pub record_anew : Answers → Setup → Project → List (Option (List Directive)) → World → Planned → ℕ → Record
record_anew child setup project done now u number = record_of project u (command_of setup project u done) number (ended_by (reply_in child (command_of setup project u done) now)) now

-- The record of a unit that has answered. A good unit with a child has the record of the child's
-- reply, with the run number that was next when the unit began. A unit without a child has its old
-- record; if the unit is good and the old record had no number, the record now has a number.
pub record LeavesRecord (child : Answers) (setup : Setup) (project : Project) (done : List (Option (List Directive))) (started : Bool) (before until : List (Event BadUnit)) (next : Option ℕ) (first now : World) (index : ℕ) (answer : Answer BadUnit) : Type 0 where
  pub unit : Planned
  pub there : unit_at project index ≡ Some unit
  pub anew : started ≡ true → answer.fault ≡ None
      → (number : ℕ) × NumbersGiven (LacksNumber project first) before next (Some number) × (records (records_folder project) now unit.key ≡ Some (record_anew child setup project done now unit number))
  pub again : started ≡ false → answer.fault ≡ None
      → (number : Option ℕ) × NumbersGiven (LacksNumber project first) until next number × (lacks_number (records (records_folder project) first unit.key) ≡ true → IsSome number)
      × (records (records_folder project) now unit.key ≡ migrated number (numbered (records (records_folder project) now) (needed_keys project unit)) (records (records_folder project) first unit.key))
  pub bad : started ≡ false → IsSome answer.fault → finite.get now.files (record_path (records_folder project) unit.key) ≡ finite.get first.files (record_path (records_folder project) unit.key)

-- Over any records, true or not, each answered unit has left a record as `LeavesRecord` says.
abbrev pub AllLeaveRecords : Answers → Setup → Project → List (Event BadUnit) → List (Option (List Directive)) → Option ℕ → World → World → Type 0
AllLeaveRecords child setup project es done next first now = (index : ℕ) (answer : Answer BadUnit) → slice_get (states_in project es) index ≡ Some (Answered answer)
    → LeavesRecord child setup project done (is_started es index) (events_before es index) (events_until es index) next first now index answer

-- the child of a unit in flight has the run number that was next when the unit began
abbrev pub CarriesNumber : Project → List (Event BadUnit) → Option ℕ → World → RunningUnit → Type 0
CarriesNumber project es next first a = IfSome (child_of a.begun) (λ launched. NumbersGiven (LacksNumber project first) (events_before es a.unit) next (Some launched.number))

-- the records of the units that have answered, and the run numbers of the units in flight
pub record Recordings (child : Answers) (setup : Setup) (project : Project) (done : List (Option (List Directive))) (running : List RunningUnit) (es : List (Event BadUnit)) (next : Option ℕ) (first now : World) : Type 0 where
  pub carries : AllByRecursion (CarriesNumber project es next first) running
  pub gave : AllLeaveRecords child setup project es done next first now

-- the unit in flight has begun as `IsBegun` says, and reaches only good units
pub record FliesSo (b : BuildContext) (es : List (Event BadUnit)) (next : Option ℕ) (world : World) (flying : List ChildInFlight) (still : ℕ → Type 0) (a : RunningUnit) : Type 0 where
  pub state : slice_get (states_in b.project es) a.unit ≡ Some Begun
  pub begun_so : IsBegun b a.unit a.begun next world flying still
  pub reaches : (u : Planned) → unit_at b.project a.unit ≡ Some u → are_good (states_in b.project es) u.reaches ≡ true
  pub started : is_started es a.unit ≡ is_some (child_of a.begun)

-- `BuildInvariant` is true. Each unit in flight has begun as `FliesSo` says. Each answered unit has
-- its outcome of a clean build.
pub record HistoryHolds (b : BuildContext) (done : List (Option (List Directive))) (running : List RunningUnit) (next : Option ℕ) (es : List (Event BadUnit)) (world : World) (flying : List ChildInFlight) (still : ℕ → Type 0) : Type 0 where
  pub keeps : BuildInvariant b (states_in b.project es) done next world
  pub begun : AllByRecursion (FliesSo b es next world flying still) running
  pub gave : (index : ℕ) (answer : Answer BadUnit) → slice_get (states_in b.project es) index ≡ Some (Answered answer) → HasGiven b es done index answer

-- Suppose that every record had a number before any unit began. Then the world is unchanged as long
-- as no child is started.
abbrev pub IsQuiet : Project → List (Event BadUnit) → World → World → Type 0
IsQuiet project es first now = started_by es ≡ [] → ((index : ℕ) → LacksNumber project first index false) → now ≡ first

-- as long as a unit has not begun, its note of a first difference is unchanged
abbrev pub NotesUnbegun : Project → List (Event BadUnit) → Reasons → Reasons → Type 0
NotesUnbegun project es first now = (index : ℕ) → slice_get (states_in project es) index ≡ Some Untouched → slice_get now index ≡ slice_get first index

-- For each unit that has begun, there is a note of its first difference, or a note that nothing
-- differed. A difference is noted if and only if a child was started for the unit.
abbrev pub NotesStarted : Project → List (Event BadUnit) → Reasons → Type 0
NotesStarted project es now = (index : ℕ) (s : State BadUnit) → slice_get (states_in project es) index ≡ Some s → s ≢ Untouched
    → (d : Option Difference) × (slice_get now index ≡ Some (Some d)) × (is_some d ≡ is_started es index)

-- The history as a whole.

-- the states of the units before any unit has begun
abbrev pub untouched : Project → List (State BadUnit)
untouched project = states_in project []

-- Take any build context with this child, setup and project. If `BuildInvariant` was true of this
-- context before any event, `Since` is true of the context.
abbrev pub FromFirst : Answers → UnitExecutor → BuildState → UnitExecutor → (BuildContext → Type 0) → Type 0
FromFirst child first at c Since = (premise : Premise) (sources : World)
    → BuildInvariant (build_context premise child c.setup c.project sources) (untouched c.project) first.done.items first.store.next at.world
    → Since (build_context premise child c.setup c.project sources)

-- what has happened to an executor between two moments
pub record History (is_modelled : Bool) (child : Answers) (first : UnitExecutor) (at : BuildState) (c : UnitExecutor) (now : BuildState) (still : ℕ → Type 0) (es : List (Event BadUnit)) (given : ℕ) : Type 0 where
  pub setup : c.setup ≡ first.setup
  pub project : c.project ≡ first.project
  pub goes : CountersSoFar c.project at now c.started.items c.running.items es given
  pub numbers : NumbersGiven IsUntold es first.store.next c.store.next
  pub changes : IsTrue is_modelled → Changes c.project at.world c.running.items es now.world now.counts.starts.flying
  pub unrecorded : IsTrue is_modelled → KeepsNoneInFlight c.project es None now.world
  pub childless : IsTrue is_modelled → KeepsChildless c.project es None at.world now.world
  pub again : IsTrue is_modelled → Replays c.setup c.project c.done.items c.running.items es at.world now.world
  pub anew : IsTrue is_modelled → Replies child c.setup c.project c.done.items c.running.items es now.world now.counts.starts.flying still
  pub left : IsTrue is_modelled → Recordings child c.setup c.project c.done.items c.running.items es first.store.next at.world now.world
  pub began : IsTrue is_modelled → AllBeganOnAny c.setup c.project c.done.items es c.reasons.items at.world now.world
  pub quiet : IsTrue is_modelled → IsQuiet c.project es at.world now.world
  pub happened : IsTrue is_modelled → FromFirst child first at c (λ b. HistoryHolds b c.done.items c.running.items c.store.next es now.world now.counts.starts.flying still)
  pub taken : IsTrue is_modelled → NumbersGiven (LacksNumber c.project at.world) es first.store.next c.store.next
  pub calls : IsTrue is_modelled → FromFirst child first at c (λ b. CallsOver (call_basis b) es at.world at.counts now.world now.counts)
  pub calls_on_any : IsTrue is_modelled → CallsOnAny child c.setup c.project c.done.items es at.world at.counts now.world now.counts
  pub unnoted : NotesUnbegun c.project es first.reasons.items c.reasons.items
  pub noted : NotesStarted c.project es c.reasons.items

-- the last event is that the unit with this key began
abbrev pub IsBeginning : Project → List ℕ → Bool → List (Event BadUnit) → List (Event BadUnit) → Type 0
IsBeginning project key spawned before es = (unit : ℕ) × (key_at project unit ≡ key ∷ []) × (es ≡ Began unit spawned ∷ before)

-- A fault came after the events `es`. If a unit could not begin, the newest of these events is the
-- unit's failed beginning, and `before` lists the events before that one. Otherwise `before` equals
-- `es`.
abbrev pub CameAfter : Project → BuildFault → List (Event BadUnit) → List (Event BadUnit) → Type 0
CameAfter project (Child key CannotStart) before es = IsBeginning project key true before es
CameAfter project (Device key fault) before es = (es ≡ before) ⊎ IsBeginning project key false before es
CameAfter project OutOfMemory before es = (es ≡ before) ⊎ ((unit : ℕ) × (spawned : Bool) × (es ≡ Began unit spawned ∷ before))
CameAfter project fault before es = es ≡ before

-- The unit that a fault names. If an answer was being taken when the fault came, the fault names
-- the unit of this answer. Otherwise the fault names the unit that could not begin. If the sink
-- failed, or memory ran out, the fault names no unit.
abbrev pub NamesUnit : Project → BuildFault → Option ℕ → List (Event BadUnit) → List (Event BadUnit) → Type 0
NamesUnit project (Child key fault) None before es = IsBeginning project key true before es
NamesUnit project (Child key fault) (Some unit) before es = (key_at project unit ≡ key ∷ []) × (es ≡ before)
NamesUnit project (Device key fault) None before es = IsBeginning project key false before es
NamesUnit project (Device key fault) (Some unit) before es = (key_at project unit ≡ key ∷ []) × (es ≡ before)
NamesUnit project fault asked before es = Unit {0}

-- What has happened up to a fault. If an answer was being taken when the fault came, `asked` is the
-- unit of this answer. Each unit that is still in flight was in flight before the fault, and is not
-- the unit `asked`.
pub record StoryEnds (is_modelled : Bool) (child : Answers) (fault : BuildFault) (asked : Option ℕ) (first : UnitExecutor) (at : BuildState) (c : UnitExecutor) (now : BuildState) (still : ℕ → Type 0) (es : List (Event BadUnit)) : Type 0 where
  pub setup : c.setup ≡ first.setup
  pub project : c.project ≡ first.project
  pub stops : Stops is_modelled fault c.project at now es
  pub spent : Spends IsUntold fault first.store.next es
  pub before : List (Event BadUnit)
  pub came : CameAfter c.project fault before es
  pub names : NamesUnit c.project fault asked before es
  pub most : now.most ≡ max at.most (peak before)
  pub changes : IsTrue is_modelled → Changes c.project at.world c.running.items es now.world now.counts.starts.flying
  pub beside : IsTrue is_modelled → AllByRecursion (FliesBeside c.project before asked) c.running.items
  pub unrecorded : IsTrue is_modelled → KeepsNoneInFlight c.project before asked now.world
  pub childless : IsTrue is_modelled → KeepsChildless c.project before asked at.world now.world
  pub again : IsTrue is_modelled → AllAnswerAgain c.setup c.project es c.done.items at.world
  pub anew : IsTrue is_modelled → AllAnswerAnew child c.setup c.project es c.done.items now.world
  pub left : IsTrue is_modelled → AllLeaveRecords child c.setup c.project es c.done.items first.store.next at.world now.world
  pub began : IsTrue is_modelled → AllBeganOnAny c.setup c.project c.done.items before c.reasons.items at.world now.world
  pub started : IsTrue is_modelled → StartedOnAny c.setup c.project c.done.items fault before es at.world now.world
  pub happened : IsTrue is_modelled → FromFirst child first at c (λ b. HistoryHolds b c.done.items c.running.items c.store.next es now.world now.counts.starts.flying still)
  pub caused : IsTrue is_modelled → Spends (LacksNumber c.project at.world) fault first.store.next es
  pub calls : IsTrue is_modelled → FromFirst child first at c (λ b. CallsCut (call_basis b) fault asked es before at.world at.counts now.world now.counts)
  pub calls_on_any : IsTrue is_modelled → CallsCutOnAny child c.setup c.project c.done.items fault asked es before at.world at.counts now.world now.counts
