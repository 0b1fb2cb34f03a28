-- The headline: what a build produces over true records with an honest child, or over no records.
use Rattle.std.specs.Prelude.{◌≡◌, ◌⊎◌, ◌∷◌, [], ℕ, Bool, true, false, Contains, List, length, take, Option, Some, None, IsTrue, Result, Ok, Err, slice_get}
use Rattle.std.specs.Io.KnownBytes.{Appends}
use Rattle.pb_build_result.specs.declared.fault.BuildFault.{BuildFault}
use Rattle.pb_build_result.specs.declared.fault.BuildFault.TheVariants.{Child, Device, Sink, OutOfMemory}
use Rattle.pb_build_result.specs.declared.fault.DeviceFault.TheVariants as device
use Rattle.pb_build_result.specs.declared.summary.Summary.{Summary}
use Rattle.pb_command.specs.Judge.{judge}
use Rattle.pb_directive.specs.declared.directive.Directive.{Directive}
use Rattle.pb_run_flight.specs.Events.{Event, Anything, started_by}
use Rattle.pb_run_flight.specs.Steps.{Flies, Anyhow, TurnsOfJobs}
use Rattle.pb_run_flight.specs.Table.{count_due, is_finished}
use Rattle.pb_run_flight.specs.declared.flight.Answer.{Answer}
use Rattle.pb_run_flight.specs.declared.flight.State.TheVariants.{Untouched, Begun, Answered}
use Rattle.pb_run_flight.specs.declared.turn.First.{First}
use Rattle.pb_run_flight.specs.declared.turn.Jobs.{Jobs}
use Rattle.pb_run_flight.specs.declared.turn.Last.{Last}
use Rattle.pb_run_flight.specs.declared.turn.Step.{Step}
use Rattle.pb_message.specs.declared.message.Message.{Message}
use Rattle.pb_workspace_types.specs.declared.options.Options.{Options}
use Rattle.pb_place_types.specs.CallsInTurn.{own_fault}
use Rattle.pb_place_types.specs.Counts.{Starts, name_given, up}
use Rattle.pb_place_types.specs.declared.call.Call.{Call}
use Rattle.pb_place_types.specs.Folders.{files_in}
use Rattle.pb_place_types.specs.Paths.{below}
use Rattle.pb_place_types.specs.Sinks.{SinkState, TakesPart}
use Rattle.pb_place_types.specs.World.{World, Map, Answers, from_nothing}
use Rattle.pb_profile.specs.Line.{folder_of}
use Rattle.pb_build_result.specs.declared.bad_unit.BadUnit.{BadUnit}
use Rattle.pb_command_types.specs.declared.project.Project.{Project}
use Rattle.pb_run.specs.UnitSteps.{Premise, TrustedRecords, NoRecords, BuildContext, build_context, key_at, IsHonestOnUnits}
use Rattle.pb_run.specs.Outcome.{Outcome, Good, outcomes}
use Rattle.pb_store_soundness.specs.Records.{reading, records}
use Rattle.pb_store_soundness.specs.Sound.{Sound}
use Rattle.pb_store.specs.Looking.{opened_looked}
use Rattle.pb_store.specs.Folder.{next_in}
use Rattle.pb_build_turns.specs.Executor.{needs_of, BuildState}
use Rattle.pb_build_turns.specs.Rows.{Row, Reasons, fault_in, rows_of, said_from, summary_of}
use Rattle.pb_build_turns.specs.History.{states_in, upped, AllBeganFor, CameAfter, LacksNumber, NumbersGiven, Spends}
use Rattle.pb_unit.specs.declared.plan.Planned.{Planned}
use Rattle.pb_build.specs.Ending.{NoneBegan, PicksFirstOf, PicksLastOf, Closes}
use Rattle.pb_build.specs.Environment.{environment_of}
use Rattle.pb_build.specs.Planning.{IsProject}
use Rattle.pb_build.specs.Result.{toolchain_of, setup_of}

-- What a build assumes.

-- the folder of a build's records: the profile's folder in the target folder
abbrev pub records_of : Options → Map → List ℕ
records_of options variables = below (environment_of options variables).target (folder_of options.profile)

-- The units that a build has in a world. The project is the one that the build finds in this world,
-- and `toolchain` is the version that the compiler reports.
pub record UnitsOf (child : Answers) (options : Options) (w : World) : Type 0 where
  pub project : Project
  pub toolchain : List ℕ
  pub is : IsProject options (environment_of options w.variables).target w project
  pub says : toolchain_of child (environment_of options w.variables) project (from_nothing (environment_of options w.variables).target w) ≡ Some toolchain

abbrev pub context_of : (premise : Premise) (child : Answers) (options : Options) (w : World) → UnitsOf child options w → BuildContext
context_of premise child options w units = build_context premise child (setup_of options (environment_of options w.variables) units.toolchain) units.project (from_nothing (environment_of options w.variables).target w)

-- the child is honest on all units that the build finds in this world
abbrev pub IsHonestBuild : Answers → Options → World → Type 0
IsHonestBuild child options w = (units : UnitsOf child options w) → IsHonestOnUnits (context_of TrustedRecords child options w units)

-- Either the records in the build's folder are true and the child is honest, or no text in this
-- folder counts as a record.
abbrev pub RestsOn : Premise → Answers → Options → World → Type 0
RestsOn TrustedRecords child options w = Sound reading judge child (records_of options w.variables) w.files × IsHonestBuild child options w
RestsOn NoRecords child options w = (key : List ℕ) → records (records_of options w.variables) w key ≡ None

-- Schedules: which events the units of a project may have.

-- from this state on, the turn can decide the steps that produce these events
abbrev pub ByTurns : {S : Type 0} → (S → List ℕ → List ℕ → Step → S → Type 0) → S → Project → List (Event BadUnit) → Type 0
ByTurns {S} Turns from project es = (last : S) × Flies Turns (needs_of project) Anyhow Anything from es last

-- the events are those of a turn with the options' number of jobs, in which this pick chooses the
-- unit that begins
abbrev pub ByPick : {S : Type 0} → (S → List ℕ → ℕ → S → Type 0) → Options → S → Project → List (Event BadUnit) → Type 0
ByPick {S} Picks options pick = let from : Jobs S = record { pick = pick; jobs = options.jobs } in ByTurns (TurnsOfJobs Picks) from

-- the events are those of `ByPick` with the pick that chooses the first, in plan order, of the
-- units that may begin
abbrev pub ByFirst : Options → Project → List (Event BadUnit) → Type 0
ByFirst options = let pick : First = record {} in ByPick PicksFirstOf options pick

-- the events are those of `ByPick` with the pick that chooses the last, in plan order, of the units
-- that may begin
abbrev pub ByLast : Options → Project → List (Event BadUnit) → Type 0
ByLast options = let pick : Last = record {} in ByPick PicksLastOf options pick

-- What a build produces.

-- the outcome that each unit has in a clean build, in plan order
abbrev pub outcomes_for : (child : Answers) (options : Options) (w : World) → UnitsOf child options w → List Outcome
outcomes_for child options w units = outcomes child (setup_of options (environment_of options w.variables) units.toolchain) units.project (from_nothing (environment_of options w.variables).target w)

-- the units with their outcomes in a clean build, up to and including the first bad unit
abbrev pub rows_for : (child : Answers) (options : Options) (w : World) → UnitsOf child options w → List Row
rows_for child options w units = rows_of child (setup_of options (environment_of options w.variables) units.toolchain) units.project (from_nothing (environment_of options w.variables).target w)

-- each answered unit is as in these outcomes: good, or bad with the same fault
abbrev pub AnswersAs : List Outcome → Project → List (Event BadUnit) → Type 0
AnswersAs given project es =
    (index : ℕ) (answer : Answer BadUnit) → slice_get (states_in project es) index ≡ Some (Answered answer) → (outcome : Outcome) × (slice_get given index ≡ Some outcome) × (answer.fault ≡ fault_in outcome)

-- The units began and answered as the schedule allows. Each answered unit is good or bad as in a
-- clean build. One child was started to query the compiler's version, and one for each unit that
-- began with a child. The first difference of each unit is noted.
pub record UnitsFly (child : Answers) (Schedule : Project → List (Event BadUnit) → Type 0) (options : Options) (old new : BuildState) : Type 0 where
  pub units : UnitsOf child options old.world
  pub es : List (Event BadUnit)
  pub flies : Schedule units.project es
  pub gave : AnswersAs (outcomes_for child options old.world units) units.project es
  pub starts : new.counts.starts.count ≡ upped (length (started_by es)) (up old.counts.starts.count)
  pub reasons : Reasons

-- All units up to and including the first bad unit have answered; without a bad unit, all units
-- have answered. Later units may have begun, too.
pub record GivesAll (premise : Premise) (child : Answers) (Schedule : Project → List (Event BadUnit) → Type 0) (options : Options) (summary : Summary) (old new : BuildState) : Type 0 where
  pub flown : UnitsFly child Schedule options old new
  pub finished : is_finished (states_in flown.units.project flown.es) ≡ true
  -- the new run numbers of units follow one another; the first of them is above all run numbers in
  -- the build's records
  pub numbers : (after : Option ℕ) × NumbersGiven (LacksNumber flown.units.project old.world) flown.es (next_in (records_of options old.world.variables) old.world) after
  pub unnoted : (index : ℕ) → slice_get (states_in flown.units.project flown.es) index ≡ Some Untouched → slice_get flown.reasons index ≡ Some None
  -- The summary and the lines are those of a clean build. The summary and the lines also say for
  -- which units a child was started.
  pub answer : summary ≡ summary_of flown.units.project flown.es flown.reasons (rows_for child options old.world flown.units)
  pub lines : Appends old.heard.taken new.heard.taken (said_from flown.units.project flown.es 0 (rows_for child options old.world flown.units))
  -- the output folder of each good unit contains exactly the files that the unit has in a clean
  -- build
  pub files : (index : ℕ) (u : Planned) (made : Map) (directives : Option (List Directive)) (messages : List Message) → slice_get (rows_for child options old.world flown.units) index ≡ Some record { unit = u; outcome = Good made directives messages } → files_in u.out new.world.files ≡ made
  -- a unit that began has a child if and only if something differed from its record
  pub began : AllBeganFor (context_of premise child options old.world flown.units) flown.es flown.reasons old.world new.world

-- A call for the unit with this key failed, or no run number was left for the unit. The units were
-- not finished. This unit had begun and not answered. Exactly the due lines were written.
pub record UnitCallFails (project : Project) (es : List (Event BadUnit)) (rows : List Row) (key : List ℕ) (old new : Option (List ℕ)) : Type 0 where
  pub index : ℕ
  pub named : key_at project index ≡ key ∷ []
  pub flies : slice_get (states_in project es) index ≡ Some Begun
  pub missing : is_finished (states_in project es) ≡ false
  pub lines : Appends old new (said_from project es 0 (take (count_due (states_in project es)) rows))

-- What was written before this fault. If the fault is at a unit, exactly the due lines were
-- written. If the sink failed, the sink took a prefix of the due lines, but not all. If memory ran
-- out, the due lines of the first n units were written, for some n.
abbrev pub LinesBefore : BuildFault → Project → List (Event BadUnit) → List Row → Option (List ℕ) → Option (List ℕ) → Type 0
LinesBefore (Child key fault) project es rows old new = UnitCallFails project es rows key old new
LinesBefore (Device key fault) project es rows old new = UnitCallFails project es rows key old new
LinesBefore Sink project es rows old new = TakesPart (said_from project es 0 (take (count_due (states_in project es)) rows)) old new
LinesBefore OutOfMemory project es rows old new = (n : ℕ) × Appends old new (said_from project es 0 (take n (take (count_due (states_in project es)) rows)))
LinesBefore fault project es rows old new = ⊥

-- A fault came at a unit or at the sink, or memory ran out, or no run number was left. If no run
-- number was left, the units of this build had taken all numbers that were left when the build
-- began. `StandsCut` says what differed for a unit that could not begin.
pub record GivesFirst (premise : Premise) (child : Answers) (Schedule : Project → List (Event BadUnit) → Type 0) (options : Options) (fault : BuildFault) (old new : BuildState) : Type 0 where
  pub flown : UnitsFly child Schedule options old new
  pub spent : Spends (LacksNumber flown.units.project old.world) fault (next_in (records_of options old.world.variables) old.world) flown.es
  pub lines : LinesBefore fault flown.units.project flown.es (rows_for child options old.world flown.units) old.heard.taken new.heard.taken
  pub before : List (Event BadUnit)
  pub came : CameAfter flown.units.project fault before flown.es
  pub began : AllBeganFor (context_of premise child options old.world flown.units) before flown.reasons old.world new.world

-- If a call on a path failed after the version query, this call listed the records' folder or read
-- a record directly in it.
abbrev pub NamesOpened : List ℕ → World → BuildFault → Starts → Starts → Type 0
NamesOpened folder w (Device name (device.Place fault)) old new = (new ≡ old) ⊎ ((call : Call) × Contains (opened_looked folder w) call × (own_fault call ≡ fault) × (name_given call ≡ name))
NamesOpened folder w e old new = Unit {0}

-- what the build has produced when its finish line is due
abbrev pub GivesUnits : Premise → Answers → (Project → List (Event BadUnit) → Type 0) → Options → Result Summary BuildFault → BuildState → BuildState → Type 0
GivesUnits premise child Schedule options (Ok summary) old new = GivesAll premise child Schedule options summary old new
GivesUnits premise child Schedule options (Err fault) old new =
    (NoneBegan true child options (Err fault) old new × NamesOpened (records_of options old.world.variables) old.world fault old.counts.starts new.counts.starts) ⊎ GivesFirst premise child Schedule options fault old new

-- if true records are the premise of the build, the records are true after the build
abbrev pub LeavesRecords : Premise → Answers → Options → World → World → Type 0
LeavesRecords TrustedRecords child options old new = Sound reading judge child (records_of options old.variables) new.files
LeavesRecords NoRecords child options old new = Unit {0}

-- What a build produces, however it ends: its units, its finish line, and true records.
pub record GivesCleanResult (premise : Premise) (child : Answers) (Schedule : Project → List (Event BadUnit) → Type 0) (options : Options) (result : Result Summary BuildFault) (old new : BuildState) : Type 0 where
  pub inner : Result Summary BuildFault
  pub heard : SinkState
  pub units : GivesUnits premise child Schedule options inner old record new { heard = heard }
  pub closes : Closes inner result heard new.heard
  pub records : LeavesRecords premise child options old.world new.world

-- The headline. Suppose that the place is modelled, and that one of the premises is true, no matter
-- which. Then a build produces what a clean build of the present workspace produces.
abbrev pub Headline : Bool → Answers → (Project → List (Event BadUnit) → Type 0) → Options → Result Summary BuildFault → BuildState → BuildState → Type 0
Headline is_modelled child Schedule options result old new = IsTrue is_modelled → (premise : Premise) → RestsOn premise child options old.world → GivesCleanResult premise child Schedule options result old new
