-- How the units of a project end, and what stays true while the children in flight are dropped.
-- Some laws about the end of the units follow.
use Rattle.std.specs.Prelude.{◌≡◌, ℕ, true, false, List, Option, Some, Bool, ◌≢◌, ◌⊎◌, ◌∷◌, [], max, map, length, take, None, IsTrue, IfErr, Result, Ok, Err, slice_get}
use Rattle.std.specs.FinMap as finite
use Rattle.std.specs.Io.KnownBytes.{Appends}
use Rattle.std.specs.List.{AllByRecursion}
use Rattle.pb_build_result.specs.declared.bad_unit.BadUnit.{BadUnit}
use Rattle.pb_build_result.specs.declared.fault.BuildFault.{BuildFault}
use Rattle.pb_build_result.specs.declared.summary.Summary.{Summary}
use Rattle.pb_directive.specs.declared.directive.Directive.{Directive}
use Rattle.pb_run_flight.specs.Events.{Event, IsLawful, Anything, started_by, peak}
use Rattle.pb_run_flight.specs.Steps.{Flies, Anyhow, HandsBack}
use Rattle.pb_run_flight.specs.Table.{due, due_first, count_due, first_bad, is_finished, is_good_at}
use Rattle.pb_run_flight.specs.declared.flight.Answer.{Answer}
use Rattle.pb_run_flight.specs.declared.flight.State.TheVariants.{Untouched, Answered}
use Rattle.pb_run_flight.specs.declared.turn.Step.{Step}
use Rattle.pb_place_types.specs.Counts.{Counts, counted_finish}
use Rattle.pb_place_types.specs.World.{World, Answers}
use Rattle.pb_place_types.specs.declared.child_in_flight.ChildInFlight.{ChildInFlight}
use Rattle.pb_place_types.specs.declared.command.Command.{Command}
use Rattle.pb_place_types.specs.declared.command.Ended.{Ended}
use Rattle.pb_place_types.specs.declared.place.StartFault.{StartFault}
use Rattle.pb_place_types.specs.declared.place.StartFault.TheVariants as start
use Rattle.pb_command_types.specs.Targets.{unit_at}
use Rattle.pb_command_types.specs.declared.project.Project.{Project}
use Rattle.pb_command_types.specs.declared.project.Setup.{Setup}
use Rattle.pb_run.specs.UnitSteps.{Premise, BuildContext, build_context, BuildInvariant, TrustedRecords, HasRecord}
use Rattle.pb_run.specs.Invariants.{records_folder}
use Rattle.pb_store_soundness.specs.Apart.{is_of}
use Rattle.pb_build_turns.specs.Calling.{CallsCut, CallsCutOnAny, CallsOver, CallsOnAny, call_basis}
use Rattle.pb_build_turns.specs.Executor.{needs_of, ticket_of_child, BuildState}
use Rattle.pb_build_turns.specs.Rows.{Reasons, is_started, Row, rows_of, said_from, started_keys, is_success, key_told, said_told, bad_told, differences_of, kept_of, noted_told, summary_of}
use Rattle.pb_build_turns.specs.History.{AllAnswerAnew, AllBegan, AllLeaveRecords, CameAfter, Changes, ChangesInFlight, FliesBeside, HadDiffered, HasNoRecord, states_in, untouched, upped, AllAnswerAgain, Stops, Spends, IsUntold, LacksNumber, OnlyOf, AllBeganFor, AllBeganOnAny, StartedFor, StartedOnAny, HasGiven, NamesUnit, NumbersGiven, KeepsNoneOfBad, KeepsNoneInFlight, KeepsChildless, NotesStarted}
use Rattle.pb_build_turns.specs.declared.executor.RunningUnit.{RunningUnit}
use Rattle.pb_unit.specs.declared.plan.Planned.{Planned}

-- What stays true when children are dropped. `before` lists the units in flight before the drop,
-- and `after` the units in flight after the drop.
pub record StaysTold (child : Answers) (project : Project) (first : World) (es : List (Event BadUnit)) (before after : List RunningUnit) (old new : World) (flying : List ChildInFlight) : Type 0 where
  pub changes : Changes project first after es new flying
  -- each unit in flight after the drop was in flight before the drop
  pub beside : (came : List (Event BadUnit)) (asked : Option ℕ) → AllByRecursion (FliesBeside project came asked) before → AllByRecursion (FliesBeside project came asked) after
  -- the drop changes only the output folders of units in flight with a child, but not the folder of
  -- the unit `asked`
  pub alone : (came : List (Event BadUnit)) (asked : Option ℕ) → AllByRecursion (FliesBeside project came asked) before
      → ChangesInFlight project came asked old new
  -- if no record counted for a unit before the drop, no record counts for the unit after the drop
  pub unrecorded : (index : ℕ) (unit : Planned) → unit_at project index ≡ Some unit → HasNoRecord project unit old → HasNoRecord project unit new
  -- the folder and the record of a unit for which no child was started have not changed
  pub childless : (index : ℕ) (unit : Planned) (path : List ℕ) → unit_at project index ≡ Some unit → is_started es index ≡ false
      → is_of (records_folder project) unit.key path ≡ true → finite.get new.files path ≡ finite.get old.files path
  -- if `AllBegan` or `HadDiffered` was true before the drop, it is true after the drop
  pub began : (sources : World) (command : ℕ → Planned → Command) (fault : BuildFault) (came : List (Event BadUnit)) (reasons : Reasons)
      → IsLawful (needs_of project) es → CameAfter project fault came es
      → AllBegan project sources command came reasons first old → AllBegan project sources command came reasons first new
  pub started : (sources : World) (command : ℕ → Planned → Command) (fault : BuildFault) (came : List (Event BadUnit))
      → HadDiffered project sources command fault came es first old → HadDiffered project sources command fault came es first new
  -- if `AllAnswerAnew` or `AllLeaveRecords` was true before the drop, it is true after the drop
  pub anew : (setup : Setup) (done : List (Option (List Directive))) → IsLawful (needs_of project) es
      → AllAnswerAnew child setup project es done old → AllAnswerAnew child setup project es done new
  pub left : (setup : Setup) (done : List (Option (List Directive))) (next : Option ℕ) → IsLawful (needs_of project) es
      → AllLeaveRecords child setup project es done next first old → AllLeaveRecords child setup project es done next first new

-- For each of these tickets, the end of the ticket's child was awaited once, and the child's answer
-- was dropped. No other call was made. If each child answers, the counters do not show the order of
-- the children.
abbrev pub Dropped : List ℕ → Counts → Counts → Type 0
Dropped [] old new = new ≡ old
Dropped (ticket ∷ tickets) old new = (result : Result Ended StartFault) × IfErr result (λ e. e ≢ start.OutOfMemory → (e ≡ start.Died) ⊎ (e ≡ start.Capture)) × Dropped tickets (counted_finish ticket result old) new

-- the end of each child in flight was awaited once, and the child's answer was dropped
abbrev pub Drained : Counts → Counts → Type 0
Drained old new = Dropped (map ticket_of_child old.starts.flying) old new

-- the units of a build context with their outcomes in a clean build, up to and including the first
-- bad unit
abbrev pub rows_in : BuildContext → List Row
rows_in b = rows_of b.child b.setup b.project b.sources

-- no run has printed a directive yet
abbrev pub nothing_said : Project → List (Option (List Directive))
nothing_said project = map (λ (u : Planned). None) project.plan.planned

-- if `BuildInvariant` is true of a build context before any unit has begun, `Since` is true of this
-- context
abbrev pub Grounding : Answers → Setup → Project → Option ℕ → World → (BuildContext → Type 0) → Type 0
Grounding child setup project next w Since = (premise : Premise) (sources : World)
    → BuildInvariant (build_context premise child setup project sources) (untouched project) (nothing_said project) next w → Since (build_context premise child setup project sources)

-- What is true after these events. `BuildInvariant` is true. Each answered unit has its outcome of
-- a clean build. If the lines of k units are due, they are the lines of the first k rows of
-- `rows_in`. For each n, the due lines of the first n units are the lines of the first n of these
-- rows.
pub record OutcomeHolds (b : BuildContext) (es : List (Event BadUnit)) (new : World) : Type 0 where
  pub done : List (Option (List Directive))
  pub next : Option ℕ
  pub keeps : BuildInvariant b (states_in b.project es) done next new
  pub gave : (index : ℕ) (answer : Answer BadUnit) → slice_get (states_in b.project es) index ≡ Some (Answered answer) → HasGiven b es done index answer
  pub lines : due (states_in b.project es) ≡ said_from b.project es 0 (take (count_due (states_in b.project es)) (rows_in b))
  pub first_lines : (n : ℕ) → due_first n (states_in b.project es) ≡ said_from b.project es 0 (take n (take (count_due (states_in b.project es)) (rows_in b)))

-- All units up to and including the first bad unit have answered; without a bad unit, all units
-- have answered. The lines of all rows are due, and the summary comes from the rows. `BeganFor` is
-- true of each unit that began. `next` is the next run number.
pub record StandsWhole (b : BuildContext) (es : List (Event BadUnit)) (reasons : Reasons) (summary : Summary) (next : Option ℕ) (old new : World) : Type 0 where
  pub stands : OutcomeHolds b es new
  pub next_is : stands.next ≡ next
  pub all : count_due (states_in b.project es) ≡ length (rows_in b)
  pub answer : summary ≡ summary_of b.project es reasons (rows_in b)
  pub began : AllBeganFor b es reasons old new

-- A fault ended the build after these events. If a unit could not begin because its start failed,
-- or because memory ran out in the spawn, something differed from the unit's record.
pub record StandsCut (b : BuildContext) (fault : BuildFault) (es before : List (Event BadUnit)) (old new : World) : Type 0 where
  pub stands : OutcomeHolds b es new
  pub reasons : Reasons
  pub began : AllBeganFor b before reasons old new
  pub started : StartedFor b fault before es old new

-- The units ended without a fault, and no failure was injected. The fields without `is_modelled`
-- are true over every place: the report, what was written, and the counters. The fields with
-- `is_modelled` are true over a modelled place, whether the records are true or not. Those fields
-- say why each unit began, what it answered, which record it left, which numbers were taken, and
-- which calls were made.
pub record EndsWhole {S : Type 0} (is_modelled : Bool) (child : Answers) (Turns : S → List ℕ → List ℕ → Step → S → Type 0) (setup : Setup) (project : Project) (next : Option ℕ) (from last : S) (summary : Summary) (old new : BuildState) : Type 0 where
  pub es : List (Event BadUnit)
  pub flies : Flies Turns (needs_of project) Anyhow Anything from es last
  pub finished : is_finished (states_in project es) ≡ true
  pub success : summary.success ≡ is_success (bad_told project.plan.planned (states_in project es) (first_bad (states_in project es)))
  pub good : summary.success ≡ true → (index : ℕ) (u : Planned) → unit_at project index ≡ Some u → is_good_at (slice_get (states_in project es) index) ≡ true
  pub bad : summary.bad ≡ key_told (bad_told project.plan.planned (states_in project es) (first_bad (states_in project es)))
  pub said : summary.said ≡ said_told (bad_told project.plan.planned (states_in project es) (first_bad (states_in project es)))
  pub started : summary.started ≡ started_keys project es
  pub reasons : Reasons
  pub differences : summary.differences ≡ differences_of es reasons
  pub kept : summary.kept ≡ kept_of project.plan.planned reasons
  pub done : List (Option (List Directive))
  pub directives : summary.directives ≡ noted_told project.plan.planned done (first_bad (states_in project es))
  pub unnoted : (index : ℕ) → slice_get (states_in project es) index ≡ Some Untouched → slice_get reasons index ≡ Some None
  pub noted : NotesStarted project es reasons
  pub lines : Appends old.heard.taken new.heard.taken (due (states_in project es))
  pub faults : new.heard.faults ≡ old.heard.faults
  pub mid : Counts
  pub failures : mid.failures ≡ old.counts.failures
  pub starts : mid.starts.count ≡ upped (length (started_by es)) old.counts.starts.count
  pub settings : mid.starts.settings ≡ old.counts.starts.settings
  pub drained : Drained mid new.counts
  pub landed : new.counts.starts.flying ≡ []
  pub most : new.most ≡ max old.most (peak es)
  pub only : IsTrue is_modelled → OnlyOf project es old.world new.world
  pub last_world : World
  pub dropping : IsTrue is_modelled → ChangesInFlight project es None last_world new.world
  pub numbers : (after : Option ℕ) × NumbersGiven IsUntold es next after
  pub taken : IsTrue is_modelled → NumbersGiven (LacksNumber project old.world) es next numbers.0
  pub unkept : IsTrue is_modelled → KeepsNoneOfBad project es new.world
  pub dropped : IsTrue is_modelled → KeepsNoneInFlight project es None new.world
  pub childless : IsTrue is_modelled → KeepsChildless project es None old.world new.world
  pub began : IsTrue is_modelled → AllBeganOnAny setup project done es reasons old.world new.world
  pub again : IsTrue is_modelled → AllAnswerAgain setup project es done old.world
  pub anew : IsTrue is_modelled → AllAnswerAnew child setup project es done new.world
  pub left : IsTrue is_modelled → AllLeaveRecords child setup project es done next old.world new.world
  pub told : IsTrue is_modelled → Grounding child setup project next old.world (λ b. StandsWhole b es reasons summary numbers.0 old.world new.world)
  pub calls : IsTrue is_modelled → Grounding child setup project next old.world (λ b. CallsOver (call_basis b) es old.world old.counts last_world mid)
  pub calls_on_any : IsTrue is_modelled → CallsOnAny child setup project done es old.world old.counts last_world mid

-- A fault ended the run of the units. The fault's cause, and what the sink received, were fixed
-- before the children in flight were dropped. After the fault no unit began, and the turn decided
-- no step (`HandsBack`, `Flies`). Over a modelled place, the units that have begun, and those that
-- have answered, are as `EndsWhole` says. If a unit could not begin because its start failed,
-- something differed from the unit's record.
pub record EndsCut {S : Type 0} (is_modelled : Bool) (child : Answers) (Turns : S → List ℕ → List ℕ → Step → S → Type 0) (setup : Setup) (project : Project) (next : Option ℕ) (from back : S) (fault : BuildFault) (old new : BuildState) : Type 0 where
  pub es : List (Event BadUnit)
  pub last : S
  pub flies : Flies Turns (needs_of project) Anyhow Anything from es last
  pub asked : Option ℕ
  pub hands : HandsBack Turns (needs_of project) es last asked back
  pub mid : BuildState
  pub heard : new.heard ≡ mid.heard
  pub stops : Stops is_modelled fault project old mid es
  pub spent : Spends IsUntold fault next es
  pub caused : IsTrue is_modelled → Spends (LacksNumber project old.world) fault next es
  pub drained : Drained mid.counts new.counts
  pub landed : new.counts.starts.flying ≡ []
  pub before : List (Event BadUnit)
  pub came : CameAfter project fault before es
  pub names : NamesUnit project fault asked before es
  pub most : new.most ≡ max old.most (peak before)
  pub only : IsTrue is_modelled → OnlyOf project es old.world new.world
  pub dropping : IsTrue is_modelled → ChangesInFlight project before asked mid.world new.world
  pub unkept : IsTrue is_modelled → KeepsNoneOfBad project es new.world
  pub dropped : IsTrue is_modelled → KeepsNoneInFlight project before asked new.world
  pub childless : IsTrue is_modelled → KeepsChildless project before asked old.world new.world
  pub reasons : Reasons
  pub done : List (Option (List Directive))
  pub began : IsTrue is_modelled → AllBeganOnAny setup project done before reasons old.world new.world
  pub started : IsTrue is_modelled → StartedOnAny setup project done fault before es old.world new.world
  pub again : IsTrue is_modelled → AllAnswerAgain setup project es done old.world
  pub anew : IsTrue is_modelled → AllAnswerAnew child setup project es done new.world
  pub left : IsTrue is_modelled → AllLeaveRecords child setup project es done next old.world new.world
  pub told : IsTrue is_modelled → Grounding child setup project next old.world (λ b. StandsCut b fault es before old.world new.world)
  pub calls : IsTrue is_modelled → Grounding child setup project next old.world (λ b. CallsCut (call_basis b) fault asked es before old.world old.counts mid.world mid.counts)
  pub calls_on_any : IsTrue is_modelled → CallsCutOnAny child setup project done fault asked es before old.world old.counts mid.world mid.counts

-- how the units end: with a summary as `EndsWhole` says, or with a fault as `EndsCut` says
abbrev pub TurnsEnd : {S : Type 0} → Bool → Answers → (S → List ℕ → List ℕ → Step → S → Type 0) → Setup → Project → Option ℕ → S → S → Result Summary BuildFault → BuildState → BuildState → Type 0
TurnsEnd is_modelled child Turns setup project next from last (Ok summary) old new = EndsWhole is_modelled child Turns setup project next from last summary old new
TurnsEnd is_modelled child Turns setup project next from last (Err fault) old new = EndsCut is_modelled child Turns setup project next from last fault old new

-- Let each answered unit have its outcome of a clean build. If the lines of n units are due, they
-- are those of the first n rows. Once all units up to and including the first bad unit have
-- answered, the lines of all rows are due.
abbrev pub SaysFirstRows : Type 0
SaysFirstRows = (b : BuildContext) (es : List (Event BadUnit)) (done : List (Option (List Directive))) → ((index : ℕ) (answer : Answer BadUnit) → slice_get (states_in b.project es) index ≡ Some (Answered answer) → HasGiven b es done index answer)
    → (due (states_in b.project es) ≡ said_from b.project es 0 (take (count_due (states_in b.project es)) (rows_in b))) × (is_finished (states_in b.project es) ≡ true → count_due (states_in b.project es) ≡ length (rows_in b))

-- each unit has its record, and nothing differs from this record
abbrev pub EachHasRecord : BuildContext → World → Type 0
EachHasRecord b w = (index : ℕ) (u : Planned) → unit_at b.project index ≡ Some u → HasRecord b w index

-- if each unit has its record before any unit begins, no child is started
abbrev pub StartsNothing : Type 0
StartsNothing = (b : BuildContext) (es : List (Event BadUnit)) (reasons : Reasons) (first now : World) → IsLawful (needs_of b.project) es → AllBeganFor b es reasons first now → EachHasRecord b first → started_by es ≡ []

-- if a build over true records succeeds, each unit has its record after the build
abbrev pub LeavesRecords : {S : Type 0} → (S → List ℕ → List ℕ → Step → S → Type 0) → Type 0
LeavesRecords {S} Turns = (child : Answers) (setup : Setup) (project : Project) (next : Option ℕ) (from last : S) (summary : Summary) (old new : BuildState) → EndsWhole true child Turns setup project next from last summary old new
    → summary.success ≡ true → (sources : World) → BuildInvariant (build_context TrustedRecords child setup project sources) (untouched project) (nothing_said project) next old.world
    → EachHasRecord (build_context TrustedRecords child setup project sources) new.world

-- if each unit has its record before any unit begins, no child is started, and the summary lists no
-- started units
abbrev pub StartsNoneAgain : {S : Type 0} → (S → List ℕ → List ℕ → Step → S → Type 0) → Type 0
StartsNoneAgain {S} Turns = (child : Answers) (setup : Setup) (project : Project) (next : Option ℕ) (from last : S) (summary : Summary) (old new : BuildState) → EndsWhole true child Turns setup project next from last summary old new
    → (premise : Premise) (sources : World) → BuildInvariant (build_context premise child setup project sources) (untouched project) (nothing_said project) next old.world
    → EachHasRecord (build_context premise child setup project sources) old.world → (new.counts.starts.count ≡ old.counts.starts.count) × (summary.started ≡ [])
