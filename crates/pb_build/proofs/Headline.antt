-- A build that rests on true records and an honest child, or on no record, gives what its units give from nothing, and leaves true records.
use Rattle.std.proofs.Common.{◌≡◌, ◌∙◌, ◌<◌, true, false, Bool, List, [], ◌∷◌, ℕ, zero, suc, map, length, take, is_none, if◌then◌else◌, Option, Some, None, Result, Ok, Err, inl, inr, refl, sym, ap, ap₂, subst, arith, slice_get}
use Rattle.std.proofs.lemmas.List.{length-map}
use Rattle.std.proofs.Math.Seq.{take-length}
use Rattle.std.specs.Io.KnownBytes.{Appends}
use Rattle.std.specs.Prelude.{IsTrue}
use Rattle.pb_build_result.specs.declared.fault.BuildFault.{BuildFault}
use Rattle.pb_build_result.specs.declared.fault.BuildFault.TheVariants.{Plan, Toolchain, Child, Device, Sink, OutOfMemory}
use Rattle.pb_build_result.specs.declared.summary.Summary.{Summary}
use Rattle.pb_command.specs.Judge.{judge}
use Rattle.pb_directive.specs.declared.directive.Directive.{Directive}
use Rattle.pb_run_flight.specs.Events.{Event, Anything, started_by}
use Rattle.pb_run_flight.specs.Steps.{Flies, Anyhow, HandsBack}
use Rattle.pb_run_flight.specs.Table.{due, due_first, count_due, is_finished, is_good_at}
use Rattle.pb_run_flight.specs.declared.flight.Answer.{Answer}
use Rattle.pb_run_flight.specs.declared.flight.State.{State}
use Rattle.pb_run_flight.specs.declared.flight.State.TheVariants.{Untouched, Begun, Answered}
use Rattle.pb_run_flight.specs.declared.turn.Step.{Step}
use Rattle.pb_run_flight.proofs.Stepping.{begun_missing}
use Rattle.pb_message.specs.declared.message.Message.{Message}
use Rattle.pb_workspace_types.specs.declared.options.Options.{Options}
use Rattle.pb_place_types.specs.Counts.{Counts, Starts, up, up_starts}
use Rattle.pb_place_types.specs.Folders.{files_in}
use Rattle.pb_place_types.specs.Paths.{below}
use Rattle.pb_place_types.specs.World.{World, Map, Answers, from_nothing}
use Rattle.pb_profile.specs.Line.{folder_of}
use Rattle.pb_build_result.specs.declared.bad_unit.BadUnit.{BadUnit}
use Rattle.pb_command_types.specs.declared.project.Project.{Project}
use Rattle.pb_command_types.specs.declared.project.Setup.{Setup}
use Rattle.pb_run.specs.UnitSteps.{Premise, TrustedRecords, NoRecords, BuildContext, build_context, key_in, outcomes_in, BuildInvariant, HoldsBy}
use Rattle.pb_run.specs.Outcome.{Outcome, Good}
use Rattle.pb_run.specs.Invariants.{records_folder}
use Rattle.pb_store_soundness.specs.Records.{reading, records}
use Rattle.pb_store_soundness.specs.Sound.{Sound}
use Rattle.pb_store.specs.Folder.{next_in}
use Rattle.pb_store.proofs.Ahead.{opened_ahead}
use Rattle.pb_build_turns.specs.Executor.{needs_of, ticket_of_child, BuildState}
use Rattle.pb_build_turns.specs.Ends.{TurnsEnd, Drained, StandsWhole, StandsCut, OutcomeHolds, nothing_said, rows_in}
use Rattle.pb_place_types.specs.Sinks.{SinkState}
use Rattle.pb_build_turns.specs.Rows.{Row, to_first_bad, is_bad, fault_in, said_from}
use Rattle.pb_build_turns.specs.History.{states_in, untouched, upped, Stops, StopsAt, StopsAtSink, AllBeganFor, IsBeginning, LacksNumber, NamesUnit, NumbersGiven, Spends}
use Rattle.pb_build_turns.proofs.Repeating.{dropped_count}
use Rattle.pb_unit.specs.declared.plan.Planned.{Planned}
use Rattle.pb_workspace.proofs.Accepted.{target_kept}
use Rattle.pb_build.specs.Ending.{Works, Builds, StopsEarly}
use Rattle.pb_build.specs.Environment.{environment_of}
use Rattle.pb_build.specs.Headline.{records_of, RestsOn, ByTurns, UnitsOf, AnswersAs, NamesOpened, UnitCallFails, LinesBefore, GivesUnits, LeavesRecords, GivesCleanResult, Headline}
use Rattle.pb_build.specs.Planning.{IsProject}
use Rattle.pb_build.specs.Result.{toolchain_of, setup_of}
use Rattle.pb_build.proofs.Opened.{names_opened}

injective : {A : Type 0} {x y : A} → Some x ≡ Some y → x ≡ y
injective e = cc

pub no_fault : {summary : Summary} {fault : BuildFault} → Ok summary ≡ Err fault → ⊥
no_fault e = cc

-- before a unit has begun none is good
none_good : (needs : List (List ℕ)) (index : ℕ) → is_good_at {F = BadUnit} (slice_get (map (λ _. Untouched) needs) index) ≡ true → ⊥
none_good [] index good = cc
none_good (n ∷ needs) zero good = cc
none_good (n ∷ needs) (suc index) good = none_good needs index good

-- what the halves of units keep then
first_kept : (b : BuildContext) (next : Option ℕ) (w : World) → from_nothing b.project.workspace.target w ≡ b.sources → HoldsBy b.premise b (untouched b.project) next w → BuildInvariant b (untouched b.project) (nothing_said b.project) next w
first_kept b next w sources holds = record {
  long = length-map b.project.plan.planned _ ∙ sym (length-map (needs_of b.project) _ ∙ length-map b.project.plan.planned _);
  sources_stay = sources;
  good = λ index good. absurd (none_good (needs_of b.project) index good);
  closed = λ index u good there. absurd (none_good (needs_of b.project) index good);
  records = holds;
}

-- The rows of units that have answered.

inside : {A : Type 0} (xs : List A) (i : ℕ) (x : A) → slice_get xs i ≡ Some x → i < length xs
inside [] i x at = cc
inside (y ∷ ys) zero x at = omega arith
inside (y ∷ ys) (suc i) x at = let less : i < length ys = inside ys i x at in omega (arith, less)

-- a row of the result is of a unit and its outcome
record RowAt (us : List Planned) (os : List Outcome) (index : ℕ) (row : Row) : Type 0 where
  pub unit : slice_get us index ≡ Some row.unit
  pub outcome : slice_get os index ≡ Some row.outcome

row_at : (us : List Planned) (os : List Outcome) (index : ℕ) (row : Row) → slice_get (to_first_bad us os) index ≡ Some row → RowAt us os index row
row_at [] os index row at = cc
row_at (u ∷ us) [] index row at = cc
row_at (u ∷ us) (o ∷ os) zero row at =
    let same : record { unit = u; outcome = o } ≡ row = injective at in
    record { unit = ap (λ (r : Row). Some r.unit) same; outcome = ap (λ (r : Row). Some r.outcome) same }
row_at (u ∷ us) (o ∷ os) (suc index) row at = let r = by (is_bad o) at (λ more. row_at us os index row more) in record { unit = r.unit; outcome = r.outcome }
  where
    by : (b : Bool) → slice_get (if b then [] else to_first_bad us os) index ≡ Some row → (slice_get (to_first_bad us os) index ≡ Some row → RowAt us os index row) → RowAt us os index row
    by true none rest = cc
    by false more rest = rest more

-- a unit whose lines are due has answered
answered_due : {F : Type 0} (ss : List (State F)) (index : ℕ) → index < count_due ss → (answer : Answer F) × (slice_get ss index ≡ Some (Answered answer))
answered_due [] index less = absurd (omega (arith, less))
answered_due (Untouched ∷ ss) index less = absurd (omega (arith, less))
answered_due (Begun ∷ ss) index less = absurd (omega (arith, less))
answered_due (Answered a ∷ ss) zero less = (a, refl)
answered_due (Answered a ∷ ss) (suc index) less = by (is_none a.fault) less (λ more. answered_due ss index more)
  where
    by : (b : Bool) → suc index < suc (if b then count_due ss else 0) → (index < count_due ss → (answer : Answer _) × (slice_get ss index ≡ Some (Answered answer))) → (answer : Answer _) × (slice_get ss index ≡ Some (Answered answer))
    by true more rest = rest (omega (arith, more))
    by false more rest = absurd (omega (arith, more))

-- the folder of the records
pub same_folder : (options : Options) (w : World) (project : Project) → IsProject options (environment_of options w.variables).target w project → records_folder project ≡ records_of options w.variables
same_folder options w project is = ap₂ (λ (t n : List ℕ). below t (folder_of n)) (target_kept options.manifest (environment_of options w.variables).target w project.workspace is.selected.read) is.profile

-- what a build rests on is what the halves of units keep at first
module _ (child : Answers) (options : Options) (w : World) (project : Project) (toolchain : List ℕ) (is : IsProject options (environment_of options w.variables).target w project)
    (says : toolchain_of child (environment_of options w.variables) project (from_nothing (environment_of options w.variables).target w) ≡ Some toolchain) (next : Option ℕ)
    (is_next : next ≡ next_in (records_folder project) w) where
  abbrev its_basis : Premise → BuildContext
  its_basis f = build_context f child (setup_of options (environment_of options w.variables) toolchain) project (from_nothing (environment_of options w.variables).target w)

  holds : (f : Premise) → RestsOn f child options w → HoldsBy f (its_basis f) (untouched project) next w
  holds TrustedRecords (sound, honest) = record {
    honest = honest record { project = project; toolchain = toolchain; is = is; says = says };
    sound = subst (λ (f : List ℕ). Sound reading judge child f w.files) (sym (same_folder options w project is)) sound;
    ahead = opened_ahead (records_folder project) w next is_next;
    recorded = λ index good. absurd (none_good (needs_of project) index good);
  }
  holds NoRecords none = λ index u there state. subst (λ (f : List ℕ). records f w u.key ≡ None) (sym (same_folder options w project is)) (none u.key)

  pub rests_first : (f : Premise) → RestsOn f child options w → BuildInvariant (its_basis f) (untouched project) (nothing_said project) next w
  rests_first f on =
      first_kept (its_basis f) next w (ap (λ (t : List ℕ). from_nothing t w) (target_kept options.manifest (environment_of options w.variables).target w project.workspace is.selected.read)) (holds f on)

module _ (premise : Premise) (child : Answers) (options : Options) where
  -- before the units nothing was changed
  stay_true : (f : Premise) (old new : World) → RestsOn f child options old → new ≡ old → LeavesRecords f child options old new
  stay_true TrustedRecords old new (sound, honest) same = subst (λ (w : World). Sound reading judge child (records_of options old.variables) w.files) (sym same) sound
  stay_true NoRecords old new none same = tt

  module _ {S : Type 0} (Turns : S → List ℕ → List ℕ → Step → S → Type 0) (from last : S) where
    none_gives : (result : Result Summary BuildFault) (old new : BuildState) → StopsEarly true child options from last result old new → GivesUnits premise child (ByTurns Turns from) options result old new
    none_gives (Ok summary) old new early = absurd (no_fault early.none_began.answer)
    none_gives (Err fault) old new early =
        let same : early.none_began.fault ≡ fault = told_of (Err fault) fault early.none_began.fault refl early.none_began.answer in
        inl (
          early.none_began,
          subst (λ (f : BuildFault). NamesOpened (records_of options old.world.variables) old.world f old.counts.starts new.counts.starts) same
              (names_opened child options old.world (records_of options old.world.variables) (same_folder options old.world) early.none_began.fault old.counts new.counts early.none_began.why (early.calls refl)),
        )
      where
        told_of : (result : Result Summary BuildFault) (f g : BuildFault) → result ≡ Err f → result ≡ Err g → g ≡ f
        told_of result f g first second = cc

    module _ (project : Project) (toolchain : List ℕ) (old mid new : BuildState) (is : IsProject options (environment_of options old.world.variables).target old.world project)
        (says : toolchain_of child (environment_of options old.world.variables) project (from_nothing (environment_of options old.world.variables).target old.world) ≡ Some toolchain) (next : Option ℕ)
        (is_next : next ≡ next_in (records_folder project) old.world) (stays : mid.world ≡ old.world) (queried : mid.counts.starts ≡ up_starts old.counts.starts) (heard : mid.heard ≡ old.heard) (rests : RestsOn premise child options old.world) where
      abbrev setup : Setup
      setup = setup_of options (environment_of options old.world.variables) toolchain

      abbrev sources : World
      sources = from_nothing (environment_of options old.world.variables).target old.world

      abbrev b : BuildContext
      b = build_context premise child setup project sources

      kept_first : (f : Premise) → RestsOn f child options old.world → BuildInvariant (build_context f child setup project sources) (untouched project) (nothing_said project) next mid.world
      kept_first f on = subst (λ (w : World). BuildInvariant (build_context f child setup project sources) (untouched project) (nothing_said project) next w) (sym stays) (rests_first child options old.world project toolchain is says next is_next f on)

      abbrev units : UnitsOf child options old.world
      units = record { project = project; toolchain = toolchain; is = is; says = says }

      -- the children that were started since the start
      counted : (es : List (Event BadUnit)) (stop : Counts) → stop.starts.count ≡ upped (length (started_by es)) mid.counts.starts.count → Drained stop new.counts
          → new.counts.starts.count ≡ upped (length (started_by es)) (up old.counts.starts.count)
      counted es stop starts drained =
          dropped_count (map ticket_of_child stop.starts.flying) stop new.counts drained ∙ (starts ∙ ap (λ (s : Starts). upped (length (started_by es)) s.count) queried)

      leaves : (f : Premise) (es : List (Event BadUnit)) → OutcomeHolds (build_context f child setup project sources) es new.world → LeavesRecords f child options old.world new.world
      leaves TrustedRecords es stands = subst (λ (f : List ℕ). Sound reading judge child f new.world.files) (same_folder options old.world project is) stands.keeps.records.sound
      leaves NoRecords es stands = tt

      -- the bytes that were handed out since the start
      since : (es : List (Event BadUnit)) (bytes told : List ℕ) → bytes ≡ told → Appends mid.heard.taken new.heard.taken bytes → Appends old.heard.taken new.heard.taken told
      since es bytes told same taken = subst (λ (h : SinkState). Appends h.taken new.heard.taken told) heard (subst (Appends mid.heard.taken new.heard.taken) same taken)

      module _ (es : List (Event BadUnit)) (stands : OutcomeHolds b es new.world) where
        -- the folder of a good unit among those that were told
        file_holds : count_due (states_in project es) ≡ length (rows_in b) → (index : ℕ) (u : Planned) (made : Map) (directives : Option (List Directive)) (messages : List Message)
            → slice_get (rows_in b) index ≡ Some record { unit = u; outcome = Good made directives messages } → files_in u.out new.world.files ≡ made
        file_holds all index u made directives messages row =
            let at = row_at project.plan.planned (outcomes_in b) index record { unit = u; outcome = Good made directives messages } row in
            let less : index < length (rows_in b) = inside (rows_in b) index record { unit = u; outcome = Good made directives messages } row in
            let due_now : index < count_due (states_in project es) = subst (λ (n : ℕ). index < n) (sym all) less in
            let (answer, here) = answered_due (states_in project es) index due_now in
            let gave = stands.gave index answer here in
            let outcome_is : gave.outcome ≡ Good made directives messages = injective (sym gave.is ∙ at.outcome) in
            let well : answer.fault ≡ None = gave.fault ∙ ap fault_in outcome_is in
            let good : is_good_at (slice_get (states_in project es) index) ≡ true = ap is_good_at here ∙ ap is_none well in
            let s = stands.keeps.good index good in
            let same_unit : s.unit ≡ u = injective (sym s.there ∙ at.unit) in
            let same_good : Good s.files s.directives s.messages ≡ Good made directives messages = injective (sym s.good ∙ at.outcome) in
            let same_files : s.files ≡ made = good_files same_good in
            ap (λ (x : Planned). files_in x.out new.world.files) (sym same_unit) ∙ (s.holds ∙ same_files)
          where
            good_files : {f g : Map} {d e : Option (List Directive)} {m n : List Message} → Good f d m ≡ Good g e n → f ≡ g
            good_files e = cc

        gave_so : AnswersAs (outcomes_in b) project es
        gave_so index answer here = let gave = stands.gave index answer here in (gave.outcome, gave.is, gave.fault)

        all_lines : count_due (states_in project es) ≡ length (rows_in b) → due (states_in project es) ≡ said_from project es 0 (rows_in b)
        all_lines all = stands.lines ∙ (ap (λ (n : ℕ). said_from project es 0 (take n (rows_in b))) all ∙ ap (said_from project es 0) (take-length (rows_in b)))

      -- the lines before a fault
      module _ (es : List (Event BadUnit)) (stands : OutcomeHolds b es new.world) (stop : BuildState) (after : new.heard ≡ stop.heard) (stopped : S) (flies : Flies Turns (needs_of project) Anyhow Anything from es stopped)
          (asked : Option ℕ) (hands : HandsBack Turns (needs_of project) es stopped asked last) (before : List (Event BadUnit)) where
        first_lines : (bytes told : List ℕ) → bytes ≡ told → Appends mid.heard.taken stop.heard.taken bytes → Appends old.heard.taken new.heard.taken told
        first_lines bytes told same taken = since es bytes told same (subst (λ (h : SinkState). Appends mid.heard.taken h.taken bytes) (sym after) taken)

        -- units were missing as an answer was asked for, or a unit could not begin
        units_missing : (key : List ℕ) (spawned : Bool) (unit : Option ℕ) → HandsBack Turns (needs_of project) es stopped unit last → (unit ≡ None → IsBeginning project key spawned before es) → is_finished (states_in project es) ≡ false
        units_missing key spawned None same begins = let (index, named, is) = begins refl in begun_missing Turns (needs_of project) Anyhow Anything from es stopped flies index spawned before is
        units_missing key spawned (Some unit) (i, missing, at, turned) begins = missing

        fails_at : (key : List ℕ) → is_finished (states_in project es) ≡ false → StopsAt true project mid stop key es → UnitCallFails project es (rows_in b) key old.heard.taken new.heard.taken
        fails_at key missing by = record {
          index = by.index;
          named = ap key_in by.there ∙ ap (λ (k : List ℕ). k ∷ []) by.named;
          flies = by.flies;
          missing = missing;
          lines = first_lines (due (states_in project es)) _ stands.lines by.lines;
        }

        lines_before : (fault : BuildFault) → NamesUnit project fault asked before es → Stops true fault project mid stop es → LinesBefore fault project es (rows_in b) old.heard.taken new.heard.taken
        lines_before (Plan why) names stops = stops.by
        lines_before Toolchain names stops = stops.by
        lines_before (Child key fault) names stops = fails_at key (units_missing key true asked hands (λ none. subst (λ (u : Option ℕ). NamesUnit project (Child key fault) u before es) none names)) stops.by
        lines_before (Device key fault) names stops = fails_at key (units_missing key false asked hands (λ none. subst (λ (u : Option ℕ). NamesUnit project (Device key fault) u before es) none names)) stops.by
        lines_before Sink names stops =
            let sink : StopsAtSink project mid stop es = stops.by in
            (sink.taken, subst (λ (l : List ℕ). sink.taken < length l) stands.lines sink.part, first_lines (take sink.taken (due (states_in project es))) _ (ap (take sink.taken) stands.lines) sink.lines)
        lines_before OutOfMemory names stops = let ((n, taken), faults) = stops.by in (n, first_lines (due_first n (states_in project es)) _ (stands.first_lines n) taken)

      next_is : next ≡ next_in (records_of options old.world.variables) old.world
      next_is = is_next ∙ ap (λ (f : List ℕ). next_in f old.world) (same_folder options old.world project is)

      turns_give : (result : Result Summary BuildFault) → TurnsEnd true child Turns setup project next from last result mid new
          → GivesUnits premise child (ByTurns Turns from) options result old new × LeavesRecords premise child options old.world new.world
      turns_give (Ok summary) ends =
          let whole : StandsWhole b ends.es ends.reasons summary ends.numbers.0 mid.world new.world = ends.told refl premise sources (kept_first premise rests) in (
            record {
              flown = record { units = units; es = ends.es; flies = (last, ends.flies); gave = gave_so ends.es whole.stands; starts = counted ends.es ends.mid ends.starts ends.drained; reasons = ends.reasons };
              finished = ends.finished;
              numbers = (
                ends.numbers.0,
                subst (λ (n : Option ℕ). NumbersGiven (LacksNumber project old.world) ends.es n ends.numbers.0) next_is
                    (subst (λ (w : World). NumbersGiven (LacksNumber project w) ends.es next ends.numbers.0) stays (ends.taken refl)),
              );
              unnoted = ends.unnoted;
              answer = whole.answer;
              lines = since ends.es (due (states_in project ends.es)) _ (all_lines ends.es whole.stands whole.all) ends.lines;
              files = file_holds ends.es whole.stands whole.all;
              began = subst (λ (w : World). AllBeganFor b ends.es ends.reasons w new.world) stays whole.began;
            },
            leaves premise ends.es whole.stands,
          )
      turns_give (Err fault) ends =
          let cut : StandsCut b fault ends.es ends.before mid.world new.world = ends.told refl premise sources (kept_first premise rests) in (
            inr record {
              flown = record { units = units; es = ends.es; flies = (ends.last, ends.flies); gave = gave_so ends.es cut.stands; starts = counted ends.es ends.mid.counts ends.stops.starts ends.drained; reasons = cut.reasons };
              spent = subst (λ (n : Option ℕ). Spends (LacksNumber project old.world) fault n ends.es) next_is (subst (λ (w : World). Spends (LacksNumber project w) fault next ends.es) stays (ends.caused refl));
              lines = lines_before ends.es cut.stands ends.mid ends.heard ends.last ends.flies ends.asked ends.hands ends.before fault ends.names ends.stops;
              before = ends.before;
              came = ends.came;
              began = subst (λ (w : World). AllBeganFor b ends.before cut.reasons w new.world) stays cut.began;
            },
            leaves premise ends.es cut.stands,
          )

    works_give : (result : Result Summary BuildFault) (old new : BuildState) → RestsOn premise child options old.world → Works true child Turns options from last result old new
        → GivesUnits premise child (ByTurns Turns from) options result old new × LeavesRecords premise child options old.world new.world
    works_give result old new rests (inl early) = (none_gives result old new early, stay_true premise old.world new.world rests (early.none_began.stays refl))
    works_give result old new rests (inr units) =
        let project = units.prepared.project in
        let is = units.prepares.is refl in
        turns_give project is.toolchain old units.mid new is.project is.says units.prepared.store.next
        is.next (units.prepares.stays refl) units.prepares.starts units.heard rests result
        (subst (λ (s : Setup). TurnsEnd true child Turns s project units.prepared.store.next from last result units.mid new) is.setup units.ends)

    builds_give : (result : Result Summary BuildFault) (old new : BuildState) → RestsOn premise child options old.world → Builds true child Turns options from last result old new → GivesCleanResult premise child (ByTurns Turns from) options result old new
    builds_give result old new rests builds =
        let (units, records) = works_give builds.inner old record new { heard = builds.heard } rests builds.works in
        record { inner = builds.inner; heard = builds.heard; units = units; closes = builds.closes; records = records }

-- the headline, of every build
pub headline : {S : Type 0} (is_modelled : Bool) (child : Answers) (Turns : S → List ℕ → List ℕ → Step → S → Type 0) (options : Options) (from last : S) (result : Result Summary BuildFault) (old new : BuildState)
    → Builds is_modelled child Turns options from last result old new → Headline is_modelled child (ByTurns Turns from) options result old new
headline true child Turns options from last result old new builds told premise rests = builds_give premise child options Turns from last result old new rests builds
headline false child Turns options from last result old new builds told premise rests = absurd (told_false told)
  where
    told_false : IsTrue false → ⊥
    told_false e = cc
