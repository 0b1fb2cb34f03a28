-- Units for which no child was started answer what their records gave at first.
use Rattle.std.proofs.Common.{◌≡◌, ◌≢◌, ◌∙◌, ◌++◌, ◌<◌, ◌||◌, inl, inr, Bool, true, false, List, [], ◌∷◌, ℕ, Option, Some, None, Result, Ok, IsTrue, is_some, refl, sym, ap, subst, slice_get, slice_set, length}
use Rattle.std.proofs.lemmas.Bool.{false≢true}
use Rattle.std.proofs.lemmas.Option.{slice_get_within}
use Rattle.std.specs.FinMap as finite
use Rattle.std.specs.List.{AllByRecursion, remove}
use Rattle.pb_build_result.specs.declared.bad_unit.BadUnit.{BadUnit}
use Rattle.pb_command_reply.specs.Answers.{answered_of}
use Rattle.pb_command.specs.Command.{command_of}
use Rattle.pb_command.specs.Judge.{file_at}
use Rattle.pb_directive.specs.declared.directive.Directive.{Directive}
use Rattle.pb_run_flight.specs.declared.flight.Answer.{Answer}
use Rattle.pb_run_flight.specs.declared.flight.State.TheVariants.{Untouched, Begun, Answered}
use Rattle.pb_run_flight.specs.Events.{Event, Began, Gave, IsLawful}
use Rattle.pb_run_flight.specs.Laws.{HasBegun}
use Rattle.pb_run_flight.specs.Table.{is_good_at}
use Rattle.pb_run_flight.proofs.Lists.{injective, get_set_other}
use Rattle.pb_run_flight.proofs.Ready.{good_at}
use Rattle.pb_place_types.specs.Counts.{Counts}
use Rattle.pb_place_types.specs.Paths.{is_at_or_below}
use Rattle.pb_place_types.specs.World.{World, Map, Answers, ChangesOnly, from_nothing}
use Rattle.pb_place_types.specs.declared.command.Command.{Command}
use Rattle.pb_place_types.specs.declared.command.Ended.{Ended}
use Rattle.pb_place_types.specs.declared.place.StartFault.{StartFault}
use Rattle.pb_place_types.proofs.Folders.{sources_alike}
use Rattle.pb_place_types.proofs.Within.{at_below, at_or_below_on, outside_within}
use Rattle.pb_command_types.specs.Targets.{crate_name_of, dep_info_of, unit_at}
use Rattle.pb_command_types.specs.declared.project.Project.{Project}
use Rattle.pb_command_types.specs.declared.project.Setup.{Setup}
use Rattle.pb_record.specs.Commands.{command_of as asked_command}
use Rattle.pb_record.specs.declared.record.Record.{Record}
use Rattle.pb_run.specs.UnitSteps.{child_in, child_of}
use Rattle.pb_run.specs.Running.{EndsBy, GivesRecord, IsJudged}
use Rattle.pb_run.specs.Outcome.{ran_by, ran_of, unstarted}
use Rattle.pb_run.specs.Invariants.{IsInOrder, records_folder}
use Rattle.pb_message_units.specs.Telling.{unit_lines}
use Rattle.pb_run.specs.declared.begun.Awaited.{Awaited}
use Rattle.pb_run.specs.declared.begun.Awaited.TheVariants as awaited
use Rattle.pb_run.specs.declared.begun.Begun.{Begun as unit_begun}
use Rattle.pb_run.specs.declared.begun.SpawnedChild.{SpawnedChild}
use Rattle.pb_run.specs.declared.ran.Ran.{Ran}
use Rattle.pb_run.proofs.Commands.{command_same}
use Rattle.pb_run.proofs.RecordedOthers.{agrees_still}
use Rattle.pb_run.proofs.Units.{dep_info_inside}
use Rattle.pb_run.proofs.Views.{is_for}
use Rattle.pb_store_soundness.specs.Apart.{is_of}
use Rattle.pb_store_soundness.specs.Grounded.{RecordMap}
use Rattle.pb_store_soundness.specs.Inputs.{Agrees}
use Rattle.pb_store_soundness.specs.Records.{out_of, record_path, reading, records}
use Rattle.pb_store_soundness.proofs.RecordPaths.{out_in, record_below, record_same}
use Rattle.pb_store.specs.Differences.{FirstDifference, FirstOf, replayed}
use Rattle.pb_store.specs.declared.difference.Difference.{Difference}
use Rattle.pb_store.specs.declared.replaying.Replayed.{Replayed}
use Rattle.pb_build_turns.specs.Calling.{ran_again, AnswersAgain, CarriesAgain, FliesAgain, WaitsAgain}
use Rattle.pb_build_turns.specs.Executor.{needs_of, index_of_unit, indices_of, IsConsistent, BuildState}
use Rattle.pb_build_turns.specs.Rows.{is_started}
use Rattle.pb_build_turns.specs.History.{states_in, AllAnswerAgain, FliesIn, OnlyOf, Replays, History}
use Rattle.pb_build_turns.specs.declared.executor.RunningUnit.{RunningUnit}
use Rattle.pb_build_turns.specs.declared.executor.UnitExecutor.{UnitExecutor}
use Rattle.pb_build_turns.proofs.Happening.{none_of, started_other}
use Rattle.pb_build_turns.proofs.Lists.{all_at_each, all_get, all_left, all_more, apart_indices, get_map, get_set_within}
use Rattle.pb_build_turns.proofs.Reaching.{all_reach, not_of_two}
use Rattle.pb_build_turns.proofs.States.{another, answered_before, answered_cases}
use Rattle.pb_build_turns.proofs.Staying.{record_its_own}
use Rattle.pb_build_turns.proofs.Unkept.{no_answer}
use Rattle.pb_unit.specs.declared.plan.Planned.{Planned}

-- What comes of a unit rests on the files of its folder alone.

file_same : (old new : Map) (path : Option (List ℕ)) → ((q : List ℕ) → path ≡ Some q → finite.get new q ≡ finite.get old q) → file_at path new ≡ file_at path old
file_same old new None same = refl
file_same old new (Some q) same = same q refl

ran_same : (project : Project) (u : Planned) (c : Command) (e : Ended) (old new : Map) → ((q : List ℕ) → is_at_or_below u.out q ≡ true → finite.get new q ≡ finite.get old q) → ran_of project u c e new ≡ ran_of project u c e old
ran_same project u c e old new same =
    ap (λ info. ran_by project u e (answered_of project u c e info))
    (file_same old new (dep_info_of project u) (λ q is. same q (at_below u.out q (dep_info_inside project u u.unit.what (crate_name_of project u) q is))))

first_of : (x y : Bool) → x ≡ true → x || y ≡ true
first_of x y h = ap (λ z. z || y) h

-- What was the same at first.

neither : (x y : Bool) → x ≡ false → y ≡ false → x || y ≡ false
neither x y p q = ap (λ z. z || y) p ∙ q

-- only folders and records in the target folder were changed
pub sources_first : (project : Project) (order : IsInOrder project) (es : List (Event BadUnit)) (first now : World) → OnlyOf project es first now → from_nothing project.workspace.target now ≡ from_nothing project.workspace.target first
sources_first project order es first now only =
    sources_alike project.workspace.target first now (λ q outside. only.files q (λ unit_index u has at.
    let folder = records_folder project in
    let key = order.keys unit_index u at in
    neither (is_at_or_below (out_of folder u.key) q) (is_at_or_below (record_path folder u.key) q)
    (outside_within project.workspace.target (out_of folder u.key) q (at_or_below_on project.workspace.target folder (out_of folder u.key) order.target (at_below folder (out_of folder u.key) (out_in folder u.key key))) outside)
    (outside_within project.workspace.target (record_path folder u.key) q (at_or_below_on project.workspace.target folder (record_path folder u.key) order.target (at_below folder (record_path folder u.key) (record_below folder u.key key))) outside))) only.variables

-- what the runs said on which the command of a unit rests, where one that has begun and not answered answers
pub command_stays : (setup : Setup) (project : Project) (order : IsInOrder project) (es : List (Event BadUnit)) (lawful : IsLawful (needs_of project) es) (i : ℕ) (begun : slice_get (states_in project es) i ≡ Some Begun)
    (done done' : List (Option (List Directive))) (d : Option (List Directive)) → done' ≡ slice_set done i d → (unit_index : ℕ) (u : Planned) → HasBegun (states_in project es) unit_index → unit_at project unit_index ≡ Some u → command_of setup project u done ≡ command_of setup project u done'
command_stays setup project order es lawful i begun done done' d set unit_index u has at =
    command_same setup project u done done' (order.needs_reached unit_index u at) (λ p among.
    sym (ap (λ (ds : List (Option (List Directive))). slice_get ds p) set ∙ get_set_other done i p d (λ same.
    false≢true (ap is_good_at (sym begun ∙ ap (slice_get (states_in project es)) same) ∙ good_at (states_in project es) u.reaches p (all_reach project order es lawful unit_index u has at) among))))

-- What a record gives again, and what a unit in flight carries.

none_some : {A : Type 0} (x : A) → None ≡ Some x → ⊥
none_some x e = cc

no_child : (l : SpawnedChild) → Some l ≡ None → ⊥
no_child l e = cc

ended_is : (x y : Ended) → ◌≡◌ {A = Result Ended StartFault} (Ok x) (Ok y) → x ≡ y
ended_is x y e = cc

module _ (setup : Setup) (project : Project) (order : IsInOrder project) (first : World) (unit_index : ℕ) (u : Planned) (there : unit_at project unit_index ≡ Some u) where
  -- another unit changes only what is its own
  carries_on : (w w' : World) (other : ℕ) (v : Planned) → unit_at project other ≡ Some v → unit_index ≢ other → ChangesOnly (is_of (records_folder project) v.key) w w' → (done done' : List (Option (List Directive))) → command_of setup project u done ≡ command_of setup project u done'
      → (c : Command) (by : Awaited) → CarriesAgain setup project done first w u c by → CarriesAgain setup project done' first w' u c by
  carries_on w w' other v at ne only done done' same c (awaited.Child launched) carries = tt
  carries_on w w' other v at ne only done done' same c (awaited.Record again) carries = record {
    kept = carries.kept;
    here = carries.here;
    asked = carries.asked;
    asks = carries.asks ∙ same;
    inputs = carries.inputs;
    gives = carries.gives;
    stays = λ q inside. only.files q (not_of_two project order unit_index other u v there at ne q inside) ∙ carries.stays q inside;
  }

  -- it has begun, over what stands as at first, and nothing differed
  module _ (w w' : World) (stays : (q : List ℕ) → is_of (records_folder project) u.key q ≡ true → finite.get w.files q ≡ finite.get first.files q)
      (sources : from_nothing project.workspace.target w ≡ from_nothing project.workspace.target first) (done : List (Option (List Directive))) (c : Command) (asks : c ≡ command_of setup project u done) (at : RecordMap) where
    its_target : c.target ≡ project.workspace.target
    its_target = ap (λ (x : Command). x.target) asks ∙ (is_for setup project u done (order.packages unit_index u there)).target

    by_record : (found : Option Record) (again : Replayed) → records (records_folder project) w u.key ≡ found → FirstOf (records_folder project) at c w found None → GivesRecord found (awaited.Record again) → w' ≡ w → WaitsAgain setup project done first w' u c again
    by_record None again is named gives same = absurd (none_some again gives)
    by_record (Some r) again is named gives same = record {
      kept = r;
      here = sym (record_same reading (records_folder project) first.files w.files u.key (stays (record_path (records_folder project) u.key) (record_its_own (records_folder project) u.key))) ∙ is;
      asked = named.asked;
      asks = asks;
      inputs = agrees_still project.workspace.target r.inputs w first (sym sources) (subst (λ target. Agrees target r.inputs w) its_target named.inputs);
      gives = sym (injective gives);
      stays = λ q inside. ap (λ (x : World). finite.get x.files q) same ∙ stays q inside;
    }

    its_own : (by : Awaited) (difference : Option Difference) → FirstOf (records_folder project) at c w (records (records_folder project) w u.key) difference → is_some (child_in by) ≡ is_some difference
        → GivesRecord (records (records_folder project) w u.key) by → (child_in by ≡ None → w' ≡ w) → CarriesAgain setup project done first w' u c by
    its_own (awaited.Child launched) difference named flag gives same = tt
    its_own (awaited.Record again) difference named flag gives same =
        by_record (records (records_folder project) w u.key) again refl
        (subst (FirstOf (records_folder project) at c w (records (records_folder project) w u.key)) (none_of difference (sym flag)) named) gives (same refl)

  -- it answers
  module _ (w left : World) (c : Command) (ended : Ended) (well : Type 0) (still : ℕ → Type 0) (old mid : Counts) (ran : Ran) (lines : List ℕ) (told : lines ≡ unit_lines project u ran.started ran.messages)
      (done done' : List (Option (List Directive))) (noted : slice_get done' unit_index ≡ Some ran.directives) (same : command_of setup project u done ≡ command_of setup project u done') where
    answers_so : (by : Awaited) → child_in by ≡ None → CarriesAgain setup project done first w u c by → EndsBy by (Ok ended) well still w left old mid → IsJudged project u c by ended left ran → AnswersAgain setup project done' first unit_index record { fault = ran.bad; lines = lines }
    answers_so (awaited.Child launched) none carries ends judged = absurd (no_child launched none)
    answers_so (awaited.Record again) none carries ends judged =
        let folder = order.folders unit_index u there in
        let (unchanged, counted, is_ok) = ends in
        let is : ended ≡ (replayed carries.kept).ended = ended_is ended again.ended is_ok ∙ ap (λ (x : Replayed). x.ended) carries.gives in
        let all : ran ≡ ran_again project u carries.kept first.files =
        judged ∙ ap (λ (x : World). unstarted (ran_of project u c ended x.files)) unchanged
        ∙ ap unstarted (ran_same project u c ended first.files w.files (λ q inside. carries.stays q (first_of (is_at_or_below (out_of (records_folder project) u.key) q) _ (subst (λ (out : List ℕ). is_at_or_below out q ≡ true) folder inside))))
        ∙ ap (λ (d : Command). unstarted (ran_of project u d ended first.files)) (sym carries.asked)
        ∙ ap (λ (e : Ended). unstarted (ran_of project u (asked_command carries.kept.asked) e first.files)) is in
        record {
          unit = u;
          there = there;
          kept = carries.kept;
          here = carries.here;
          asks = carries.asked ∙ carries.asks ∙ same;
          inputs = carries.inputs;
          fault = ap (λ (r : Ran). r.bad) all;
          lines = told ∙ ap (λ (r : Ran). unit_lines project u r.started r.messages) all;
          noted = noted ∙ ap (λ (r : Ran). Some r.directives) all;
        }

-- Nothing has begun.

pub replays_first : (setup : Setup) (project : Project) (done : List (Option (List Directive))) (running : List RunningUnit) (w : World) → running ≡ [] → Replays setup project done running [] w w
replays_first setup project done running w none = record {
  waits = subst (AllByRecursion (λ (a : RunningUnit). FliesAgain setup project done w w a)) (sym none) tt;
  gave = λ unit_index answer state started. absurd (no_answer (needs_of project) unit_index answer state);
}

-- A unit begins.

-- those that had answered
pub gave_begun : (setup : Setup) (project : Project) (done : List (Option (List Directive))) (es : List (Event BadUnit)) (first : World) (unit : ℕ) (spawned : Bool) → slice_get (states_in project es) unit ≡ Some Untouched
    → AllAnswerAgain setup project es done first → AllAnswerAgain setup project (Began unit spawned ∷ es) done first
gave_begun setup project done es first unit spawned untouched gave unit_index answer state started =
    let (ne, before) = answered_before (states_in project es) unit unit_index answer Untouched untouched state in
    gave unit_index answer before (sym (started_other es unit unit_index spawned ne) ∙ started)

module _ (is_modelled : Bool) (child : Answers) (first old : UnitExecutor) (at now new : BuildState) (still : ℕ → Type 0) (es : List (Event BadUnit)) (given : ℕ) (story : History is_modelled child first at old now still es given) (order : IsInOrder old.project) where
  pub begun_again : (unit : ℕ) (u : Planned) → unit_at old.project unit ≡ Some u → slice_get (states_in old.project es) unit ≡ Some Untouched → (IsTrue is_modelled → ChangesOnly (is_of (records_folder old.project) u.key) now.world new.world)
      → (done : List (Option (List Directive))) → done ≡ old.done.items → (begun : unit_begun) → begun.command ≡ command_of old.setup old.project u done → (difference : Option Difference) (running' : List RunningUnit) → running' ≡ old.running.items ++ record { unit = unit; begun = begun } ∷ []
      → (IsTrue is_modelled → FirstDifference (records_folder old.project) u.key begun.command now.world difference) → is_some (child_of begun) ≡ is_some difference
      → (IsTrue is_modelled → GivesRecord (records (records_folder old.project) now.world u.key) begun.awaited) → (IsTrue is_modelled → child_of begun ≡ None → new.world ≡ now.world)
      → IsTrue is_modelled → Replays old.setup old.project old.done.items running' (Began unit (is_some (child_of begun)) ∷ es) at.world new.world
  begun_again unit u there untouched only done same_done begun asks difference running' more differs spawned gives same t =
      let changes = story.changes t in record {
        waits =
            subst (AllByRecursion (λ (a : RunningUnit). FliesAgain old.setup old.project old.done.items at.world new.world a)) (sym more)
            (all_more (λ (a : RunningUnit). FliesAgain old.setup old.project old.done.items at.world new.world a) old.running.items (record { unit = unit; begun = begun } ∷ [])
            (all_at_each (λ (a : RunningUnit). FliesAgain old.setup old.project old.done.items at.world now.world a) (λ (a : RunningUnit). FliesAgain old.setup old.project old.done.items at.world new.world a) old.running.items
            (λ k a at_k waits v at_v. carries_on old.setup old.project order at.world a.unit v at_v now.world new.world unit u there
            (λ e. another (states_in old.project es) unit a.unit untouched (Begun, (all_get (FliesIn old.project es now.world now.counts.starts.flying) old.running.items k a changes.flies at_k).state, refl) (sym e))
            (only t) old.done.items old.done.items refl a.begun.command a.begun.awaited (waits v at_v))
            ((story.again t).waits))
            (own changes.only, tt));
        gave = gave_begun old.setup old.project old.done.items es at.world unit (is_some (child_of begun)) untouched (story.again t).gave;
      }
    where
      own : OnlyOf old.project es at.world now.world → (v : Planned) → unit_at old.project unit ≡ Some v → CarriesAgain old.setup old.project old.done.items at.world new.world v begun.command begun.awaited
      own only_first v at_v =
          subst (λ (x : Planned). CarriesAgain old.setup old.project old.done.items at.world new.world x begun.command begun.awaited) (injective (sym there ∙ at_v))
          (its_own old.setup old.project order at.world unit u there now.world new.world
          (λ q inside. only_first.files q (λ unit_index x has at_x. not_of_two old.project order unit unit_index u x there at_x (another (states_in old.project es) unit unit_index untouched has) q inside))
          (sources_first old.project order es at.world now.world only_first) old.done.items begun.command (asks ∙ ap (command_of old.setup old.project u) same_done) (records (records_folder old.project) now.world) begun.awaited difference (differs t) spawned (gives t) (same t))

  -- A unit answers.

  pub answered_again : (well : Type 0) (lawful : IsLawful (needs_of old.project) es) (index : ℕ) (a : RunningUnit) (u : Planned) → IsConsistent old now.counts → slice_get old.running.items index ≡ Some a → unit_at old.project a.unit ≡ Some u
      → (IsTrue is_modelled → ChangesOnly (is_of (records_folder old.project) u.key) now.world new.world) → (ran : Ran) (lines : List ℕ) → lines ≡ unit_lines old.project u ran.started ran.messages
      → (IsTrue is_modelled → (ended : Ended) × (left : World) × (mid : Counts) × EndsBy a.begun.awaited (Ok ended) well still now.world left now.counts mid × IsJudged old.project u a.begun.command a.begun.awaited ended left ran)
      → (running' : List RunningUnit) (done' : List (Option (List Directive))) → running' ≡ remove old.running.items index → done' ≡ slice_set old.done.items a.unit ran.directives
      → IsTrue is_modelled → Replays old.setup old.project done' running' (Gave a.unit record { fault = ran.bad; lines = lines } ∷ es) at.world new.world
  answered_again well lawful index a u consistent at_index there only ran lines told judged running' done' is set t =
      let changes = story.changes t in
      let so : FliesIn old.project es now.world now.counts.starts.flying a = all_get (FliesIn old.project es now.world now.counts.starts.flying) old.running.items index a changes.flies at_index in record {
        waits =
            subst (AllByRecursion (λ (x : RunningUnit). FliesAgain old.setup old.project done' at.world new.world x)) (sym is)
            (all_left (λ (x : RunningUnit). FliesAgain old.setup old.project old.done.items at.world now.world x) (λ (x : RunningUnit). FliesAgain old.setup old.project done' at.world new.world x) old.running.items index
            (λ j y at_j ne waits v at_v. carries_on old.setup old.project order at.world y.unit v at_v now.world new.world a.unit u there
            (apart_indices (indices_of old.running.items) j index y.unit a.unit consistent.units_apart (get_map index_of_unit old.running.items j y at_j) (get_map index_of_unit old.running.items index a at_index) ne)
            (only t) old.done.items done' (stays so y.unit v (Begun, (all_get (FliesIn old.project es now.world now.counts.starts.flying) old.running.items j y changes.flies at_j).state, refl) at_v) y.begun.command y.begun.awaited (waits v at_v))
            ((story.again t).waits));
        gave = λ unit_index answer state started. elim (answered_cases (states_in old.project es) a.unit unit_index answer record { fault = ran.bad; lines = lines } Begun so.state state) [
          | inl (same, its) ↦
              subst (λ (x : Answer BadUnit). AnswersAgain old.setup old.project done' at.world unit_index x) its
              (subst (λ n. AnswersAgain old.setup old.project done' at.world n record { fault = ran.bad; lines = lines }) same
              (own so (ap (is_started es) same ∙ started)))
          | inr (ne, before) ↦
              let g = (story.again t).gave unit_index answer before started in
              record {
                unit = g.unit;
                there = g.there;
                kept = g.kept;
                here = g.here;
                asks = g.asks ∙ stays so unit_index g.unit (Answered answer, before, refl) g.there;
                inputs = g.inputs;
                fault = g.fault;
                lines = g.lines;
                noted = ap (λ (ds : List (Option (List Directive))). slice_get ds unit_index) set ∙ get_set_other old.done.items a.unit unit_index ran.directives ne ∙ g.noted;
              }
        ];
      }
    where
      stays : FliesIn old.project es now.world now.counts.starts.flying a → (unit_index : ℕ) (v : Planned) → HasBegun (states_in old.project es) unit_index → unit_at old.project unit_index ≡ Some v → command_of old.setup old.project v old.done.items ≡ command_of old.setup old.project v done'
      stays so unit_index v has at_v = command_stays old.setup old.project order es lawful a.unit so.state old.done.items done' ran.directives set unit_index v has at_v

      within : a.unit < length old.done.items
      within = subst (λ n. a.unit < n) (sym consistent.long) (slice_get_within old.project.plan.planned a.unit u there)

      own : FliesIn old.project es now.world now.counts.starts.flying a → is_started es a.unit ≡ false → AnswersAgain old.setup old.project done' at.world a.unit record { fault = ran.bad; lines = lines }
      own so childless =
          let (ended, left, mid, ends, is_judged) = judged t in
          answers_so old.setup old.project order at.world a.unit u there now.world left a.begun.command ended well still now.counts mid ran lines told old.done.items done'
          (ap (λ (ds : List (Option (List Directive))). slice_get ds a.unit) set ∙ get_set_within old.done.items a.unit ran.directives within) (stays so a.unit u (Begun, so.state, refl) there)
          a.begun.awaited (none_of (child_of a.begun) (sym so.started ∙ childless)) (all_get (λ (x : RunningUnit). FliesAgain old.setup old.project old.done.items at.world now.world x) old.running.items index a ((story.again t).waits) at_index u there) ends is_judged
