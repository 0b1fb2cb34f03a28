-- Why units have begun, whatever the records hold: where a unit begins, answers or is dropped, and over a build context.
use Rattle.std.proofs.Common.{◌≡◌, ◌≢◌, ◌∙◌, ◌<◌, ◌⊎◌, inl, inr, Bool, true, false, List, ◌∷◌, ℕ, Option, Some, None, Contains, IsTrue, is_some, length, refl, sym, ap, subst, slice_get, slice_set}
use Rattle.std.proofs.lemmas.Bool.{false≢true}
use Rattle.std.specs.FinMap as finite
use Rattle.pb_build_result.specs.declared.bad_unit.BadUnit.{BadUnit}
use Rattle.pb_build_result.specs.declared.fault.BuildFault.{BuildFault}
use Rattle.pb_command.specs.Command.{command_of}
use Rattle.pb_directive.specs.declared.directive.Directive.{Directive}
use Rattle.pb_run_flight.specs.declared.flight.Answer.{Answer}
use Rattle.pb_run_flight.specs.declared.flight.State.TheVariants.{Untouched, Begun, Answered}
use Rattle.pb_run_flight.specs.Events.{Event, Began, Gave, IsLawful, MayBegin, begin, started_by}
use Rattle.pb_run_flight.specs.Laws.{HasBegun}
use Rattle.pb_run_flight.specs.Table.{are_good, is_good_at}
use Rattle.pb_run_flight.proofs.Handing.{began_lawful}
use Rattle.pb_run_flight.proofs.Lists.{get_set_other, get_set_same}
use Rattle.pb_run_flight.proofs.Ready.{good_at}
use Rattle.pb_place_types.specs.Counts.{Starts}
use Rattle.pb_place_types.specs.Paths.{is_at_or_below}
use Rattle.pb_place_types.specs.World.{World, Answers, ChangesOnly, from_nothing}
use Rattle.pb_place_types.specs.declared.command.Command.{Command}
use Rattle.pb_command_types.specs.Targets.{unit_at}
use Rattle.pb_command_types.specs.declared.project.Project.{Project}
use Rattle.pb_run.specs.Steps.{is_of_start}
use Rattle.pb_run.specs.UnitSteps.{BuildContext, BuildInvariant, child_of, command_in}
use Rattle.pb_run.specs.Invariants.{IsInOrder, records_folder}
use Rattle.pb_run.specs.declared.begun.Begun.{Begun as unit_begun}
use Rattle.pb_run.proofs.Answering.{reached_stand}
use Rattle.pb_run.proofs.Shown.{commanded}
use Rattle.pb_store_soundness.specs.Apart.{is_of}
use Rattle.pb_store_soundness.specs.Records.{record_path, records}
use Rattle.pb_store.specs.Differences.{FirstDifference}
use Rattle.pb_store.specs.Folder.{lacks_number}
use Rattle.pb_store.specs.declared.difference.Difference.{Difference}
use Rattle.pb_build_turns.specs.Executor.{needs_of, BuildState}
use Rattle.pb_build_turns.specs.Rows.{Reasons}
use Rattle.pb_build_turns.specs.History.{states_in, AllBegan, AllBeganFor, AllBeganOnAny, BeganFor, FliesIn, HadDiffered, IsQuiet, KeepsChildless, KeepsNoneInFlight, OnlyOf, StartedFor, StartedOnAny, History}
use Rattle.pb_build_turns.specs.declared.executor.RunningUnit.{RunningUnit}
use Rattle.pb_build_turns.specs.declared.executor.UnitExecutor.{UnitExecutor}
use Rattle.pb_build_turns.proofs.Again.{command_stays, sources_first}
use Rattle.pb_build_turns.proofs.Happening.{before_now, before_other, none_of, started_now, started_other}
use Rattle.pb_build_turns.proofs.Lists.{all_get, get_put}
use Rattle.pb_build_turns.proofs.Reaching.{all_reach, not_of_two, record_outside_other}
use Rattle.pb_build_turns.proofs.States.{another, begun_cases, begun_now, good_set}
use Rattle.pb_build_turns.proofs.Staying.{OrBefore, answered_beside, answered_on, began_beside, begun_apart, inside_folder, start_told}
use Rattle.pb_unit.specs.declared.plan.Planned.{Planned}

some_none : {A : Type 0} (x : A) → Some x ≡ None → ⊥
some_none x e = cc

module _ (project : Project) (sources : World) where
  -- A unit begins.

  module _ (command : ℕ → Planned → Command) (order : IsInOrder project) (es : List (Event BadUnit)) (lawful : IsLawful (needs_of project) es) (reasons : Reasons) (first w w' : World) (only_first : OnlyOf project es first w) (stay : from_nothing project.workspace.target w ≡ sources)
      (quiet : IsQuiet project es first w) (gone : KeepsNoneInFlight project es None w) (waiting : KeepsChildless project es None first w) (began_before : AllBegan project sources command es reasons first w) (unit : ℕ) (u : Planned) (there : unit_at project unit ≡ Some u) (may : MayBegin (needs_of project) (states_in project es) unit) (only : ChangesOnly (is_of (records_folder project) u.key) w w') where
    ne_begun : (index : ℕ) → HasBegun (states_in project es) index → unit ≢ index
    ne_begun index has = another (states_in project es) unit index may.untouched has

    good_now : are_good (slice_set (states_in project es) unit Begun) u.reaches ≡ true
    good_now = all_reach project order (Began unit false ∷ es) (begin es unit false lawful may) unit u (begun_now (states_in project es) unit Untouched Begun may.untouched refl) there

    ne_good : (p : ℕ) → Contains u.reaches p → p ≢ unit
    ne_good p among same =
        false≢true (ap is_good_at (sym (get_set_same (states_in project es) unit Untouched Begun may.untouched)) ∙ ap (λ n. is_good_at (slice_get (slice_set (states_in project es) unit Begun) n)) (sym same)
        ∙ good_at (slice_set (states_in project es) unit Begun) u.reaches p good_now among)

    unanswered : (p : ℕ) (a : Answer BadUnit) → slice_get (slice_set (states_in project es) unit Begun) p ≡ Some (Answered a) → unit ≢ p
    unanswered p a still same =
        begun_apart a (sym (get_set_same (states_in project es) unit Untouched Begun may.untouched) ∙ ap (slice_get (slice_set (states_in project es) unit Begun)) same ∙ still)

    module _ (spawned : Bool) (difference : Option Difference) (named : FirstDifference (records_folder project) u.key (command unit u) w difference) (flag : spawned ≡ is_some difference) (within : unit < length reasons) (same : difference ≡ None → w' ≡ w) where
      -- also where it could not
      pub own_began : BeganFor project sources command (Began unit spawned ∷ es) (slice_set reasons unit (Some difference)) first w' unit
      own_began = record {
        unit = u;
        there = there;
        world = w;
        sources_stay = stay;
        record_stays = only_first.files (record_path (records_folder project) u.key) (λ index v has at. record_outside_other project order index unit v u at there (λ e. ne_begun index has (sym e)));
        only = subst (λ (x : List (Event BadUnit)). OnlyOf project x first w) (sym (before_now es unit spawned)) only_first;
        reaches = good_now;
        reached_stay = λ p v q among at inside. sym (only.files q (not_of_two project order p unit v u at there (ne_good p among) q inside));
        answered_stay = λ p v a q then' still at inside. sym (only.files q (not_of_two project order p unit v u at there (λ same. unanswered p a still (sym same)) q inside));
        unrecorded = subst (λ (x : List (Event BadUnit)). KeepsNoneInFlight project x None w) (sym (before_now es unit spawned)) gone;
        waiting_stay = subst (λ (x : List (Event BadUnit)). KeepsChildless project x None first w) (sym (before_now es unit spawned)) waiting;
        difference = difference;
        named = named;
        started = started_now es unit spawned ∙ flag;
        noted = get_put reasons unit (Some difference) within;
        folder_stays = λ none q inside.
            ap (λ (v : World). finite.get v.files q) (same none) ∙ only_first.files q (λ index v has at. not_of_two project order unit index u v there at (ne_begun index has) q (inside_folder project sources command order unit u there q inside));
        kept_stays = λ none numbered q inside. ap (λ (v : World). finite.get v.files q) (same none) ∙ only_first.files q (λ index v has at. not_of_two project order unit index u v there at (ne_begun index has) q inside);
        unstarted = λ none. quiet (sym (ap (λ (x : List (Event BadUnit)). started_by x) (before_now es unit spawned)) ∙ none);
      }

      old_began : AllBegan project sources command es reasons first w' → (index : ℕ) → HasBegun (states_in project es) index → BeganFor project sources command (Began unit spawned ∷ es) (slice_set reasons unit (Some difference)) first w' index
      old_began began index has = let f = began index has in record {
        unit = f.unit;
        there = f.there;
        world = f.world;
        sources_stay = f.sources_stay;
        record_stays = f.record_stays;
        only = subst (λ (x : List (Event BadUnit)). OnlyOf project x first f.world) (sym (before_other es unit index spawned (ne_begun index has))) f.only;
        reaches = good_set (states_in project es) unit Untouched Begun f.unit.reaches may.untouched refl f.reaches;
        reached_stay = f.reached_stay;
        answered_stay = λ p v a q then' still at inside.
            f.answered_stay p v a q (subst (λ (x : List (Event BadUnit)). slice_get (states_in project x) p ≡ Some (Answered a)) (before_other es unit index spawned (ne_begun index has)) then')
            (sym (get_set_other (states_in project es) unit p Begun (unanswered p a still)) ∙ still) at inside;
        unrecorded = subst (λ (x : List (Event BadUnit)). KeepsNoneInFlight project x None f.world) (sym (before_other es unit index spawned (ne_begun index has))) f.unrecorded;
        waiting_stay = subst (λ (x : List (Event BadUnit)). KeepsChildless project x None first f.world) (sym (before_other es unit index spawned (ne_begun index has))) f.waiting_stay;
        difference = f.difference;
        named = f.named;
        started = started_other es unit index spawned (ne_begun index has) ∙ f.started;
        noted = get_set_other reasons unit index (Some difference) (ne_begun index has) ∙ f.noted;
        folder_stays = f.folder_stays;
        kept_stays = f.kept_stays;
        unstarted = λ none. f.unstarted (sym (ap (λ (x : List (Event BadUnit)). started_by x) (before_other es unit index spawned (ne_begun index has))) ∙ none);
      }

      pub began_more : AllBegan project sources command (Began unit spawned ∷ es) (slice_set reasons unit (Some difference)) first w'
      began_more index has = elim (begun_cases (states_in project es) unit index Begun has) [
        | inl is ↦ subst (BeganFor project sources command (Began unit spawned ∷ es) (slice_set reasons unit (Some difference)) first w') is own_began
        | inr before ↦ old_began (began_beside project sources command order es reasons first w w' unit u there may.untouched only began_before) index before
      ]

  -- A unit answers.

  pub began_after : (command : ℕ → Planned → Command) (es : List (Event BadUnit)) → IsLawful (needs_of project) es → (reasons : Reasons) (first now : World) (unit : ℕ) (answer : Answer BadUnit) → slice_get (states_in project es) unit ≡ Some Begun
      → AllBegan project sources command es reasons first now → AllBegan project sources command (Gave unit answer ∷ es) reasons first now
  began_after command es lawful reasons first now unit answer state began index has = elim (begun_cases (states_in project es) unit index (Answered answer) has) [
    | inl same ↦ went (began index (Begun, subst (λ n. slice_get (states_in project es) n ≡ Some Begun) same state, refl))
    | inr before ↦ went (began index before)
  ]
    where
      went : BeganFor project sources command es reasons first now index → BeganFor project sources command (Gave unit answer ∷ es) reasons first now index
      went f = record {
        unit = f.unit;
        there = f.there;
        world = f.world;
        sources_stay = f.sources_stay;
        record_stays = f.record_stays;
        only = f.only;
        reaches = good_set (states_in project es) unit Begun (Answered answer) f.unit.reaches state refl f.reaches;
        reached_stay = f.reached_stay;
        answered_stay = λ p v a q then' still at inside. f.answered_stay p v a q then' (answered_on project es lawful index p a then') at inside;
        unrecorded = f.unrecorded;
        waiting_stay = f.waiting_stay;
        difference = f.difference;
        named = f.named;
        started = f.started;
        noted = f.noted;
        folder_stays = f.folder_stays;
        kept_stays = f.kept_stays;
        unstarted = f.unstarted;
      }

  -- By the same sources and the same commands.

  module _ (sources' : World) (is : sources ≡ sources') (command command' : ℕ → Planned → Command) where
    pub began_so : (es : List (Event BadUnit)) (reasons : Reasons) (first now : World) (index : ℕ) → ((u : Planned) → unit_at project index ≡ Some u → are_good (states_in project es) u.reaches ≡ true → command index u ≡ command' index u)
        → BeganFor project sources command es reasons first now index → BeganFor project sources' command' es reasons first now index
    began_so es reasons first now index same f = record {
      unit = f.unit;
      there = f.there;
      world = f.world;
      sources_stay = f.sources_stay ∙ is;
      record_stays = f.record_stays;
      only = f.only;
      reaches = f.reaches;
      reached_stay = f.reached_stay;
      answered_stay = f.answered_stay;
      unrecorded = f.unrecorded;
      waiting_stay = f.waiting_stay;
      difference = f.difference;
      named = subst (λ (c : Command). FirstDifference (records_folder project) f.unit.key c f.world f.difference) (same f.unit f.there f.reaches) f.named;
      started = f.started;
      noted = f.noted;
      folder_stays = f.folder_stays;
      kept_stays = f.kept_stays;
      unstarted = f.unstarted;
    }

-- Over a build context, where what the runs gave from nothing is noted.

-- what was good before a beginning is good
good_later : (project : Project) (before es : List (Event BadUnit)) → IsLawful (needs_of project) es → OrBefore before es → (indices : List ℕ) → are_good (states_in project before) indices ≡ true → are_good (states_in project es) indices ≡ true
good_later project before es lawful (inl same) indices good = subst (λ (x : List (Event BadUnit)). are_good (states_in project x) indices ≡ true) (sym same) good
good_later project before es lawful (inr (unit, spawned, is)) indices good =
    let (earlier, may) = began_lawful (needs_of project) _ before unit spawned (subst (IsLawful (needs_of project)) is lawful) in
    subst (λ (x : List (Event BadUnit)). are_good (states_in project x) indices ≡ true) (sym is) (good_set (states_in project before) unit Untouched Begun indices may.untouched refl good)

module _ (b : BuildContext) (order : IsInOrder b.project) (es : List (Event BadUnit)) (done : List (Option (List Directive))) (next : Option ℕ) (w : World) (keeps : BuildInvariant b (states_in b.project es) done next w) (first : World) (sources : from_nothing b.project.workspace.target first ≡ b.sources) where
  commanded_so : (index : ℕ) (u : Planned) → unit_at b.project index ≡ Some u → are_good (states_in b.project es) u.reaches ≡ true → command_of b.setup b.project u done ≡ command_in b index u
  commanded_so index u at good = commanded b done w index u order at (reached_stand b order index u at (states_in b.project es) done next w keeps good)

  abbrev commands : ℕ → Planned → Command
  commands index u = command_of b.setup b.project u done

  pub began_from_nothing : (before : List (Event BadUnit)) (reasons : Reasons) (now : World) → IsLawful (needs_of b.project) es → OrBefore before es
      → AllBegan b.project (from_nothing b.project.workspace.target first) commands before reasons first now → AllBeganFor b before reasons first now
  began_from_nothing before reasons now lawful came began index has =
      began_so b.project (from_nothing b.project.workspace.target first) b.sources sources commands (command_in b) before reasons first now index (λ u at good. commanded_so index u at (good_later b.project before es lawful came u.reaches good)) (began index has)

  pub started_from_nothing : (fault : BuildFault) (before : List (Event BadUnit)) (now : World) → HadDiffered b.project (from_nothing b.project.workspace.target first) commands fault before es first now → StartedFor b fault before es first now
  started_from_nothing fault before now had index spawned is so =
      let (reasons, f) = had index spawned is so in (
        reasons,
        began_so b.project (from_nothing b.project.workspace.target first) b.sources sources commands (command_in b) (Began index true ∷ before) reasons first now index
            (λ u at good. commanded_so index u at (subst (λ (x : List (Event BadUnit)). are_good (states_in b.project x) u.reaches ≡ true) (sym is) good)) f,
      )

-- It differed of a unit that could not begin, where its child was tried or the fault is one of a start.
pub differed_tried : (old new : Starts) (D : Type 0) (spawned : Bool) (fault : BuildFault) → (spawned ≡ true → (is_of_start fault ≡ true) ⊎ (new ≢ old)) → (is_of_start fault ≡ true → D) → (new ≡ old) ⊎ D → (is_of_start fault ≡ true) ⊎ (spawned ≡ true) → D
differed_tried old new D spawned fault so cause tried (inl start) = cause start
differed_tried old new D spawned fault so cause tried (inr was) = elim (so was) [
  | inl start ↦ cause start
  | inr other ↦ elim tried [
    | inl same ↦ absurd (other same)
    | inr differs ↦ differs
  ]
]

-- The story of a crew.

module _ (is_modelled : Bool) (child : Answers) (first old : UnitExecutor) (at now new : BuildState) (still : ℕ → Type 0) (es : List (Event BadUnit)) (given : ℕ) (story : History is_modelled child first at old now still es given) (order : IsInOrder old.project) (lawful : IsLawful (needs_of old.project) es) where
  abbrev commands_of : List (Option (List Directive)) → ℕ → Planned → Command
  commands_of done index u = command_of old.setup old.project u done

  stay_first : IsTrue is_modelled → from_nothing old.project.workspace.target now.world ≡ from_nothing old.project.workspace.target at.world
  stay_first t = sources_first old.project order es at.world now.world (story.changes t).only

  -- A unit begins.

  module _ (unit : ℕ) (u : Planned) (there : unit_at old.project unit ≡ Some u) (may : MayBegin (needs_of old.project) (states_in old.project es) unit) (only : IsTrue is_modelled → ChangesOnly (is_of (records_folder old.project) u.key) now.world new.world)
      (done : List (Option (List Directive))) (same_done : done ≡ old.done.items) where
    by_done : (c : Command) (difference : Option Difference) → c ≡ command_of old.setup old.project u done → FirstDifference (records_folder old.project) u.key c now.world difference
        → FirstDifference (records_folder old.project) u.key (commands_of old.done.items unit u) now.world difference
    by_done c difference asks named = subst (λ (d : Command). FirstDifference (records_folder old.project) u.key d now.world difference) (asks ∙ ap (command_of old.setup old.project u) same_done) named

    -- it has
    pub begun_began : (begun : unit_begun) → begun.command ≡ command_of old.setup old.project u done → (difference : Option Difference) (reasons' : Reasons)
        → (IsTrue is_modelled → FirstDifference (records_folder old.project) u.key begun.command now.world difference) → is_some (child_of begun) ≡ is_some difference → unit < length old.reasons.items
        → (IsTrue is_modelled → child_of begun ≡ None → new.world ≡ now.world) → reasons' ≡ slice_set old.reasons.items unit (Some difference)
        → IsTrue is_modelled → AllBeganOnAny old.setup old.project old.done.items (Began unit (is_some (child_of begun)) ∷ es) reasons' at.world new.world
    begun_began begun asks difference reasons' differs spawned within same noted t =
        subst (λ (items : Reasons). AllBegan old.project (from_nothing old.project.workspace.target at.world) (commands_of old.done.items) (Began unit (is_some (child_of begun)) ∷ es) items at.world new.world) (sym noted)
        (began_more old.project (from_nothing old.project.workspace.target at.world) (commands_of old.done.items) order es lawful old.reasons.items at.world now.world new.world (story.changes t).only (stay_first t) (story.quiet t) (story.unrecorded t) (story.childless t) (story.began t) unit u there may (only t)
        (is_some (child_of begun)) difference (by_done begun.command difference asks (differs t)) spawned within
        (λ none. same t (none_of (child_of begun) (spawned ∙ ap (λ (o : Option Difference). is_some o) none))))

    -- it could not
    pub unbegun_began : IsTrue is_modelled → AllBeganOnAny old.setup old.project old.done.items es old.reasons.items at.world new.world
    unbegun_began t =
        began_beside old.project (from_nothing old.project.workspace.target at.world) (commands_of old.done.items) order es old.reasons.items at.world now.world new.world unit u there may.untouched (only t) (story.began t)

    pub unbegun_started : (spawned : Bool) (fault : BuildFault) → unit < length old.reasons.items
        → (IsTrue is_modelled → (is_of_start fault ≡ true) ⊎ (spawned ≡ true) → (difference : Difference) × FirstDifference (records_folder old.project) u.key (command_of old.setup old.project u done) now.world (Some difference))
        → IsTrue is_modelled → StartedOnAny old.setup old.project old.done.items fault es (Began unit spawned ∷ es) at.world new.world
    unbegun_started spawned fault within cause t =
        start_told old.project (from_nothing old.project.workspace.target at.world) (commands_of old.done.items) fault es at.world new.world unit spawned (λ so.
        let (difference, named) = cause t so in (
          slice_set old.reasons.items unit (Some (Some difference)),
          own_began old.project (from_nothing old.project.workspace.target at.world) (commands_of old.done.items) order es lawful old.reasons.items at.world now.world new.world (story.changes t).only (stay_first t) (story.quiet t) (story.unrecorded t) (story.childless t) (story.began t) unit u there may (only t)
              true (Some difference) (by_done (command_of old.setup old.project u done) (Some difference) refl named) refl within (λ none. absurd (some_none difference none)),
        ))

  -- A unit answers.

  module _ (index : ℕ) (a : RunningUnit) (u : Planned) (there : unit_at old.project a.unit ≡ Some u) (at_index : slice_get old.running.items index ≡ Some a) (only : IsTrue is_modelled → ChangesOnly (is_of (records_folder old.project) u.key) now.world new.world)
      (same : IsTrue is_modelled → child_of a.begun ≡ None → lacks_number (records (records_folder old.project) now.world u.key) ≡ false → new.world ≡ now.world)
      (folder : IsTrue is_modelled → child_of a.begun ≡ None → (q : List ℕ) → is_at_or_below u.out q ≡ true → finite.get new.world.files q ≡ finite.get now.world.files q) where
    so : IsTrue is_modelled → FliesIn old.project es now.world now.counts.starts.flying a
    so t = all_get (FliesIn old.project es now.world now.counts.starts.flying) old.running.items index a (story.changes t).flies at_index

    -- a fault came in its place
    pub unanswered_began : IsTrue is_modelled → AllBeganOnAny old.setup old.project old.done.items es old.reasons.items at.world new.world
    unanswered_began t =
        answered_beside old.project (from_nothing old.project.workspace.target at.world) (commands_of old.done.items) order es old.reasons.items at.world now.world new.world a.unit u there (so t).state (child_of a.begun) (so t).started (only t) (same t) (folder t)
        (story.began t)

    -- what is noted of it changes no command of those that have begun
    pub answered_began : (done' : List (Option (List Directive))) (d : Option (List Directive)) (answer : Answer BadUnit) → done' ≡ slice_set old.done.items a.unit d
        → IsTrue is_modelled → AllBeganOnAny old.setup old.project done' (Gave a.unit answer ∷ es) old.reasons.items at.world new.world
    answered_began done' d answer set t =
        began_after old.project (from_nothing old.project.workspace.target at.world) (commands_of done') es lawful old.reasons.items at.world new.world a.unit answer (so t).state
        (λ index has. began_so old.project (from_nothing old.project.workspace.target at.world) (from_nothing old.project.workspace.target at.world) refl (commands_of old.done.items) (commands_of done') es old.reasons.items at.world new.world index
        (λ v at_v good. command_stays old.setup old.project order es lawful a.unit (so t).state old.done.items done' d set index v has at_v)
        (unanswered_began t index has))
