-- How the units of a project end, from the story of their crew.
use Rattle.std.proofs.Common.{◌≡◌, ◌∙◌, ◌+◌, ◌<◌, Bool, true, List, [], ◌∷◌, ℕ, zero, suc, Option, Some, None, Contains, IsTrue, refl, sym, ap, subst, inl, inr, arith, slice_get, map, take, length, is_none}
use Rattle.std.proofs.lemmas.List.{length-map}
use Rattle.std.proofs.lemmas.Bool.{false≢true}
use Rattle.std.proofs.lemmas.Option.{slice_get_within}
use Rattle.std.specs.Io.KnownBytes.{Appends}
use Rattle.std.specs.List.{AllByRecursion}
use Rattle.pb_build_result.specs.declared.fault.BuildFault.{BuildFault}
use Rattle.pb_build_result.specs.declared.fault.BuildFault.TheVariants.{OutOfMemory}
use Rattle.pb_build_result.specs.declared.summary.Summary.{Summary}
use Rattle.pb_command.specs.Command.{command_of}
use Rattle.pb_directive.specs.declared.directive.Directive.{Directive}
use Rattle.pb_run_flight.specs.declared.flight.Answer.{Answer}
use Rattle.pb_run_flight.specs.declared.flight.State.{State}
use Rattle.pb_run_flight.specs.declared.flight.State.TheVariants.{Untouched, Begun, Answered}
use Rattle.pb_run_flight.specs.declared.turn.Step.{Step}
use Rattle.pb_run_flight.specs.Driving.{IsFlown}
use Rattle.pb_run_flight.specs.Events.{Event, Began, Gave, Anything, IsLawful, started_by, states_after}
use Rattle.pb_run_flight.specs.Steps.{Flies, nothing, Anyhow, HandsBack}
use Rattle.pb_run_flight.specs.Laws.{HasBegun, IsInPlanOrder}
use Rattle.pb_run_flight.specs.Table.{Table, is_untouched, is_good_at, due, count_due, is_finished, first_bad}
use Rattle.pb_run_flight.proofs.Lists.{injective, clash, length_set}
use Rattle.pb_run_flight.proofs.Stepping.{steps_are_lawful}
use Rattle.pb_place_types.specs.World.{World, Answers, from_nothing}
use Rattle.pb_place_types.specs.declared.child_in_flight.ChildInFlight.{ChildInFlight}
use Rattle.pb_place_types.specs.declared.command.Command.{Command}
use Rattle.pb_command_types.specs.Targets.{unit_at}
use Rattle.pb_build_result.specs.declared.bad_unit.BadUnit.{BadUnit}
use Rattle.pb_command_types.specs.declared.project.Project.{Project}
use Rattle.pb_command_types.specs.declared.project.Setup.{Setup}
use Rattle.pb_run.specs.UnitSteps.{Premise, BuildContext, build_context, BuildInvariant, outcomes_in}
use Rattle.pb_run.specs.Invariants.{IsInOrder}
use Rattle.pb_message_units.specs.Telling.{unit_lines}
use Rattle.pb_run.proofs.Shown.{each_of}
use Rattle.pb_build_turns.specs.Calling.{CallsCut, CallsCutOnAny, CallsOver, CallsOnAny, call_basis}
use Rattle.pb_build_turns.specs.Executor.{needs_of, launched_of, ticket_of_child, BuildState}
use Rattle.pb_build_turns.specs.Ends.{rows_in, nothing_said, OutcomeHolds, StandsWhole, StandsCut, EndsWhole, EndsCut, Grounding, Dropped, Drained, SaysFirstRows, StaysTold}
use Rattle.pb_place_types.specs.Sinks.{SinkState}
use Rattle.pb_build_turns.specs.Rows.{summary_of, started_keys, is_started, messages_in, bad_of, directives_told, Reasons, key_told, said_told, bad_told, differences_of, kept_of, is_success, noted_of, count_told, noted_told, summary_by, keys_at, differences_at}
use Rattle.pb_build_turns.specs.History.{states_in, untouched, AllAnswerAgain, Stops, Changes, HistoryHolds, AllBegan, AllBeganFor, AllBeganOnAny, CameAfter, ChangesInFlight, LacksNumber, NamesUnit, NumbersGiven, Spends, StartedOnAny, KeepsNoneOfBad, KeepsNoneInFlight, KeepsChildless, HasGiven, History, StoryEnds, OnlyOf, NotesStarted, AllAnswerAnew, AllLeaveRecords}
use Rattle.pb_build_turns.specs.declared.executor.RunningUnit.{RunningUnit}
use Rattle.pb_build_turns.specs.declared.executor.UnitExecutor.{UnitExecutor}
use Rattle.pb_build_turns.proofs.Again.{replays_first}
use Rattle.pb_build_turns.proofs.Anew.{replies_first}
use Rattle.pb_build_turns.proofs.Changing.{beside_none, changes_first}
use Rattle.pb_build_turns.proofs.Counting.{appends_none, stops_refused}
use Rattle.pb_build_turns.proofs.Differing.{began_from_nothing, started_from_nothing}
use Rattle.pb_build_turns.proofs.Leaving.{recordings_first}
use Rattle.pb_build_turns.proofs.States.{due_all}
use Rattle.pb_build_turns.proofs.Staying.{none_began, or_before, started_after}
use Rattle.pb_build_turns.proofs.Unbegun.{none_noted}
use Rattle.pb_build_turns.proofs.Unkept.{none_bad, none_in_flight}
use Rattle.pb_build_turns.proofs.Telling.{AllTold, Ended, all_good_at, due_told, first_told, ended_of, success_of}
use Rattle.pb_unit.specs.declared.plan.Planned.{Planned}

-- Needs come earlier in plan order.

need_before : (us : List Planned) (i u v : ℕ) (wanted : List ℕ) → ((k : ℕ) (x : Planned) → slice_get us k ≡ Some x → AllByRecursion (λ index. index < i + k) x.needs) → slice_get (map (λ (x : Planned). x.needs) us) u ≡ Some wanted → Contains wanted v → v < i + u
need_before [] i u v wanted each at has = absurd (clash at)
need_before (x ∷ us) i zero v wanted each at has = each_of (λ index. index < i + 0) wanted v (subst (AllByRecursion (λ index. index < i + 0)) (injective at) (each 0 x refl)) has
need_before (x ∷ us) i (suc u) v wanted each at has =
    let less : v < suc i + u = need_before us (suc i) u v wanted (λ k y at_y. subst (λ n. AllByRecursion (λ index. index < n) y.needs) (shift k) (each (suc k) y at_y)) at has in
    omega (arith, less)
  where
    shift : (k : ℕ) → i + suc k ≡ suc i + k
    shift k = omega arith

pub in_plan_order : (project : Project) → IsInOrder project → IsInPlanOrder (needs_of project)
in_plan_order project order u v wanted at has =
    let less : v < 0 + u = need_before project.plan.planned 0 u v wanted (λ k x at_x. subst (λ n. AllByRecursion (λ index. index < n) x.needs) (none k) (order.needs k x at_x)) at has in
    omega (arith, less)
  where
    none : (k : ℕ) → k ≡ 0 + k
    none k = omega arith

-- Nothing has begun.

untouched_at : (needs : List (List ℕ)) (index : ℕ) (s : State BadUnit) → slice_get (map (λ _. Untouched) needs) index ≡ Some s → s ≡ Untouched
untouched_at [] index s at = absurd (clash at)
untouched_at (n ∷ needs) zero s at = sym (injective at)
untouched_at (n ∷ needs) (suc index) s at = untouched_at needs index s at

no_answer : (answer : Answer BadUnit) → Answered answer ≡ Untouched → ⊥
no_answer answer e = cc

none_begun : (project : Project) (index : ℕ) → HasBegun (untouched project) index → ⊥
none_begun project index (s, at, begun) = false≢true (sym begun ∙ ap is_untouched (untouched_at (needs_of project) index s at))

pub story_first : (is_modelled : Bool) (child : Answers) (c : UnitExecutor) (at : BuildState) (still : ℕ → Type 0) → c.running.items ≡ [] → c.started.items ≡ [] → History is_modelled child c at c at still [] 0
story_first is_modelled child c at still running started = record {
  setup = refl;
  project = refl;
  goes = record {
    started_are = started;
    launched_are = ap launched_of running;
    lines = appends_none at.heard.taken;
    faults = refl;
    failures = refl;
    starts = refl;
    settings = refl;
    most = omega arith;
  };
  numbers = refl;
  taken = λ t. refl;
  changes = λ t. changes_first c.project at.world c.running.items at.counts.starts.flying running;
  happened = λ t f s keeps. record {
    keeps = keeps;
    begun = subst (AllByRecursion _) (sym running) tt;
    gave = λ index answer is. absurd (no_answer answer (untouched_at (needs_of c.project) index (Answered answer) is));
  };
  unrecorded = λ t. none_in_flight c.project at.world;
  childless = λ t index u q there state apart started inside. refl;
  again = λ t. replays_first c.setup c.project c.done.items c.running.items at.world running;
  anew = λ t. replies_first child c.setup c.project c.done.items c.running.items at.world at.counts.starts.flying still running;
  left = λ t. recordings_first child c.setup c.project c.done.items c.running.items c.store.next at.world running;
  began = λ t index has. absurd (none_begun c.project index has);
  quiet = λ t none numbered. refl;
  calls = λ t f s keeps. (refl, refl);
  calls_on_any = λ t. (refl, refl);
  unnoted = λ index at. refl;
  noted = λ index s at ne. absurd (ne (untouched_at (needs_of c.project) index s at));
}

-- What stands.

all_given : (b : BuildContext) (done : List (Option (List Directive))) (es : List (Event BadUnit)) → ((index : ℕ) (answer : Answer BadUnit) → slice_get (states_in b.project es) index ≡ Some (Answered answer) → HasGiven b es done index answer)
    → AllTold b.project es 0 b.project.plan.planned (outcomes_in b) done (states_in b.project es)
all_given b done es gave k answer at =
    let g = gave k answer at in
    record {
      unit = g.unit;
      there = g.there;
      outcome = g.outcome;
      is = g.is;
      fault = g.fault;
      lines = λ index same. let e : k ≡ index = omega (arith, same) in g.lines ∙ ap (λ n. unit_lines b.project g.unit (is_started es n) (messages_in g.outcome)) e;
      noted = g.noted;
    }

module _ (b : BuildContext) (done : List (Option (List Directive))) (running : List RunningUnit) (next : Option ℕ) (es : List (Event BadUnit)) (w : World) (flying : List ChildInFlight) (still : ℕ → Type 0) (h : HistoryHolds b done running next es w flying still) where
  all_told : AllTold b.project es 0 b.project.plan.planned (outcomes_in b) done (states_in b.project es)
  all_told = all_given b done es h.gave

  pub stands : OutcomeHolds b es w
  stands = record {
    done = done;
    next = next;
    keeps = h.keeps;
    gave = h.gave;
    lines = due_told b.project es 0 b.project.plan.planned (outcomes_in b) done (states_in b.project es) all_told;
    first_lines = λ n. first_told b.project es n 0 b.project.plan.planned (outcomes_in b) done (states_in b.project es) all_told;
  }

  module _ (finished : is_finished (states_in b.project es) ≡ true) (long : length (states_in b.project es) ≡ length b.project.plan.planned) (reasons : Reasons) (first : World) (began : AllBeganFor b es reasons first w) where
    ended : Ended b.project es b.project.plan.planned (outcomes_in b) done (states_in b.project es)
    ended = ended_of b.project es 0 b.project.plan.planned (outcomes_in b) done (states_in b.project es) long finished all_told

    bad_is : bad_told b.project.plan.planned (states_in b.project es) (first_bad (states_in b.project es)) ≡ bad_of (rows_in b)
    bad_is = ended.bad

    noted_is : noted_of (take (count_told (length b.project.plan.planned) (first_bad (states_in b.project es))) b.project.plan.planned) (take (count_told (length b.project.plan.planned) (first_bad (states_in b.project es))) done) ≡ directives_told (rows_in b)
    noted_is = ap (λ n. noted_of (take n b.project.plan.planned) (take n done)) ended.count ∙ ended.noted

    summary_so : summary_by b.project.plan.planned (states_in b.project es) done (started_by es) reasons (first_bad (states_in b.project es)) ≡ summary_of b.project es reasons (rows_in b)
    summary_so =
        ap (λ bad. with_bad bad (noted_of (take (count_told (length b.project.plan.planned) (first_bad (states_in b.project es))) b.project.plan.planned) (take (count_told (length b.project.plan.planned) (first_bad (states_in b.project es))) done))) bad_is
        ∙ ap (λ told. with_bad (bad_of (rows_in b)) told) noted_is
        ∙ ap (λ well. summary_with well (bad_of (rows_in b)) (directives_told (rows_in b))) (success_of (bad_of (rows_in b)))
      where
        summary_with : Bool → Option (List ℕ × BadUnit) → List (List ℕ × List Directive) → Summary
        summary_with well bad told = record {
          success = well;
          bad = key_told bad;
          said = said_told bad;
          started = started_keys b.project es;
          differences = differences_of es reasons;
          kept = kept_of b.project.plan.planned reasons;
          directives = told;
        }

        with_bad : Option (List ℕ × BadUnit) → List (List ℕ × List Directive) → Summary
        with_bad bad told = summary_with (is_none bad) bad told

    pub stands_whole : (started : List ℕ) → started ≡ started_by es → (summary : Summary) → summary ≡ summary_by b.project.plan.planned (states_in b.project es) done started reasons (first_bad (states_in b.project es)) → StandsWhole b es reasons summary next first w
    unfolding stands
    stands_whole started same summary is = record {
      stands = stands;
      next_is = refl;
      all = ended.all;
      answer = is ∙ ap (λ indices. summary_by b.project.plan.planned (states_in b.project es) done indices reasons (first_bad (states_in b.project es))) same ∙ summary_so;
      began = began;
    }

length_states : (needs : List (List ℕ)) (es : List (Event BadUnit)) → length (states_after needs es) ≡ length needs
length_states needs [] = length-map needs (λ _. Untouched)
length_states needs (Began u spawned ∷ es) = length_set (states_after needs es) u Begun ∙ length_states needs es
length_states needs (Gave u answer ∷ es) = length_set (states_after needs es) u (Answered answer) ∙ length_states needs es

-- whoever decides
pub says_first_rows : SaysFirstRows
says_first_rows b es done gave = (
  due_told b.project es 0 b.project.plan.planned (outcomes_in b) done (states_in b.project es) (all_given b done es gave),
  λ finished. (ended_of b.project es 0 b.project.plan.planned (outcomes_in b) done (states_in b.project es) (length_states (needs_of b.project) es ∙ length-map b.project.plan.planned (λ (u : Planned). u.needs)) finished (all_given b done es gave)).all,
)

-- The ends.

module _ {S : Type 0} (is_modelled : Bool) (child : Answers) (Turns : S → List ℕ → List ℕ → Step → S → Type 0) (first c d : UnitExecutor) (from last : S) (at mid new : BuildState) (still still' : ℕ → Type 0) (es : List (Event BadUnit))
    (said : first.done.items ≡ nothing_said first.project) (drained : Drained mid.counts new.counts) (landed : new.counts.starts.flying ≡ []) (heard : new.heard ≡ mid.heard) (same : d ≡ record c { running = d.running })
    (told : (fw : World) (events : List (Event BadUnit)) → IsTrue is_modelled → Changes c.project fw c.running.items events mid.world mid.counts.starts.flying
    → StaysTold child c.project fw events c.running.items d.running.items mid.world new.world new.counts.starts.flying)
    (happened : (b : BuildContext) (events : List (Event BadUnit)) → IsTrue is_modelled → b.project ≡ c.project → HistoryHolds b c.done.items c.running.items c.store.next events mid.world mid.counts.starts.flying still
    → HistoryHolds b d.done.items d.running.items d.store.next events new.world new.counts.starts.flying still')
    (order : IsInOrder first.project) where
  -- what a build context keeps at first
  abbrev Since : (BuildContext → Type 0) → Setup → Project → Type 0
  Since Stand setup project = IsTrue is_modelled → (f : Premise) (sources : World) → BuildInvariant (build_context f child setup project sources) (untouched project) first.done.items first.store.next at.world → Stand (build_context f child setup project sources)

  since_first : (Stand : BuildContext → Type 0) → c.setup ≡ first.setup → c.project ≡ first.project → Since Stand c.setup c.project → IsTrue is_modelled → Grounding child first.setup first.project first.store.next at.world Stand
  since_first Stand setup project since t f sources keeps =
      subst (λ (s : Setup). Since Stand s first.project) setup (subst (λ (p : Project). Since Stand c.setup p) project since) t f sources
      (subst (λ ds. BuildInvariant (build_context f child first.setup first.project sources) (untouched first.project) ds first.store.next at.world) (sym said) keeps)

  lawful : c.project ≡ first.project → Flies Turns (needs_of first.project) Anyhow Anything from es last → IsLawful (needs_of c.project) es
  lawful project flies = subst (λ (p : Project). IsLawful (needs_of p) es) (sym project) (steps_are_lawful Turns (needs_of first.project) Anyhow Anything from es last flies)

  -- why the units had begun, whatever the records hold
  abbrev commands : ℕ → Planned → Command
  commands index u = command_of c.setup c.project u c.done.items

  began_new : (fault : BuildFault) (before : List (Event BadUnit)) (reasons : Reasons) → reasons ≡ c.reasons.items → IsLawful (needs_of c.project) es → CameAfter c.project fault before es → (IsTrue is_modelled → Changes c.project at.world c.running.items es mid.world mid.counts.starts.flying)
      → (IsTrue is_modelled → AllBeganOnAny c.setup c.project c.done.items before c.reasons.items at.world mid.world) → IsTrue is_modelled → AllBeganOnAny c.setup c.project c.done.items before reasons at.world new.world
  began_new fault before reasons is flies came changed began t =
      subst (λ (items : Reasons). AllBegan c.project (from_nothing c.project.workspace.target at.world) commands before items at.world new.world) (sym is)
      ((told at.world es t (changed t)).began (from_nothing c.project.workspace.target at.world) commands fault before c.reasons.items flies came (began t))

  started_new : (fault : BuildFault) (before : List (Event BadUnit)) → (IsTrue is_modelled → Changes c.project at.world c.running.items es mid.world mid.counts.starts.flying)
      → (IsTrue is_modelled → StartedOnAny c.setup c.project c.done.items fault before es at.world mid.world) → IsTrue is_modelled → StartedOnAny c.setup c.project c.done.items fault before es at.world new.world
  started_new fault before changed had t = (told at.world es t (changed t)).started (from_nothing c.project.workspace.target at.world) commands fault before (had t)

  on_first : (B : Setup → Project → Type 0) → c.setup ≡ first.setup → c.project ≡ first.project → B c.setup c.project → B first.setup first.project
  on_first B setup project x = subst (λ (s : Setup). B s first.project) setup (subst (λ (p : Project). B c.setup p) project x)

  ordered : c.project ≡ first.project → IsInOrder c.project
  ordered project = subst IsInOrder (sym project) order

  pub ends_cut : new.most ≡ mid.most → (fault : BuildFault) (asked : Option ℕ) (back : S) → Flies Turns (needs_of first.project) Anyhow Anything from es last → HandsBack Turns (needs_of first.project) es last asked back → StoryEnds is_modelled child fault asked first at c mid still es
      → EndsCut is_modelled child Turns first.setup first.project first.store.next from back fault at new
  ends_cut most fault asked back flies hands ends = record {
    es = es;
    last = last;
    flies = flies;
    asked = asked;
    hands = hands;
    mid = mid;
    heard = heard;
    stops = subst (λ (p : Project). Stops is_modelled fault p at mid es) ends.project ends.stops;
    spent = ends.spent;
    caused = λ t. subst (λ (p : Project). Spends (LacksNumber p at.world) fault first.store.next es) ends.project (ends.caused t);
    drained = drained;
    landed = landed;
    before = ends.before;
    came = subst (λ (p : Project). CameAfter p fault ends.before es) ends.project ends.came;
    names = subst (λ (p : Project). NamesUnit p fault asked ends.before es) ends.project ends.names;
    most = most ∙ ends.most;
    only = λ t. subst (λ (p : Project). OnlyOf p es at.world new.world) ends.project (told at.world es t (ends.changes t)).changes.only;
    dropping = λ t. subst (λ (p : Project). ChangesInFlight p ends.before asked mid.world new.world) ends.project ((told at.world es t (ends.changes t)).alone ends.before asked (ends.beside t));
    unkept = λ t. subst (λ (p : Project). KeepsNoneOfBad p es new.world) ends.project (told at.world es t (ends.changes t)).changes.unkept;
    dropped = λ t. subst (λ (p : Project). KeepsNoneInFlight p ends.before asked new.world) ends.project (λ index u there state apart started. (told at.world es t (ends.changes t)).unrecorded index u there (ends.unrecorded t index u there state apart started));
    childless = λ t. subst (λ (p : Project). KeepsChildless p ends.before asked at.world new.world) ends.project
        (λ index u q there state apart started inside.
        (told at.world es t (ends.changes t)).childless index u q there (started_after c.project ends.before es (lawful ends.project flies) (or_before c.project fault ends.before es ends.came) index state started) inside ∙ ends.childless t index u q there state apart started inside);
    reasons = c.reasons.items;
    done = c.done.items;
    began = λ t. on_first (λ s p. AllBeganOnAny s p c.done.items ends.before c.reasons.items at.world new.world) ends.setup ends.project (began_new fault ends.before c.reasons.items refl (lawful ends.project flies) ends.came ends.changes ends.began t);
    started = λ t. on_first (λ s p. StartedOnAny s p c.done.items fault ends.before es at.world new.world) ends.setup ends.project (started_new fault ends.before ends.changes ends.started t);
    again = λ t. on_first (λ s p. AllAnswerAgain s p es c.done.items at.world) ends.setup ends.project (ends.again t);
    anew = λ t. on_first (λ s p. AllAnswerAnew child s p es c.done.items new.world) ends.setup ends.project ((told at.world es t (ends.changes t)).anew c.setup c.done.items (lawful ends.project flies) (ends.anew t));
    left = λ t. on_first (λ s p. AllLeaveRecords child s p es c.done.items first.store.next at.world new.world) ends.setup ends.project ((told at.world es t (ends.changes t)).left c.setup c.done.items first.store.next (lawful ends.project flies) (ends.left t));
    told = since_first (λ b. StandsCut b fault es ends.before at.world new.world) ends.setup ends.project (λ t f sources keeps.
        let h = ends.happened t f sources keeps in
        record {
          stands = stands (build_context f child c.setup c.project sources) d.done.items d.running.items d.store.next es new.world new.counts.starts.flying still' (happened (build_context f child c.setup c.project sources) es t refl h);
          reasons = c.reasons.items;
          began = began_from_nothing (build_context f child c.setup c.project sources) (ordered ends.project) es c.done.items c.store.next mid.world h.keeps at.world keeps.sources_stay ends.before c.reasons.items new.world (lawful ends.project flies) (or_before c.project fault ends.before es ends.came)
              (began_new fault ends.before c.reasons.items refl (lawful ends.project flies) ends.came ends.changes ends.began t);
          started = started_from_nothing (build_context f child c.setup c.project sources) (ordered ends.project) es c.done.items c.store.next mid.world h.keeps at.world keeps.sources_stay fault ends.before new.world (started_new fault ends.before ends.changes ends.started t);
        });
    calls = since_first (λ b. CallsCut (call_basis b) fault asked es ends.before at.world at.counts mid.world mid.counts) ends.setup ends.project ends.calls;
    calls_on_any = λ t. on_first (λ s p. CallsCutOnAny child s p c.done.items fault asked es ends.before at.world at.counts mid.world mid.counts) ends.setup ends.project (ends.calls_on_any t);
  }

  -- memory is refused for the summary
  pub untold : (given : ℕ) → History is_modelled child first at c mid still es given → StoryEnds is_modelled child OutOfMemory None first at c mid still es
  untold given s = record {
    setup = s.setup;
    project = s.project;
    stops = stops_refused c.project at mid mid c.started.items c.running.items es given s.goes refl refl is_modelled refl;
    spent = tt;
    before = es;
    came = inl refl;
    names = tt;
    most = s.goes.most;
    changes = s.changes;
    beside = λ t. beside_none c.project at.world c.running.items es mid.world mid.counts.starts.flying (s.changes t) c.running.items refl;
    unrecorded = s.unrecorded;
    childless = s.childless;
    again = λ t. (s.again t).gave;
    anew = λ t. (s.anew t).gave;
    left = λ t. (s.left t).gave;
    began = s.began;
    started = λ t. none_began c.project _ _ OutOfMemory es at.world mid.world;
    happened = s.happened;
    caused = λ t. tt;
    calls = λ t f sources keeps. (mid.world, mid.counts, s.calls t f sources keeps, inl (inr refl, refl, refl));
    calls_on_any = λ t. (mid.world, mid.counts, s.calls_on_any t, inl (inr refl, refl, refl));
  }

  module _ (table : Table BadUnit) (flying : List ℕ) (flown : IsFlown Turns (needs_of first.project) from es last table flying) (story : History is_modelled child first at c mid still es table.given) (finished : is_finished table.states ≡ true)
      (most : new.most ≡ mid.most) (summary : Summary) (is : summary ≡ summary_by d.project.plan.planned table.states d.done.items d.started.items d.reasons.items (first_bad table.states)) where
    states_are : table.states ≡ states_in c.project es
    states_are = flown.states_are ∙ ap (λ (p : Project). states_in p es) (sym story.project)

    project_is : d.project ≡ c.project
    project_is = ap (λ (x : UnitExecutor). x.project) same

    started_is : d.started.items ≡ started_by es
    started_is = ap (λ (x : UnitExecutor). x.started.items) same ∙ story.goes.started_are

    now_is : summary ≡ summary_by c.project.plan.planned (states_in c.project es) d.done.items d.started.items d.reasons.items (first_bad (states_in c.project es))
    now_is = is ∙ ap (λ (p : Project). summary_by p.plan.planned table.states d.done.items d.started.items d.reasons.items (first_bad table.states)) project_is
        ∙ ap (λ ss. summary_by c.project.plan.planned ss d.done.items d.started.items d.reasons.items (first_bad ss)) states_are

    keys_are : summary.started ≡ started_keys first.project es
    keys_are = ap (λ (s : Summary). s.started) now_is ∙ ap (λ indices. keys_at c.project.plan.planned indices) started_is ∙ ap (λ (p : Project). started_keys p es) story.project

    lines_are : Appends at.heard.taken new.heard.taken (due (states_in first.project es))
    lines_are =
        subst (λ (x : SinkState). Appends at.heard.taken x.taken (due (states_in first.project es))) (sym heard)
        (subst (Appends at.heard.taken mid.heard.taken) (due_all table.given (states_in c.project es) (flown.given_are ∙ ap count_due states_are) ∙ ap (λ (p : Project). due (states_in p es)) story.project) story.goes.lines)

    began_whole : IsTrue is_modelled → AllBeganOnAny c.setup c.project c.done.items es d.reasons.items at.world new.world
    began_whole = began_new OutOfMemory es d.reasons.items (ap (λ (x : UnitExecutor). x.reasons.items) same) (lawful story.project flown.flies) (inl refl) story.changes story.began

    pub ends_whole : first.reasons.items ≡ map (λ (u : Planned). None) first.project.plan.planned → EndsWhole is_modelled child Turns first.setup first.project first.store.next from last summary at new
    ends_whole empty = record {
      es = es;
      flies = flown.flies;
      finished = ap is_finished (sym flown.states_are) ∙ finished;
      success = ap (λ (s : Summary). s.success) now_is ∙ success_of (bad_told c.project.plan.planned (states_in c.project es) (first_bad (states_in c.project es)))
          ∙ ap (λ (p : Project). is_success (bad_told p.plan.planned (states_in p es) (first_bad (states_in p es)))) story.project;
      good = λ success. subst (λ (p : Project). (index : ℕ) (u : Planned) → unit_at p index ≡ Some u → is_good_at (slice_get (states_in p es) index) ≡ true) story.project
          (all_good_at c.project es c.project.plan.planned (states_in c.project es) (length_states (needs_of c.project) es ∙ length-map c.project.plan.planned (λ (u : Planned). u.needs))
          (ap is_finished (sym states_are) ∙ finished) (sym (ap (λ (s : Summary). s.success) now_is) ∙ success));
      bad = ap (λ (s : Summary). s.bad) now_is ∙ ap (λ (p : Project). key_told (bad_told p.plan.planned (states_in p es) (first_bad (states_in p es)))) story.project;
      said = ap (λ (s : Summary). s.said) now_is ∙ ap (λ (p : Project). said_told (bad_told p.plan.planned (states_in p es) (first_bad (states_in p es)))) story.project;
      started = keys_are;
      reasons = d.reasons.items;
      differences = ap (λ (s : Summary). s.differences) now_is ∙ ap (differences_at d.reasons.items) started_is;
      kept = ap (λ (s : Summary). s.kept) now_is ∙ ap (λ (p : Project). kept_of p.plan.planned d.reasons.items) story.project;
      done = c.done.items;
      directives = ap (λ (s : Summary). s.directives) now_is
          ∙ ap (λ ds. noted_told c.project.plan.planned ds (first_bad (states_in c.project es))) (ap (λ (x : UnitExecutor). x.done.items) same)
          ∙ ap (λ (p : Project). noted_told p.plan.planned c.done.items (first_bad (states_in p es))) story.project;
      unnoted = λ index at_place.
          let less : index < length first.project.plan.planned = subst (λ (n : ℕ). index < n) (length_states (needs_of first.project) es ∙ length-map first.project.plan.planned (λ (u : Planned). u.needs)) (slice_get_within (states_in first.project es) index Untouched at_place) in
          ap (λ (items : Reasons). slice_get items index) (ap (λ (x : UnitExecutor). x.reasons.items) same)
          ∙ (story.unnoted index (ap (λ (p : Project). slice_get (states_in p es) index) story.project ∙ at_place) ∙ (ap (λ (items : Reasons). slice_get items index) empty ∙ none_noted first.project.plan.planned index less));
      noted = subst (λ (p : Project). NotesStarted p es d.reasons.items) story.project (subst (NotesStarted c.project es) (sym (ap (λ (x : UnitExecutor). x.reasons.items) same)) story.noted);
      lines = lines_are;
      faults = ap (λ (x : SinkState). x.faults) heard ∙ story.goes.faults;
      mid = mid.counts;
      failures = story.goes.failures;
      starts = story.goes.starts;
      settings = story.goes.settings;
      drained = drained;
      landed = landed;
      most = most ∙ story.goes.most;
      only = λ t. subst (λ (p : Project). OnlyOf p es at.world new.world) story.project (told at.world es t (story.changes t)).changes.only;
      last_world = mid.world;
      dropping = λ t. subst (λ (p : Project). ChangesInFlight p es None mid.world new.world) story.project
          ((told at.world es t (story.changes t)).alone es None (beside_none c.project at.world c.running.items es mid.world mid.counts.starts.flying (story.changes t) c.running.items refl));
      numbers = (c.store.next, story.numbers);
      taken = λ t. subst (λ (p : Project). NumbersGiven (LacksNumber p at.world) es first.store.next c.store.next) story.project (story.taken t);
      unkept = λ t. subst (λ (p : Project). KeepsNoneOfBad p es new.world) story.project (told at.world es t (story.changes t)).changes.unkept;
      dropped = λ t. subst (λ (p : Project). KeepsNoneInFlight p es None new.world) story.project (λ index u there state apart started. (told at.world es t (story.changes t)).unrecorded index u there (story.unrecorded t index u there state apart started));
      childless = λ t. subst (λ (p : Project). KeepsChildless p es None at.world new.world) story.project
          (λ index u q there state apart started inside. (told at.world es t (story.changes t)).childless index u q there started inside ∙ story.childless t index u q there state apart started inside);
      began = λ t. on_first (λ s p. AllBeganOnAny s p c.done.items es d.reasons.items at.world new.world) story.setup story.project (began_whole t);
      again = λ t. on_first (λ s p. AllAnswerAgain s p es c.done.items at.world) story.setup story.project (story.again t).gave;
      anew = λ t. on_first (λ s p. AllAnswerAnew child s p es c.done.items new.world) story.setup story.project ((told at.world es t (story.changes t)).anew c.setup c.done.items (lawful story.project flown.flies) (story.anew t).gave);
      left = λ t. on_first (λ s p. AllLeaveRecords child s p es c.done.items first.store.next at.world new.world) story.setup story.project ((told at.world es t (story.changes t)).left c.setup c.done.items first.store.next (lawful story.project flown.flies) (story.left t).gave);
      told = since_first (λ b. StandsWhole b es d.reasons.items summary c.store.next at.world new.world) story.setup story.project (λ t f sources keeps.
          let h = story.happened t f sources keeps in
          subst (λ (n : Option ℕ). StandsWhole (build_context f child c.setup c.project sources) es d.reasons.items summary n at.world new.world) (ap (λ (x : UnitExecutor). x.store.next) same)
          (stands_whole (build_context f child c.setup c.project sources) d.done.items d.running.items d.store.next es new.world new.counts.starts.flying still' (happened (build_context f child c.setup c.project sources) es t refl h)
          (ap is_finished (sym states_are) ∙ finished) (length_states (needs_of c.project) es ∙ length-map c.project.plan.planned (λ (u : Planned). u.needs)) d.reasons.items at.world
          (began_from_nothing (build_context f child c.setup c.project sources) (ordered story.project) es c.done.items c.store.next mid.world h.keeps at.world keeps.sources_stay es d.reasons.items new.world (lawful story.project flown.flies) (inl refl) (began_whole t)) d.started.items started_is summary now_is));
      calls = since_first (λ b. CallsOver (call_basis b) es at.world at.counts mid.world mid.counts) story.setup story.project story.calls;
      calls_on_any = λ t. on_first (λ s p. CallsOnAny child s p c.done.items es at.world at.counts mid.world mid.counts) story.setup story.project (story.calls_on_any t);
    }

-- memory is refused before a unit begins
pub ends_before : {S : Type 0} (is_modelled : Bool) (child : Answers) (Turns : S → List ℕ → List ℕ → Step → S → Type 0) (setup : Setup) (project : Project) (next : Option ℕ) (from : S) (at : BuildState) → at.counts.starts.flying ≡ []
    → EndsCut is_modelled child Turns setup project next from from OutOfMemory at at
ends_before is_modelled child Turns setup project next from at none = record {
  es = [];
  last = from;
  flies = nothing;
  asked = None;
  hands = refl;
  mid = at;
  heard = refl;
  stops = record { by = ((0, appends_none at.heard.taken), refl); cause = refl; starts = refl; settings = refl };
  spent = tt;
  caused = λ t. tt;
  drained = subst (λ fs. Dropped (map ticket_of_child fs) at.counts at.counts) (sym none) refl;
  landed = none;
  before = [];
  came = inl refl;
  names = tt;
  most = omega arith;
  only = λ t. record { variables = refl; files = λ q outside. refl };
  dropping = λ t. record { variables = refl; files = λ q apart. refl };
  unkept = λ t. none_bad project at.world;
  dropped = λ t. none_in_flight project at.world;
  childless = λ t index u q there state apart started inside. refl;
  reasons = [];
  done = [];
  began = λ t index has. absurd (none_begun project index has);
  started = λ t. none_began project _ _ OutOfMemory [] at.world at.world;
  again = λ t. (replays_first setup project [] [] at.world refl).gave;
  anew = λ t. (replies_first child setup project [] [] at.world [] (λ n. Unit {0}) refl).gave;
  left = λ t. (recordings_first child setup project [] [] next at.world refl).gave;
  told = λ t f sources keeps. record {
    stands = stands (build_context f child setup project sources) (nothing_said project) [] next [] at.world [] (λ n. Unit {0}) record {
      keeps = keeps;
      begun = tt;
      gave = λ index answer is. absurd (no_answer answer (untouched_at (needs_of project) index (Answered answer) is));
    };
    reasons = [];
    began = λ index has. absurd (none_begun project index has);
    started = none_began project _ _ OutOfMemory [] at.world at.world;
  };
  calls = λ t f sources keeps. (at.world, at.counts, (refl, refl), inl (inr refl, refl, refl));
  calls_on_any = λ t. (at.world, at.counts, (refl, refl), inl (inr refl, refl, refl));
}

pub states_long : {S : Type 0} (Turns : S → List ℕ → List ℕ → Step → S → Type 0) (first c d : UnitExecutor) (from last : S) (es : List (Event BadUnit)) (table : Table BadUnit) (flying : List ℕ) → IsFlown Turns (needs_of first.project) from es last table flying
    → needs_of c.project ≡ needs_of first.project → d ≡ record c { running = d.running } → length table.states ≡ length d.project.plan.planned
states_long Turns first c d from last es table flying flown needs same =
    ap length flown.states_are ∙ length_states (needs_of first.project) es ∙ ap length (sym needs) ∙ length-map c.project.plan.planned (λ (u : Planned). u.needs) ∙ ap (λ (x : UnitExecutor). length x.project.plan.planned) (sym same)
