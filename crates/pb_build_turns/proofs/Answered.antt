-- What has happened, where a unit in flight answers, or a fault comes in its place.
use Rattle.std.proofs.Common.{◌≡◌, ◌≢◌, ◌∙◌, ◌<◌, inl, inr, true, List, ◌∷◌, ℕ, Option, Some, refl, sym, ap, subst, slice_get, slice_set, is_some, length}
use Rattle.std.proofs.lemmas.Bool.{false≢true}
use Rattle.std.proofs.lemmas.Option.{slice_get_within}
use Rattle.std.specs.List.{remove}
use Rattle.pb_directive.specs.declared.directive.Directive.{Directive}
use Rattle.pb_run_flight.specs.declared.flight.Answer.{Answer}
use Rattle.pb_run_flight.specs.declared.flight.State.{State}
use Rattle.pb_run_flight.specs.declared.flight.State.TheVariants.{Untouched, Begun, Answered}
use Rattle.pb_run_flight.specs.Events.{Event, Gave}
use Rattle.pb_run_flight.specs.Table.{is_good_at}
use Rattle.pb_run_flight.proofs.Lists.{injective, get_set_other}
use Rattle.pb_place_types.specs.World.{World}
use Rattle.pb_place_types.specs.declared.child_in_flight.ChildInFlight.{ChildInFlight}
use Rattle.pb_command_types.specs.Targets.{unit_at}
use Rattle.pb_build_result.specs.declared.bad_unit.BadUnit.{BadUnit}
use Rattle.pb_run.specs.UnitSteps.{Premise, TrustedRecords, NoRecords, BuildContext, HoldsBy, BuildInvariant, StandsGood, IsBegun, CanAnswer, BeginsApart, outcomes_in, child_of}
use Rattle.pb_run.specs.Outcome.{Outcome, directives_in}
use Rattle.pb_message_units.specs.Telling.{unit_lines}
use Rattle.pb_run.specs.declared.begun.Begun.{Begun as unit_begun}
use Rattle.pb_build_turns.specs.Executor.{indices_of, index_of_unit, ticket_in, number_in, tickets_of, numbers_of, AreApart}
use Rattle.pb_build_turns.specs.Rows.{is_started, fault_in, messages_in}
use Rattle.pb_build_turns.specs.History.{states_in, HistoryHolds, HasGiven, FliesSo}
use Rattle.pb_build_turns.specs.declared.executor.RunningUnit.{RunningUnit}
use Rattle.pb_build_turns.proofs.Lists.{all_left, all_get, apart_indices, flat_apart, get_map, get_set_within}
use Rattle.pb_build_turns.proofs.States.{good_set, answered_cases}
use Rattle.pb_unit.specs.declared.plan.Planned.{Planned}

not_begun : (s : State BadUnit) → s ≡ Begun → s ≡ Untouched → ⊥
not_begun Untouched e f = cc
not_begun Begun e f = cc
not_begun (Answered a) e f = cc

-- What is kept, where the answer of a unit is not told.

module _ (b : BuildContext) (ss : List (State BadUnit)) (done : List (Option (List Directive))) (next next' : Option ℕ) (w w' : World) (i : ℕ) (answer : Answer BadUnit) (d : Option (List Directive))
    (old : BuildInvariant b ss done next w) (new : BuildInvariant b (slice_set ss i (Answered answer)) (slice_set done i d) next' w') (at : slice_get ss i ≡ Some Begun) where
  good_other : (index : ℕ) → is_good_at (slice_get ss index) ≡ true → i ≢ index
  good_other index good same = false≢true (ap is_good_at (sym at ∙ ap (slice_get ss) same) ∙ good)

  good_now : (index : ℕ) → is_good_at (slice_get ss index) ≡ true → is_good_at (slice_get (slice_set ss i (Answered answer)) index) ≡ true
  good_now index good = ap is_good_at (get_set_other ss i index (Answered answer) (good_other index good)) ∙ good

  untouched_other : (index : ℕ) → slice_get ss index ≡ Some Untouched → i ≢ index
  untouched_other index is same = not_begun Begun refl (injective (sym at ∙ ap (slice_get ss) same ∙ is))

  stands_back : (index : ℕ) → i ≢ index → StandsGood b (slice_set done i d) w' index → StandsGood b done w' index
  stands_back index ne s = record {
    unit = s.unit;
    there = s.there;
    files = s.files;
    directives = s.directives;
    messages = s.messages;
    good = s.good;
    noted = sym (get_set_other done i index d ne) ∙ s.noted;
    holds = s.holds;
  }

  records_back : (premise : Premise) → HoldsBy premise b (slice_set ss i (Answered answer)) next' w' → HoldsBy premise b ss next' w'
  records_back TrustedRecords holds = record { honest = holds.honest; sound = holds.sound; ahead = holds.ahead; recorded = λ index good. holds.recorded index (good_now index good) }
  records_back NoRecords holds = λ index u there is. holds index u there (get_set_other ss i index (Answered answer) (untouched_other index is) ∙ is)

  pub keeps_back : BuildInvariant b ss done next' w'
  keeps_back = record {
    long = old.long;
    sources_stay = new.sources_stay;
    good = λ index good. stands_back index (good_other index good) (new.good index (good_now index good));
    closed = old.closed;
    records = records_back b.premise new.records;
  }

module _ (b : BuildContext) (done : List (Option (List Directive))) (running : List RunningUnit) (next next' : Option ℕ) (es : List (Event BadUnit)) (w w' : World)
    (flying flying' : List ChildInFlight) (still still' : ℕ → Type 0) (h : HistoryHolds b done running next es w flying still)
    (index : ℕ) (a : RunningUnit) (at : slice_get running index ≡ Some a) (u : Planned) (there : unit_at b.project a.unit ≡ Some u) where
  so : FliesSo b es next w flying still a
  so = all_get (FliesSo b es next w flying still) running index a h.begun at

  pub can_answer : CanAnswer b (states_in b.project es) done a.unit u a.begun next w flying still
  can_answer = record { keeps = h.keeps; state = so.state; reaches = so.reaches u there; begun_so = so.begun_so }

  pub its_state : slice_get (states_in b.project es) a.unit ≡ Some Begun
  its_state = so.state

  pub its_start : is_started es a.unit ≡ is_some (child_of a.begun)
  its_start = so.started

  module _ (indices : AreApart (indices_of running)) (tickets : AreApart (tickets_of running)) (numbers : AreApart (numbers_of running))
      (others : (other : ℕ) (its : unit_begun) → BeginsApart b (states_in b.project es) a.unit (child_of a.begun) other its next w flying still → IsBegun b other its next' w' flying' still') where
    ne_unit : (j : ℕ) (y : RunningUnit) → slice_get running j ≡ Some y → j ≢ index → y.unit ≢ a.unit
    ne_unit j y at_j ne = apart_indices (indices_of running) j index y.unit a.unit indices (get_map index_of_unit running j y at_j) (get_map index_of_unit running index a at) ne

    apart_from : (j : ℕ) (y : RunningUnit) → slice_get running j ≡ Some y → j ≢ index → FliesSo b es next w flying still y → BeginsApart b (states_in b.project es) a.unit (child_of a.begun) y.unit y.begun next w flying still
    apart_from j y at_j ne f = record {
      another = ne_unit j y at_j ne;
      unit = f.begun_so.unit;
      there = f.begun_so.there;
      reaches = f.reaches f.begun_so.unit f.begun_so.there;
      tickets = λ ours theirs e g. flat_apart (λ (x : RunningUnit). ticket_in (child_of x.begun)) running j index y a theirs.ticket ours.ticket tickets at_j at (ap ticket_in g) (ap ticket_in e) ne;
      numbers = λ ours theirs e g. flat_apart (λ (x : RunningUnit). number_in (child_of x.begun)) running j index y a theirs.number ours.number numbers at_j at (ap number_in g) (ap number_in e) ne;
      begun_so = f.begun_so;
    }

    -- No answer is noted.

    flies_still : (j : ℕ) (y : RunningUnit) → slice_get running j ≡ Some y → j ≢ index → FliesSo b es next w flying still y → FliesSo b es next' w' flying' still' y
    flies_still j y at_j ne f = record { state = f.state; begun_so = others y.unit y.begun (apart_from j y at_j ne f); reaches = f.reaches; started = f.started }

    pub happened_less : BuildInvariant b (states_in b.project es) done next' w' → HistoryHolds b done (remove running index) next' es w' flying' still'
    happened_less keeps = record {
      keeps = keeps;
      begun = all_left (FliesSo b es next w flying still) (FliesSo b es next' w' flying' still') running index flies_still h.begun;
      gave = h.gave;
    }

    -- The answer is noted.

    module _ (answer : Answer BadUnit) (d : Option (List Directive)) (keeps : BuildInvariant b (slice_set (states_in b.project es) a.unit (Answered answer)) (slice_set done a.unit d) next' w')
        (outcome : Outcome) (is : slice_get (outcomes_in b) a.unit ≡ Some outcome) (fault : answer.fault ≡ fault_in outcome) (noted : d ≡ directives_in outcome)
        (lines : answer.lines ≡ unit_lines b.project u (is_some (child_of a.begun)) (messages_in outcome)) where
      flies_after : (j : ℕ) (y : RunningUnit) → slice_get running j ≡ Some y → j ≢ index → FliesSo b es next w flying still y → FliesSo b (Gave a.unit answer ∷ es) next' w' flying' still' y
      flies_after j y at_j ne f = record {
        state = get_set_other (states_in b.project es) a.unit y.unit (Answered answer) (λ e. ne_unit j y at_j ne (sym e)) ∙ f.state;
        begun_so = others y.unit y.begun (apart_from j y at_j ne f);
        reaches = λ v at_v. good_set (states_in b.project es) a.unit Begun (Answered answer) v.reaches so.state refl (f.reaches v at_v);
        started = f.started;
      }

      within : a.unit < length done
      within = subst (λ n. a.unit < n) (sym h.keeps.long) (slice_get_within (states_in b.project es) a.unit Begun so.state)

      own_given : HasGiven b (Gave a.unit answer ∷ es) (slice_set done a.unit d) a.unit answer
      own_given = record {
        unit = u;
        there = there;
        outcome = outcome;
        is = is;
        fault = fault;
        lines = lines ∙ ap (λ s. unit_lines b.project u s (messages_in outcome)) (sym so.started);
        noted = get_set_within done a.unit d within ∙ ap Some noted;
      }

      old_given : (index : ℕ) (other : Answer BadUnit) → a.unit ≢ index → HasGiven b es done index other → HasGiven b (Gave a.unit answer ∷ es) (slice_set done a.unit d) index other
      old_given index other ne g = record {
        unit = g.unit;
        there = g.there;
        outcome = g.outcome;
        is = g.is;
        fault = g.fault;
        lines = g.lines;
        noted = get_set_other done a.unit index d ne ∙ g.noted;
      }

      given_after : (index : ℕ) (other : Answer BadUnit) → slice_get (slice_set (states_in b.project es) a.unit (Answered answer)) index ≡ Some (Answered other) → HasGiven b (Gave a.unit answer ∷ es) (slice_set done a.unit d) index other
      given_after index other at_place = elim (answered_cases (states_in b.project es) a.unit index other answer Begun so.state at_place) [
        | inl (same, is_other) ↦ subst (λ n. HasGiven b (Gave a.unit answer ∷ es) (slice_set done a.unit d) n other) same (subst (HasGiven b (Gave a.unit answer ∷ es) (slice_set done a.unit d) a.unit) is_other own_given)
        | inr (ne, before) ↦ old_given index other ne (h.gave index other before)
      ]

      pub happened_after : HistoryHolds b (slice_set done a.unit d) (remove running index) next' (Gave a.unit answer ∷ es) w' flying' still'
      happened_after = record {
        keeps = keeps;
        begun = all_left (FliesSo b es next w flying still) (FliesSo b (Gave a.unit answer ∷ es) next' w' flying' still') running index flies_after h.begun;
        gave = given_after;
      }
