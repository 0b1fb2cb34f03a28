-- What has happened, where nothing, a beginning or an answer comes next.
use Rattle.std.proofs.Common.{◌≡◌, ◌≢◌, ◌∙◌, ◌++◌, Bool, true, false, List, [], ◌∷◌, ℕ, Option, Some, None, if◌then◌else◌, refl, sym, ap, subst, slice_get, slice_set, eq-eqb, is_some}
use Rattle.std.proofs.lemmas.Bool.{ne_eqb, false≢true}
use Rattle.pb_directive.specs.declared.directive.Directive.{Directive}
use Rattle.pb_run_flight.specs.declared.flight.Answer.{Answer}
use Rattle.pb_run_flight.specs.declared.flight.State.TheVariants.{Untouched, Begun}
use Rattle.pb_run_flight.specs.Events.{Event, Began, MayBegin}
use Rattle.pb_run_flight.specs.Table.{are_good}
use Rattle.pb_run_flight.proofs.Lists.{injective, get_set_same, get_set_other}
use Rattle.pb_place_types.specs.World.{World}
use Rattle.pb_place_types.specs.declared.child_in_flight.ChildInFlight.{ChildInFlight}
use Rattle.pb_command_types.specs.Targets.{unit_at}
use Rattle.pb_build_result.specs.declared.bad_unit.BadUnit.{BadUnit}
use Rattle.pb_command_types.specs.declared.project.Project.{Project}
use Rattle.pb_run.specs.UnitSteps.{BuildContext, BuildInvariant, IsBegun, CanBegin, BeginsApart, child_of}
use Rattle.pb_run.specs.Invariants.{IsInOrder}
use Rattle.pb_message_units.specs.Telling.{unit_lines}
use Rattle.pb_run.specs.declared.begun.Begun.{Begun as unit_begun}
use Rattle.pb_build_turns.specs.Executor.{needs_of}
use Rattle.pb_build_turns.specs.Rows.{is_started, messages_in}
use Rattle.pb_build_turns.specs.History.{states_in, HistoryHolds, HasGiven, FliesSo, events_before}
use Rattle.pb_build_turns.specs.declared.executor.RunningUnit.{RunningUnit}
use Rattle.pb_build_turns.proofs.Lists.{all_more, all_as}
use Rattle.pb_build_turns.proofs.Reaching.{can_begin}
use Rattle.pb_build_turns.proofs.States.{good_set, another, answered_before}
use Rattle.pb_unit.specs.declared.plan.Planned.{Planned}

-- whether a child was started for a unit, where another begins, or this one
pub started_other : (es : List (Event BadUnit)) (unit index : ℕ) (spawned : Bool) → unit ≢ index → is_started (Began unit spawned ∷ es) index ≡ is_started es index
started_other es unit index spawned ne = ap (λ b. if b then spawned else is_started es index) (ne_eqb unit index ne)

pub started_now : (es : List (Event BadUnit)) (unit : ℕ) (spawned : Bool) → is_started (Began unit spawned ∷ es) unit ≡ spawned
started_now es unit spawned = ap (λ b. if b then spawned else is_started es unit) (eq-eqb unit unit refl)

-- and what had happened before it began
pub before_other : (es : List (Event BadUnit)) (unit index : ℕ) (spawned : Bool) → unit ≢ index → events_before (Began unit spawned ∷ es) index ≡ events_before es index
before_other es unit index spawned ne = ap (λ b. if b then es else events_before es index) (ne_eqb unit index ne)

pub before_now : (es : List (Event BadUnit)) (unit : ℕ) (spawned : Bool) → events_before (Began unit spawned ∷ es) unit ≡ es
before_now es unit spawned = ap (λ b. if b then es else events_before es unit) (eq-eqb unit unit refl)

one_unit : (project : Project) (index : ℕ) (u v : Planned) → unit_at project index ≡ Some u → unit_at project index ≡ Some v → u ≡ v
one_unit project index u v at there = injective (sym at ∙ there)

none_some : {A : Type 0} (x : A) → None ≡ Some x → ⊥
none_some x e = cc

pub none_of : {A : Type 0} (o : Option A) → is_some o ≡ false → o ≡ None
none_of None is = refl
none_of (Some x) is = absurd (false≢true (sym is))

-- A unit begins.

module _ (b : BuildContext) (order : IsInOrder b.project) (done : List (Option (List Directive))) (running : List RunningUnit) (next next' : Option ℕ) (es : List (Event BadUnit)) (w w' : World)
    (flying flying' : List ChildInFlight) (still still' : ℕ → Type 0) (h : HistoryHolds b done running next es w flying still)
    (unit : ℕ) (u : Planned) (there : unit_at b.project unit ≡ Some u) (may : MayBegin (needs_of b.project) (states_in b.project es) unit) where
  pub can : CanBegin b (states_in b.project es) done unit u next w
  can = can_begin b order (states_in b.project es) done next w h.keeps unit u there may

  -- another unit in flight
  apart_from : (a : RunningUnit) → FliesSo b es next w flying still a → BeginsApart b (states_in b.project es) unit None a.unit a.begun next w flying still
  apart_from a so = record {
    another = λ e. another (states_in b.project es) unit a.unit may.untouched (Begun, so.state, refl) (sym e);
    unit = so.begun_so.unit;
    there = so.begun_so.there;
    reaches = so.reaches so.begun_so.unit so.begun_so.there;
    tickets = λ ours theirs e f. absurd (none_some ours e);
    numbers = λ ours theirs e f. absurd (none_some ours e);
    begun_so = so.begun_so;
  }

  module _ (spawned : Bool) (keeps : BuildInvariant b (slice_set (states_in b.project es) unit Begun) done next' w')
      (others : (other : ℕ) (its : unit_begun) → BeginsApart b (states_in b.project es) unit None other its next w flying still → IsBegun b other its next' w' flying' still') where
    ne_flying : (a : RunningUnit) → FliesSo b es next w flying still a → unit ≢ a.unit
    ne_flying a so = another (states_in b.project es) unit a.unit may.untouched (Begun, so.state, refl)

    flies_on : (a : RunningUnit) → FliesSo b es next w flying still a → FliesSo b (Began unit spawned ∷ es) next' w' flying' still' a
    flies_on a so = record {
      state = get_set_other (states_in b.project es) unit a.unit Begun (ne_flying a so) ∙ so.state;
      begun_so = others a.unit a.begun (apart_from a so);
      reaches = λ v at. good_set (states_in b.project es) unit Untouched Begun v.reaches may.untouched refl (so.reaches v at);
      started = started_other es unit a.unit spawned (ne_flying a so) ∙ so.started;
    }

    given_on : (index : ℕ) (answer : Answer BadUnit) → unit ≢ index → HasGiven b es done index answer → HasGiven b (Began unit spawned ∷ es) done index answer
    given_on index answer ne g = record {
      unit = g.unit;
      there = g.there;
      outcome = g.outcome;
      is = g.is;
      fault = g.fault;
      lines = g.lines ∙ ap (λ s. unit_lines b.project g.unit s (messages_in g.outcome)) (sym (started_other es unit index spawned ne));
      noted = g.noted;
    }

    -- the units that were in flight
    pub happened_begun : HistoryHolds b done running next' (Began unit spawned ∷ es) w' flying' still'
    happened_begun = record {
      keeps = keeps;
      begun = all_as (FliesSo b es next w flying still) (FliesSo b (Began unit spawned ∷ es) next' w' flying' still') running flies_on h.begun;
      gave = λ index answer at. let (ne, before) = answered_before (states_in b.project es) unit index answer Untouched may.untouched at in given_on index answer ne (h.gave index answer before);
    }

    module _ (a : RunningUnit) (its : a.unit ≡ unit) (flag : spawned ≡ is_some (child_of a.begun)) (begun_so : IsBegun b unit a.begun next' w' flying' still') where
      own : FliesSo b (Began unit spawned ∷ es) next' w' flying' still' a
      own = subst (λ n. (slice_get (slice_set (states_in b.project es) unit Begun) n ≡ Some Begun) → IsBegun b n a.begun next' w' flying' still'
          → ((v : Planned) → unit_at b.project n ≡ Some v → are_good (slice_set (states_in b.project es) unit Begun) v.reaches ≡ true) → is_started (Began unit spawned ∷ es) n ≡ is_some (child_of a.begun)
          → FliesSo b (Began unit spawned ∷ es) next' w' flying' still' a) its
          (λ state so reaches started. record { state = state; begun_so = so; reaches = reaches; started = started })
          (get_set_same (states_in b.project es) unit Untouched Begun may.untouched)
          begun_so
          (λ v at. subst (λ (x : Planned). are_good (slice_set (states_in b.project es) unit Begun) x.reaches ≡ true) (one_unit b.project unit u v there at) (good_set (states_in b.project es) unit Untouched Begun u.reaches may.untouched refl can.reaches))
          (started_now es unit spawned ∙ flag)

      -- and this one
      pub happened_more : HistoryHolds b done (running ++ a ∷ []) next' (Began unit spawned ∷ es) w' flying' still'
      happened_more = record {
        keeps = keeps;
        begun = all_more (FliesSo b (Began unit spawned ∷ es) next' w' flying' still') running (a ∷ []) happened_begun.begun (own, tt);
        gave = happened_begun.gave;
      }
