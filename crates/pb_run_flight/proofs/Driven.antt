-- What a step of a flight asks and gives.
use Rattle.std.proofs.Common.{inl, inr, is_none, map, Option, None, AllPairs, ◌≡◌, ◌≢◌, ◌∙◌, ◌<◌, ◌+◌, ◌++◌, ◌⊎◌, Bool, false, List, [], ◌∷◌, ℕ, zero, suc, Some, refl, sym, ap, subst, arith, slice_get, length, Contains, slice_set}
use Rattle.std.specs.Prelude.{slice_index_or}
use Rattle.std.specs.List.{remove}
use Rattle.std.proofs.lemmas.Bool.{cases_eq, ne_eqb}
use Rattle.std.proofs.lemmas.Option.{slice_get_within, slice_get-get_or}
use Rattle.std.proofs.Common.{eq-eqb, if◌then◌else◌}
use Rattle.pb_run_flight.specs.declared.flight.Answer.{Answer}
use Rattle.pb_run_flight.specs.declared.flight.State.{State}
use Rattle.pb_run_flight.specs.declared.flight.State.TheVariants.{Untouched, Begun, Answered}
use Rattle.pb_run_flight.specs.declared.turn.Step.{Step}
use Rattle.pb_run_flight.specs.declared.turn.Step.TheVariants as step
use Rattle.pb_run_flight.specs.Table.{Table, ready_of, is_finished, begun, fresh, count_due}
use Rattle.pb_run_flight.specs.Driving.{IsFlown}
use Rattle.pb_run_flight.specs.Events.{Event, Began, Gave, MayBegin, IsLawful, Anything, states_after, flying_after, without}
use Rattle.pb_run_flight.specs.Laws.{IsInPlanOrder}
use Rattle.pb_run_flight.specs.Steps.{Flies, nothing, begin, answer, Anyhow, HandsBack}
use Rattle.pb_run_flight.specs.Working.{weight, weight_of}
use Rattle.pb_run_flight.proofs.Lists.{injective, clash, at_contains}
use Rattle.pb_run_flight.proofs.Ready.{ready_may}
use Rattle.pb_run_flight.proofs.Flying.{flying_begun, something_is_left, flying_apart}
use Rattle.pb_run_flight.proofs.Stepping.{steps_are_lawful}

-- the one at a place of a list in which nothing stands twice is the first of its kind
pub removed_is : (us : List ℕ) (k u : ℕ) → ((i j v : ℕ) → i < j → slice_get us i ≡ Some v → slice_get us j ≡ Some v → ⊥) → slice_get us k ≡ Some u → remove us k ≡ without u us
removed_is [] k u apart at = absurd (clash at)
removed_is (v ∷ us) zero u apart at = sym (ap (λ b. if b then us else (v ∷ without u us)) (eq-eqb v u (injective at)))
removed_is (v ∷ us) (suc k) u apart at = elim (cases_eq v u) [
  | inl same ↦ absurd (apart 0 (suc k) u (omega arith) (ap Some same) at)
  | inr ne ↦ ap (λ vs. v ∷ vs) (removed_is us k u (λ i j w lt a b. apart (suc i) (suc j) w (omega (arith, lt)) a b) at) ∙ sym (ap (λ b. if b then us else (v ∷ without u us)) (ne_eqb v u ne))
]

module _ {F : Type 0} where
  -- a unit that is ready may begin, and does not fly
  pub may_of : (table : Table F) (needs : List (List ℕ)) (es : List (Event F)) (u : ℕ) → table.needs ≡ needs → Contains (ready_of table.needs table.states) u → table.states ≡ states_after needs es → MayBegin needs (states_after needs es) u
  may_of table needs es u same ready states =
      ready_may needs (states_after needs es) u (subst (λ ss. Contains (ready_of needs ss) u) states (subst (λ ns. Contains (ready_of ns table.states) u) same ready))

  pub in_plan : (table : Table F) (needs : List (List ℕ)) (u : ℕ) → table.needs ≡ needs → Contains (ready_of table.needs table.states) u → u < length needs
  in_plan table needs u same ready =
      let may = ready_may table.needs table.states u ready in
      slice_get_within needs u may.wanted (ap (λ (ns : List (List ℕ)). slice_get ns u) (sym same) ∙ may.unit)

  other_state : (s : State F) → s ≡ Begun → s ≡ Untouched → ⊥
  other_state Untouched e f = cc
  other_state Begun e f = cc
  other_state (Answered given) e f = cc

  pub not_flying : (table : Table F) (needs : List (List ℕ)) (es : List (Event F)) (flying : List ℕ) (u : ℕ) → table.needs ≡ needs → Contains (ready_of table.needs table.states) u → IsLawful needs es → table.states ≡ states_after needs es → flying ≡ flying_after es
      → Contains flying u → ⊥
  not_flying table needs es flying u same ready lawful states flies has =
      let may = may_of table needs es u same ready states in
      let begun : slice_get (states_after needs es) u ≡ Some Begun = flying_begun needs Anything es lawful u (subst (λ us. Contains us u) flies has) in
      other_state Begun refl (injective (sym begun ∙ may.untouched))

  -- a unit that flies has begun
  pub has_begun : (states : List (State F)) (needs : List (List ℕ)) (es : List (Event F)) (flying : List ℕ) (k u : ℕ) → IsLawful needs es → states ≡ states_after needs es → flying ≡ flying_after es → slice_get flying k ≡ Some u
      → slice_get (states_after needs es) u ≡ Some Begun
  has_begun states needs es flying k u lawful same flies at = flying_begun needs Anything es lawful u (subst (λ us. Contains us u) flies (at_contains flying k u at))

  -- a unit that begins makes none due
  pub count_begun : (states : List (State F)) (u : ℕ) → slice_get states u ≡ Some Untouched → count_due (slice_set states u Begun) ≡ count_due states
  count_begun [] u at = refl
  count_begun (Untouched ∷ states) zero at = refl
  count_begun (Begun ∷ states) zero at = refl
  count_begun (Answered given ∷ states) zero at = cc
  count_begun (Untouched ∷ states) (suc u) at = refl
  count_begun (Begun ∷ states) (suc u) at = refl
  count_begun (Answered given ∷ states) (suc u) at = ap (λ n. suc (if is_none given.fault then n else 0)) (count_begun states u at)

  -- what is left to do gets less
  pub weight_set : (states : List (State F)) (u : ℕ) (s t : State F) → slice_get states u ≡ Some s → weight_of (slice_set states u t) + weight s ≡ weight_of states + weight t
  weight_set [] u s t at = absurd (clash at)
  weight_set (x ∷ states) zero s t at = let same : weight x ≡ weight s = ap weight (injective at) in omega (arith, same)
  weight_set (x ∷ states) (suc u) s t at = let more = weight_set states u s t at in omega (arith, more)

pub item_is : (us : List ℕ) (k u : ℕ) → slice_get us k ≡ Some u → slice_index_or us k 0 ≡ u
item_is us k u at = injective (sym (slice_get-get_or us k 0 (slice_get_within us k u at)) ∙ at)

apart_at : (us : List ℕ) → AllPairs (λ u v. u ≢ v) us → (i j v : ℕ) → i < j → slice_get us i ≡ Some v → slice_get us j ≡ Some v → ⊥
apart_at us apart i j v lt at there = apart i j 0 lt (slice_get_within us j v there) (item_is us i v at ∙ sym (item_is us j v there))

module _ {F S : Type 0} (Turns : S → List ℕ → List ℕ → Step → S → Type 0) (needs : List (List ℕ)) (from : S) (es : List (Event F)) (now next : S) (table : Table F) (flying : List ℕ) (flown : IsFlown Turns needs from es now table flying) where
  pub lawful : IsLawful needs es
  lawful = steps_are_lawful Turns needs Anyhow Anything from es now flown.flies

  pub after : (es : List (Event F)) × IsLawful needs es × (table.states ≡ states_after needs es) × (flying ≡ flying_after es)
  after = (es, lawful, flown.states_are, flown.flying_are)

  -- some unit may begin or one flies
  pub some_step : (ready list : List ℕ) → IsInPlanOrder needs → is_finished table.states ≡ false → ready ≡ ready_of table.needs table.states → list ≡ flying → 0 < length ready + length list
  some_step ready list order left is same =
      let left_now : is_finished (states_after needs es) ≡ false = ap is_finished (sym flown.states_are) ∙ left in
      let some : 0 < length (ready_of needs (states_after needs es)) + length (flying_after es) = something_is_left needs Anything es order lawful left_now in
      let r : length ready ≡ length (ready_of needs (states_after needs es)) = ap length (is ∙ ap (λ ns. ready_of ns table.states) flown.needs_are ∙ ap (ready_of needs) flown.states_are) in
      let f : length list ≡ length (flying_after es) = ap length (same ∙ flown.flying_are) in
      omega (arith, some, r, f)

  module _ (ready list : List ℕ) (left : is_finished table.states ≡ false) (is : ready ≡ ready_of table.needs table.states) (same : list ≡ flying) (i : ℕ) where
    ready_is : ready ≡ ready_of needs (states_after needs es)
    ready_is = is ∙ ap (λ ns. ready_of ns table.states) flown.needs_are ∙ ap (ready_of needs) flown.states_are

    list_is : list ≡ flying_after es
    list_is = same ∙ flown.flying_are

    left_is : is_finished (states_after needs es) ≡ false
    left_is = ap is_finished (sym flown.states_are) ∙ left

    pub begun_in : (u : ℕ) → slice_get list i ≡ Some u → slice_get table.states u ≡ Some Begun
    begun_in u at = ap (λ ss. slice_get ss u) flown.states_are ∙ has_begun table.states needs es list i u lawful flown.states_are list_is at

    pub untouched_in : (u : ℕ) → slice_get ready i ≡ Some u → slice_get table.states u ≡ Some Untouched
    untouched_in u at = (ready_may table.needs table.states u (subst (λ r. Contains r u) is (at_contains ready i u at))).untouched

    pub flies_begun : (u : ℕ) (spawned : Bool) → Turns now ready list (step.Begin i) next → slice_get ready i ≡ Some u → Flies Turns needs Anyhow Anything from (Began u spawned ∷ es) next
    flies_begun u spawned turned at =
        begin es now next i u spawned flown.flies left_is (subst (λ l. Turns now (ready_of needs (states_after needs es)) l (step.Begin i) next) list_is (subst (λ r. Turns now r list (step.Begin i) next) ready_is turned))
        (ap (λ r. slice_get r i) (sym ready_is) ∙ at) tt

    pub flown_begun : (u : ℕ) (spawned : Bool) (new : Table F) (flying_now : List ℕ) → Turns now ready list (step.Begin i) next → slice_get ready i ≡ Some u → new ≡ begun u table → flying_now ≡ flying ++ u ∷ []
        → IsFlown Turns needs from (Began u spawned ∷ es) next new flying_now
    flown_begun u spawned new flying_now turned at e f = record {
      flies = flies_begun u spawned turned at;
      needs_are = ap (λ (t : Table F). t.needs) e ∙ flown.needs_are;
      states_are = ap (λ (t : Table F). t.states) e ∙ ap (λ ss. slice_set ss u Begun) flown.states_are;
      flying_are = f ∙ ap (λ us. us ++ u ∷ []) flown.flying_are;
      given_are = ap (λ (t : Table F). t.given) e ∙ flown.given_are ∙ sym (count_begun table.states u (untouched_in u at)) ∙ ap (λ (t : Table F). count_due t.states) (sym e);
    }

    pub flies_answered : (u : ℕ) (given : Answer F) → Turns now ready list (step.Answer i) next → slice_get list i ≡ Some u → Flies Turns needs Anyhow Anything from (Gave u given ∷ es) next
    flies_answered u given turned at =
        answer es now next i u given flown.flies left_is (subst (λ l. Turns now (ready_of needs (states_after needs es)) l (step.Answer i) next) list_is (subst (λ r. Turns now r list (step.Answer i) next) ready_is turned))
        (ap (λ l. slice_get l i) (sym list_is) ∙ at) tt

    pub flown_answered : (u : ℕ) (given : Answer F) (new : Table F) (flying_now : List ℕ) → new.given ≡ count_due new.states → Turns now ready list (step.Answer i) next → slice_get list i ≡ Some u → new.needs ≡ table.needs → new.states ≡ slice_set table.states u (Answered given)
        → flying_now ≡ remove flying i → IsFlown Turns needs from (Gave u given ∷ es) next new flying_now
    flown_answered u given new flying_now told turned at n e f = record {
      flies = flies_answered u given turned at;
      needs_are = n ∙ flown.needs_are;
      states_are = e ∙ ap (λ ss. slice_set ss u (Answered given)) flown.states_are;
      flying_are = f ∙ ap (λ us. remove us i) flown.flying_are ∙ removed_is (flying_after es) i u (apart_at (flying_after es) (flying_apart needs Anything es lawful)) (ap (λ l. slice_get l i) (sym list_is) ∙ at);
      given_are = told;
    }

    pub less_begun : (u : ℕ) (new : Table F) → slice_get ready i ≡ Some u → new ≡ begun u table → weight_of new.states < weight_of table.states
    less_begun u new at e =
        let w = weight_set table.states u Untouched Begun (untouched_in u at) in
        let s : weight_of new.states ≡ weight_of (slice_set table.states u Begun) = ap (λ (t : Table F). weight_of t.states) e in
        omega (arith, w, s)

    pub less_answered : (u : ℕ) (given : Answer F) (new : Table F) → slice_get list i ≡ Some u → new.states ≡ slice_set table.states u (Answered given) → weight_of new.states < weight_of table.states
    less_answered u given new at e =
        let w = weight_set table.states u Begun (Answered given) (begun_in u at) in
        let s : weight_of new.states ≡ weight_of (slice_set table.states u (Answered given)) = ap weight_of e in
        omega (arith, w, s)

    -- a fault ends it before the answer is noted, or after
    pub stopped_at : (u : ℕ) → Turns now ready list (step.Answer i) next → slice_get list i ≡ Some u → (Stops : Option ℕ → List (Event F) → Type 0) → Stops (Some u) es ⊎ ((given : Answer F) × Stops None (Gave u given ∷ es))
        → (last : S) × (events : List (Event F)) × (asked : Option ℕ) × Flies Turns needs Anyhow Anything from events last × HandsBack Turns needs events last asked next × Stops asked events
    stopped_at u turned at Stops (inl told) =
        (now, es, Some u, flown.flies, (i, left_is, ap (λ l. slice_get l i) (sym list_is) ∙ at, subst (λ l. Turns now (ready_of needs (states_after needs es)) l (step.Answer i) next) list_is (subst (λ r. Turns now r list (step.Answer i) next) ready_is turned)), told)
    stopped_at u turned at Stops (inr (given, told)) = (next, Gave u given ∷ es, None, flies_answered u given turned at, refl, told)

-- a flight on which nothing has begun
pub flown_fresh : {F S : Type 0} (Turns : S → List ℕ → List ℕ → Step → S → Type 0) (needs : List (List ℕ)) (now : S) (table : Table F) (flying : List ℕ) → table ≡ fresh needs → flying ≡ [] → IsFlown Turns needs now [] now table flying
flown_fresh {F} Turns needs now table flying is none = record {
  flies = nothing;
  needs_are = ap (λ (t : Table F). t.needs) is;
  states_are = ap (λ (t : Table F). t.states) is;
  flying_are = none;
  given_are = ap (λ (t : Table F). t.given) is ∙ sym (count_fresh needs) ∙ ap (λ (t : Table F). count_due t.states) (sym is);
}
  where
    untouched : List ℕ → State F
    untouched ns = Untouched

    count_fresh : (ns : List (List ℕ)) → count_due (map untouched ns) ≡ 0
    count_fresh [] = refl
    count_fresh (n ∷ ns) = refl
