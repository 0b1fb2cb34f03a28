-- What is handed out, and what is due at the end.
use Rattle.std.proofs.Common.{◌≡◌, ◌∙◌, ◌++◌, ◌≤◌, if◌then◌else◌, Bool, true, false, List, [], ◌∷◌, ℕ, zero, suc, Some, is_none, refl, sym, ap, arith, slice_get, length, append_assoc, append-nil}
use Rattle.std.specs.Prelude.{slice_set}
use Rattle.std.proofs.lemmas.Bool.{false≢true}
use Rattle.pb_run_flight.specs.declared.flight.Answer.{Answer}
use Rattle.pb_run_flight.specs.declared.flight.State.{State}
use Rattle.pb_run_flight.specs.declared.flight.State.TheVariants.{Untouched, Begun, Answered}
use Rattle.pb_run_flight.specs.Table.{due, due_after, due_first, count_due, first_bad_from, is_finished}
use Rattle.pb_run_flight.specs.Events.{Event, Began, Gave, Lawful, begin, answer, MayBegin, states_after}
use Rattle.pb_run_flight.specs.Calls.{Call, Noted, Emitted, events_of, table_after, handed_out}
use Rattle.pb_run_flight.specs.Laws.{EndsAs}
use Rattle.pb_run_flight.proofs.Lists.{injective, clash}
use Rattle.pb_run_flight.proofs.Ending.{due_none, due_begun, count_grows}

module _ {F : Type 0} where
  -- the first and the others are all
  pub due_split : (n : ℕ) (ss : List (State F)) → due_first n ss ++ due_after n ss ≡ due ss
  due_split zero ss = due_none ss
  due_split (suc n) [] = refl
  due_split (suc n) (Untouched ∷ ss) = refl
  due_split (suc n) (Begun ∷ ss) = refl
  due_split (suc n) (Answered a ∷ ss) = by (is_none a.fault) (due_split n ss)
    where
      by : (b : Bool) → due_first n ss ++ due_after n ss ≡ due ss → (a.lines ++ (if b then due_first n ss else [])) ++ (if b then due_after n ss else []) ≡ a.lines ++ (if b then due ss else [])
      by true more = append_assoc a.lines (due_first n ss) (due_after n ss) ∙ ap (λ d. a.lines ++ d) more
      by false more = append-nil (a.lines ++ [])

  pub first_all : (ss : List (State F)) → due_first (count_due ss) ss ≡ due ss
  first_all [] = refl
  first_all (Untouched ∷ ss) = refl
  first_all (Begun ∷ ss) = refl
  first_all (Answered a ∷ ss) = by (is_none a.fault) (first_all ss)
    where
      by : (b : Bool) → due_first (count_due ss) ss ≡ due ss → a.lines ++ (if b then due_first (if b then count_due ss else 0) ss else []) ≡ a.lines ++ (if b then due ss else [])
      by true more = ap (λ d. a.lines ++ d) more
      by false more = refl

  -- they stay as they are
  first_begun : (n : ℕ) (ss : List (State F)) (u : ℕ) → slice_get ss u ≡ Some Untouched → due_first n (slice_set ss u Begun) ≡ due_first n ss
  first_begun zero ss u at = refl
  first_begun (suc n) [] u at = refl
  first_begun (suc n) (Untouched ∷ ss) zero at = refl
  first_begun (suc n) (Begun ∷ ss) zero at = refl
  first_begun (suc n) (Answered a ∷ ss) zero at = absurd (other (injective at))
    where
      other : Answered a ≡ Untouched → ⊥
      other e = cc
  first_begun (suc n) (Untouched ∷ ss) (suc u) at = refl
  first_begun (suc n) (Begun ∷ ss) (suc u) at = refl
  first_begun (suc n) (Answered a ∷ ss) (suc u) at = ap (λ d. a.lines ++ (if is_none a.fault then d else [])) (first_begun n ss u at)

  first_answered : (n : ℕ) (ss : List (State F)) (u : ℕ) (s : State F) → n ≤ count_due ss → slice_get ss u ≡ Some Begun → due_first n (slice_set ss u s) ≡ due_first n ss
  first_answered zero ss u s le at = refl
  first_answered (suc n) [] u s le at = absurd (omega (arith, le))
  first_answered (suc n) (Untouched ∷ ss) u s le at = absurd (omega (arith, le))
  first_answered (suc n) (Begun ∷ ss) u s le at = absurd (omega (arith, le))
  first_answered (suc n) (Answered a ∷ ss) zero s le at = absurd (other (injective at))
    where
      other : Answered a ≡ Begun → ⊥
      other e = cc
  first_answered (suc n) (Answered a ∷ ss) (suc u) s le at = by (is_none a.fault) le (λ l. first_answered n ss u s l at)
    where
      by : (b : Bool) → suc n ≤ suc (if b then count_due ss else 0) → (n ≤ count_due ss → due_first n (slice_set ss u s) ≡ due_first n ss) → a.lines ++ (if b then due_first n (slice_set ss u s) else []) ≡ a.lines ++ (if b then due_first n ss else [])
      by true l more = ap (λ d. a.lines ++ d) (more (omega (arith, l)))
      by false l more = refl

  module _ (needs : List (List ℕ)) (Gives : ℕ → Answer F → Type 0) where
    pub began_lawful : (es : List (Event F)) (u : ℕ) (spawned : Bool) → Lawful needs Gives (Began u spawned ∷ es) → Lawful needs Gives es × MayBegin needs (states_after needs es) u
    began_lawful _ _ _ (begin es u spawned before may) = (before, may)

    pub gave_lawful : (es : List (Event F)) (u : ℕ) (given : Answer F) → Lawful needs Gives (Gave u given ∷ es) → Lawful needs Gives es × (slice_get (states_after needs es) u ≡ Some Begun)
    gave_lawful _ _ _ (answer es u given before flying gives) = (before, flying)

    -- the table after calls, and what was handed out
    record Handed (cs : List (Call F)) : Type 0 where
      pub states : (table_after needs cs).states ≡ states_after needs (events_of cs)
      pub given : (table_after needs cs).given ≤ count_due (table_after needs cs).states
      pub out : handed_out needs cs ≡ due_first (table_after needs cs).given (table_after needs cs).states

    handed : (cs : List (Call F)) → Lawful needs Gives (events_of cs) → Handed cs
    handed [] lawful = record { states = refl; given = omega arith; out = refl }
    handed (Emitted ∷ cs) lawful =
        let h = handed cs lawful in
        record {
          states = h.states;
          given = omega arith;
          out = ap (λ d. d ++ due_after (table_after needs cs).given (table_after needs cs).states) h.out ∙ due_split (table_after needs cs).given (table_after needs cs).states ∙ sym (first_all (table_after needs cs).states);
        }
    handed (Noted (Began u spawned) ∷ cs) lawful =
        let (before, may) = began_lawful (events_of cs) u spawned lawful in
        let h = handed cs before in
        let at : slice_get (table_after needs cs).states u ≡ Some Untouched = ap (λ ss. slice_get ss u) h.states ∙ may.untouched in
        record {
          states = ap (λ ss. slice_set ss u Begun) h.states;
          given = omega (arith, h.given, (due_begun (table_after needs cs).states u at).1);
          out = h.out ∙ sym (first_begun (table_after needs cs).given (table_after needs cs).states u at);
        }
    handed (Noted (Gave u given) ∷ cs) lawful =
        let (before, flying) = gave_lawful (events_of cs) u given lawful in
        let h = handed cs before in
        let at : slice_get (table_after needs cs).states u ≡ Some Begun = ap (λ ss. slice_get ss u) h.states ∙ flying in
        record {
          states = ap (λ ss. slice_set ss u (Answered given)) h.states;
          given = omega (arith, h.given, count_grows (table_after needs cs).states u (Answered given) at);
          out = h.out ∙ sym (first_answered (table_after needs cs).given (table_after needs cs).states u (Answered given) h.given at);
        }

    pub hands_out_all_due : (cs : List (Call F)) → Lawful needs Gives (events_of cs) → handed_out needs (Emitted ∷ cs) ≡ due (states_after needs (events_of cs))
    hands_out_all_due cs lawful =
        let h = handed cs lawful in
        ap (λ d. d ++ due_after (table_after needs cs).given (table_after needs cs).states) h.out ∙ due_split (table_after needs cs).given (table_after needs cs).states ∙ ap due h.states

  -- What is due at the end.

  start_of : (states end : List (State F)) → EndsAs states end → due states ≡ due_first (count_due states) end
  start_of [] end each = refl
  start_of (Untouched ∷ ss) end each = refl
  start_of (Begun ∷ ss) end each = refl
  start_of (Answered a ∷ ss) [] each = absurd (clash (each 0 a refl))
  start_of (Answered a ∷ ss) (e ∷ es) each = by (is_none a.fault) (start_of ss es (λ u b at. each (suc u) b at)) ∙ ap (λ x. due_first (suc (if is_none a.fault then count_due ss else 0)) (x ∷ es)) (sym (injective (each 0 a refl)))
    where
      by : (b : Bool) → due ss ≡ due_first (count_due ss) es → a.lines ++ (if b then due ss else []) ≡ a.lines ++ (if b then due_first (if b then count_due ss else 0) es else [])
      by true more = ap (λ d. a.lines ++ d) more
      by false more = refl

  pub due_is_start : (states end : List (State F)) → EndsAs states end → (due states ≡ due_first (count_due states) end) × ((rest : List ℕ) × (due end ≡ due states ++ rest))
  due_is_start states end each =
      let start = start_of states end each in
      (start, (due_after (count_due states) end, sym (due_split (count_due states) end) ∙ ap (λ d. d ++ due_after (count_due states) end) (sym start)))

  all_from : (n : ℕ) (states end : List (State F)) → length states ≡ length end → is_finished states ≡ true → EndsAs states end → (due states ≡ due end) × (first_bad_from n states ≡ first_bad_from n end)
  all_from n [] [] long all each = (refl, refl)
  all_from n [] (e ∷ es) long all each = absurd (omega (arith, long))
  all_from n (Untouched ∷ ss) end long all each = absurd (false≢true all)
  all_from n (Begun ∷ ss) end long all each = absurd (false≢true all)
  all_from n (Answered a ∷ ss) [] long all each = absurd (clash (each 0 a refl))
  all_from n (Answered a ∷ ss) (e ∷ es) long all each =
      let (d, f) = by (is_none a.fault) (λ h. all_from (suc n) ss es (omega (arith, long)) h (λ u b at. each (suc u) b at)) all in
      let same : Answered a ≡ e = sym (injective (each 0 a refl)) in
      (d ∙ ap (λ x. due (x ∷ es)) same, f ∙ ap (λ x. first_bad_from n (x ∷ es)) same)
    where
      by : (b : Bool) → (is_finished ss ≡ true → (due ss ≡ due es) × (first_bad_from (suc n) ss ≡ first_bad_from (suc n) es)) → (if b then is_finished ss else true) ≡ true
          → (a.lines ++ (if b then due ss else []) ≡ a.lines ++ (if b then due es else [])) × ((if b then first_bad_from (suc n) ss else Some n) ≡ (if b then first_bad_from (suc n) es else Some n))
      by true more h = let (d, f) = more h in (ap (λ x. a.lines ++ x) d, f)
      by false more h = (refl, refl)

  pub finished_is_all : (states end : List (State F)) → length states ≡ length end → is_finished states ≡ true → EndsAs states end → (due states ≡ due end) × (first_bad_from 0 states ≡ first_bad_from 0 end)
  finished_is_all states end long all each = all_from 0 states end long all each
