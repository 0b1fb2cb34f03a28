-- Where units stand, after one more event.
use Rattle.std.proofs.Common.{◌≡◌, ◌≢◌, ◌∙◌, ◌⊎◌, inl, inr, true, false, List, ℕ, Some, sym, ap, subst, slice_get}
use Rattle.std.specs.Prelude.{slice_set}
use Rattle.std.proofs.lemmas.Bool.{cases_eq, false≢true}
use Rattle.pb_run_flight.specs.declared.flight.Answer.{Answer}
use Rattle.pb_run_flight.specs.declared.flight.State.{State}
use Rattle.pb_run_flight.specs.declared.flight.State.TheVariants.{Untouched, Begun, Answered}
use Rattle.pb_run_flight.specs.Table.{due, due_first, count_due, is_untouched, is_good_at, are_good}
use Rattle.pb_run_flight.specs.Laws.{EndsAs, HasBegun}
use Rattle.pb_run_flight.proofs.Lists.{injective, get_set_same, get_set_other}
use Rattle.pb_run_flight.proofs.Ending.{due_begun}
use Rattle.pb_run_flight.proofs.Handing.{first_all, due_is_start}
use Rattle.pb_run_flight.proofs.Ready.{good_at, all_good}

module _ {F : Type 0} where
  -- a state is one alone
  pub not_untouched : (s : State F) → s ≡ Untouched → is_untouched s ≡ false → ⊥
  not_untouched s is begun = false≢true (sym begun ∙ ap is_untouched is)

  begun_no_answer : (a : Answer F) → Begun ≡ Answered a → ⊥
  begun_no_answer a e = cc

  -- What is due.

  pub due_first_begun : (given : ℕ) (ss : List (State F)) (u : ℕ) → given ≡ count_due ss → slice_get ss u ≡ Some Untouched → due_first given (slice_set ss u Begun) ≡ due_first given ss
  due_first_begun given ss u is at =
      let (same, count) = due_begun ss u at in
      ap (λ n. due_first n (slice_set ss u Begun)) (is ∙ sym count) ∙ first_all (slice_set ss u Begun) ∙ same ∙ sym (first_all ss) ∙ ap (λ n. due_first n ss) (sym is)

  pub ends_answered : (ss : List (State F)) (u : ℕ) (a : Answer F) → slice_get ss u ≡ Some Begun → EndsAs ss (slice_set ss u (Answered a))
  ends_answered ss u a at v b there = elim (cases_eq u v) [
    | inl same ↦ absurd (begun_no_answer b (injective (sym at ∙ ap (slice_get ss) same ∙ there)))
    | inr ne ↦ get_set_other ss u v (Answered a) ne ∙ there
  ]

  pub due_first_answered : (given : ℕ) (ss : List (State F)) (u : ℕ) (a : Answer F) → given ≡ count_due ss → slice_get ss u ≡ Some Begun → due_first given (slice_set ss u (Answered a)) ≡ due_first given ss
  due_first_answered given ss u a is at =
      ap (λ n. due_first n (slice_set ss u (Answered a))) is ∙ sym (due_is_start ss (slice_set ss u (Answered a)) (ends_answered ss u a at)).0 ∙ sym (first_all ss) ∙ ap (λ n. due_first n ss) (sym is)

  pub due_all : (given : ℕ) (ss : List (State F)) → given ≡ count_due ss → due_first given ss ≡ due ss
  due_all given ss is = ap (λ n. due_first n ss) is ∙ first_all ss

  -- What is good.

  -- units that are good stay so where another state changes
  pub good_set : (ss : List (State F)) (u : ℕ) (s t : State F) (us : List ℕ) → slice_get ss u ≡ Some s → is_good_at (Some s) ≡ false → are_good ss us ≡ true → are_good (slice_set ss u t) us ≡ true
  good_set ss u s t us at bad good = all_good (slice_set ss u t) us (λ v has. elim (cases_eq u v) [
    | inl same ↦ absurd (false≢true (sym bad ∙ ap is_good_at (sym at ∙ ap (slice_get ss) same) ∙ good_at ss us v good has))
    | inr ne ↦ ap is_good_at (get_set_other ss u v t ne) ∙ good_at ss us v good has
  ])

  -- a good one was so before, where the unit that is set is not good now
  pub good_before : (ss : List (State F)) (u v : ℕ) (s t : State F) → slice_get ss u ≡ Some s → is_good_at (Some t) ≡ false → is_good_at (slice_get (slice_set ss u t) v) ≡ true → is_good_at (slice_get ss v) ≡ true
  good_before ss u v s t at bad good = elim (cases_eq u v) [
    | inl same ↦ absurd (false≢true (sym bad ∙ ap is_good_at (sym (get_set_same ss u s t at)) ∙ ap (λ w. is_good_at (slice_get (slice_set ss u t) w)) same ∙ good))
    | inr ne ↦ ap is_good_at (sym (get_set_other ss u v t ne)) ∙ good
  ]

  -- What has begun.

  -- a unit that has begun after one more has: that one or one that had
  pub begun_cases : (ss : List (State F)) (u v : ℕ) (t : State F) → HasBegun (slice_set ss u t) v → (u ≡ v) ⊎ HasBegun ss v
  begun_cases ss u v t (s, at, begun) = elim (cases_eq u v) [
    | inl same ↦ inl same
    | inr ne ↦ inr (s, sym (get_set_other ss u v t ne) ∙ at, begun)
  ]

  pub begun_more : (ss : List (State F)) (u v : ℕ) (s t : State F) → slice_get ss u ≡ Some s → is_untouched t ≡ false → HasBegun ss v → HasBegun (slice_set ss u t) v
  begun_more ss u v s t there set (r, at, begun) = elim (cases_eq u v) [
    | inl same ↦ (t, subst (λ w. slice_get (slice_set ss u t) w ≡ Some t) same (get_set_same ss u s t there), set)
    | inr ne ↦ (r, get_set_other ss u v t ne ∙ at, begun)
  ]

  pub begun_now : (ss : List (State F)) (u : ℕ) (s t : State F) → slice_get ss u ≡ Some s → is_untouched t ≡ false → HasBegun (slice_set ss u t) u
  begun_now ss u s t there set = (t, get_set_same ss u s t there, set)

  -- one that has not begun is another than one that has
  pub another : (ss : List (State F)) (u v : ℕ) → slice_get ss u ≡ Some Untouched → HasBegun ss v → u ≢ v
  another ss u v at (s, there, begun) same = not_untouched s (injective (sym there ∙ ap (slice_get ss) (sym same) ∙ at)) begun

  -- one that has not begun after one more has, had not, and is another
  pub untouched_cases : (ss : List (State F)) (u v : ℕ) (s t : State F) → slice_get ss u ≡ Some s → is_untouched t ≡ false → slice_get (slice_set ss u t) v ≡ Some Untouched → (u ≢ v) × (slice_get ss v ≡ Some Untouched)
  untouched_cases ss u v s t there set at = elim (cases_eq u v) [
    | inl same ↦ absurd (not_untouched t (injective (sym (get_set_same ss u s t there) ∙ ap (slice_get (slice_set ss u t)) same ∙ at)) set)
    | inr ne ↦ (ne, sym (get_set_other ss u v t ne) ∙ at)
  ]

  -- what has answered, after one more has begun
  pub answered_before : (ss : List (State F)) (u v : ℕ) (a : Answer F) (s : State F) → slice_get ss u ≡ Some s → slice_get (slice_set ss u Begun) v ≡ Some (Answered a) → (u ≢ v) × (slice_get ss v ≡ Some (Answered a))
  answered_before ss u v a s there at = elim (cases_eq u v) [
    | inl same ↦ absurd (begun_no_answer a (injective (sym (get_set_same ss u s Begun there) ∙ ap (slice_get (slice_set ss u Begun)) same ∙ at)))
    | inr ne ↦ (ne, sym (get_set_other ss u v Begun ne) ∙ at)
  ]

  -- and after one more has answered
  pub answered_cases : (ss : List (State F)) (u v : ℕ) (a b : Answer F) (s : State F) → slice_get ss u ≡ Some s → slice_get (slice_set ss u (Answered b)) v ≡ Some (Answered a) → ((u ≡ v) × (b ≡ a)) ⊎ ((u ≢ v) × (slice_get ss v ≡ Some (Answered a)))
  answered_cases ss u v a b s there at = elim (cases_eq u v) [
    | inl same ↦ inl (same, answer_is b a (injective (sym (get_set_same ss u s (Answered b) there) ∙ ap (slice_get (slice_set ss u (Answered b))) same ∙ at)))
    | inr ne ↦ inr (ne, sym (get_set_other ss u v (Answered b) ne) ∙ at)
  ]
    where
      answer_is : (x y : Answer F) → Answered x ≡ Answered y → x ≡ y
      answer_is x y e = cc

  pub begun_is : (s : State F) → s ≡ Begun → is_untouched s ≡ false
  begun_is s e = ap is_untouched e
