-- How many needs are met.
use Rattle.std.proofs.Common.{◌≡◌, ◌∙◌, ◌&&◌, ◌<◌, ◌≤◌, ◌+◌, ◌==◌, inl, inr, if◌then◌else◌, Bool, true, false, List, [], ◌∷◌, ℕ, zero, suc, Some, refl, sym, ap, subst, arith, slice_get, map, length, Contains, eq-eqb}
use Rattle.std.specs.Prelude.{slice_set, slice_index}
use Rattle.std.proofs.lemmas.Bool.{cases_eq, ne_eqb, false≢true}
use Rattle.pb_run_flight.specs.declared.flight.State.{State}
use Rattle.pb_run_flight.specs.declared.flight.State.TheVariants.{Untouched, Begun, Answered}
use Rattle.pb_run_flight.specs.Table.{is_good_at, are_good}
use Rattle.pb_run_flight.specs.Working.{count_met}
use Rattle.pb_run_flight.proofs.Lists.{get_set_same, get_set_other, contains_head, contains_tail}

module _ {F : Type 0} where
  pub met_within : (states : List (State F)) (us : List ℕ) → count_met states us ≤ length us
  met_within states [] = omega arith
  met_within states (u ∷ us) = by (is_good_at (slice_get states u)) (met_within states us)
    where
      by : (b : Bool) → count_met states us ≤ length us → (if b then suc (count_met states us) else 0) ≤ length (u ∷ us)
      by true le = omega (arith, le)
      by false le = omega arith

  -- a need that is not good ends the count
  pub met_stops : (states : List (State F)) (us : List ℕ) (k : ℕ) → k < length us → is_good_at (slice_get states (slice_index us k)) ≡ false → count_met states us ≤ k
  met_stops states [] k lt h = omega (arith, lt)
  met_stops states (u ∷ us) zero lt h = subst (λ b. (if b then suc (count_met states us) else 0) ≤ 0) (sym h) (omega arith)
  met_stops states (u ∷ us) (suc k) lt h = by (is_good_at (slice_get states u)) (met_stops states us k (omega (arith, lt)) h)
    where
      by : (b : Bool) → count_met states us ≤ k → (if b then suc (count_met states us) else 0) ≤ suc k
      by true le = omega (arith, le)
      by false le = omega arith

  -- a good one after so many counts too
  pub met_goes : (states : List (State F)) (us : List ℕ) (k : ℕ) → k < length us → k ≤ count_met states us → is_good_at (slice_get states (slice_index us k)) ≡ true → k + 1 ≤ count_met states us
  met_goes states [] k lt le h = absurd (omega (arith, lt))
  met_goes states (u ∷ us) zero lt le h = subst (λ b. 0 + 1 ≤ (if b then suc (count_met states us) else 0)) (sym h) (omega arith)
  met_goes states (u ∷ us) (suc k) lt le h = by (is_good_at (slice_get states u)) (λ l. met_goes states us k (omega (arith, lt)) l h) le
    where
      by : (b : Bool) → (k ≤ count_met states us → k + 1 ≤ count_met states us) → suc k ≤ (if b then suc (count_met states us) else 0) → suc k + 1 ≤ (if b then suc (count_met states us) else 0)
      by true more l = let m = more (omega (arith, l)) in omega (arith, m)
      by false more l = absurd (omega (arith, l))

  -- all are good where all count
  pub met_all : (states : List (State F)) (us : List ℕ) → are_good states us ≡ (count_met states us == length us)
  met_all states [] = refl
  met_all states (u ∷ us) = by (is_good_at (slice_get states u)) (met_all states us)
    where
      by : (b : Bool) → are_good states us ≡ (count_met states us == length us) → (b && are_good states us) ≡ ((if b then suc (count_met states us) else 0) == length (u ∷ us))
      by true e = e ∙ shifted (count_met states us) (length us)
        where
          shifted : (m n : ℕ) → (m == n) ≡ (suc m == suc n)
          shifted m n = elim (cases_eq m n) [
            | inl same ↦ eq-eqb m n same ∙ sym (eq-eqb (suc m) (suc n) (ap suc same))
            | inr ne ↦ ne_eqb m n ne ∙ sym (ne_eqb (suc m) (suc n) (λ e. ne (omega (arith, e))))
          ]
      by false e = sym (ne_eqb 0 (suc (length us)) (λ e. absurd (omega (arith, e))))

  -- the count goes by what is good
  pub met_as : (old new : List (State F)) (us : List ℕ) → ((u : ℕ) → Contains us u → is_good_at (slice_get old u) ≡ is_good_at (slice_get new u)) → count_met old us ≡ count_met new us
  met_as old new [] same = refl
  met_as old new (u ∷ us) same =
      ap (λ b. if b then suc (count_met old us) else 0) (same u (contains_head u us))
      ∙ ap (λ n. if is_good_at (slice_get new u) then suc n else 0) (met_as old new us (λ v h. same v (contains_tail u us v h)))

  pub met_grows : (old new : List (State F)) (us : List ℕ) → ((u : ℕ) → is_good_at (slice_get old u) ≡ true → is_good_at (slice_get new u) ≡ true) → count_met old us ≤ count_met new us
  met_grows old new [] more = omega arith
  met_grows old new (u ∷ us) more = by (is_good_at (slice_get old u)) (more u) (met_grows old new us more)
    where
      by : (b : Bool) → (b ≡ true → is_good_at (slice_get new u) ≡ true) → count_met old us ≤ count_met new us → (if b then suc (count_met old us) else 0) ≤ (if is_good_at (slice_get new u) then suc (count_met new us) else 0)
      by true g le = subst (λ b. suc (count_met old us) ≤ (if b then suc (count_met new us) else 0)) (sym (g refl)) (omega (arith, le))
      by false g le = omega arith

  -- where nothing has begun, no need is met
  pub met_fresh : (needs : List (List ℕ)) (states : List (State F)) → states ≡ map (λ _. Untouched) needs → (us : List ℕ) → count_met states us ≡ 0
  met_fresh needs states e [] = refl
  met_fresh needs states e (u ∷ us) = ap (λ b. if b then suc (count_met states us) else 0) (none needs states e u)
    where
      none : (ns : List (List ℕ)) (ss : List (State F)) → ss ≡ map (λ _. Untouched) ns → (v : ℕ) → is_good_at (slice_get ss v) ≡ false
      none [] [] e v = refl
      none [] (s ∷ ss) e v = absurd (cc)
      none (n ∷ ns) [] e v = absurd (cc)
      none (n ∷ ns) (Untouched ∷ ss) e zero = refl
      none (n ∷ ns) (Begun ∷ ss) e zero = absurd (cc)
      none (n ∷ ns) (Answered a ∷ ss) e zero = absurd (cc)
      none (n ∷ ns) (s ∷ ss) e (suc v) = none ns ss (cc) v

  -- a unit that begins changes nothing of what is good
  pub good_begun : (states : List (State F)) (u v : ℕ) → slice_get states u ≡ Some Untouched → is_good_at (slice_get states v) ≡ is_good_at (slice_get (slice_set states u Begun) v)
  good_begun states u v at = elim (cases_eq u v) [
    | inl same ↦ ap is_good_at (ap (slice_get states) (sym same) ∙ at) ∙ sym (ap is_good_at (ap (slice_get (slice_set states u Begun)) (sym same) ∙ get_set_same states u Untouched Begun at))
    | inr ne ↦ ap is_good_at (sym (get_set_other states u v Begun ne))
  ]

  -- one that was in flight was not good
  pub good_answered : (states : List (State F)) (u v : ℕ) (s : State F) → slice_get states u ≡ Some Begun → is_good_at (slice_get states v) ≡ true → is_good_at (slice_get (slice_set states u s) v) ≡ true
  good_answered states u v s at h = elim (cases_eq u v) [
    | inl same ↦ absurd (false≢true (sym (ap is_good_at (ap (slice_get states) (sym same) ∙ at)) ∙ h))
    | inr ne ↦ ap is_good_at (get_set_other states u v s ne) ∙ h
  ]
