-- Which lines are due after those that have been handed out.
use Rattle.std.proofs.Common.{◌≡◌, ◌++◌, ◌≤◌, ◌+◌, if◌then◌else◌, Bool, true, false, List, [], ◌∷◌, ℕ, zero, suc, Option, Some, None, is_none, is_some, refl, sym, ap, arith, slice_get, drop, length}
use Rattle.std.specs.Prelude.{slice_set}
use Rattle.std.proofs.lemmas.Bool.{false≢true}
use Rattle.pb_run_flight.specs.declared.flight.State.{State}
use Rattle.pb_run_flight.specs.declared.flight.State.TheVariants.{Untouched, Begun, Answered}
use Rattle.pb_run_flight.specs.Table.{due, due_after, count_due, is_finished}
use Rattle.pb_run_flight.specs.Working.{ends_badly}
use Rattle.pb_run_flight.proofs.Lists.{injective, clash}

module _ {F : Type 0} where
  pub due_none : (ss : List (State F)) → due_after 0 ss ≡ due ss
  due_none (Answered a ∷ ss) = ap (λ d. a.lines ++ (if is_none a.fault then d else [])) (due_none ss)
  due_none _ = refl

  -- nothing is due after a bad one
  pub bad_end : (n : ℕ) (ss : List (State F)) → n ≤ count_due ss → ends_badly n ss ≡ true → (due_after n ss ≡ []) × (count_due ss ≡ n) × (is_finished ss ≡ true)
  bad_end zero ss le h = absurd (false≢true h)
  bad_end (suc n) [] le h = absurd (omega (arith, le))
  bad_end (suc n) (Untouched ∷ ss) le h = absurd (omega (arith, le))
  bad_end (suc n) (Begun ∷ ss) le h = absurd (omega (arith, le))
  bad_end (suc zero) (Answered a ∷ ss) le h = by a.fault h
    where
      by : (f : Option F) → is_some f ≡ true → ((if is_none f then due_after 0 ss else []) ≡ []) × (suc (if is_none f then count_due ss else 0) ≡ 1) × ((if is_none f then is_finished ss else true) ≡ true)
      by None t = absurd (false≢true t)
      by (Some f) t = (refl, refl, refl)
  bad_end (suc (suc n)) (Answered a ∷ ss) le h = by a.fault (λ l. bad_end (suc n) ss l h) le
    where
      by : (f : Option F) → (suc n ≤ count_due ss → (due_after (suc n) ss ≡ []) × (count_due ss ≡ suc n) × (is_finished ss ≡ true)) → suc (suc n) ≤ suc (if is_none f then count_due ss else 0)
          → ((if is_none f then due_after (suc n) ss else []) ≡ []) × (suc (if is_none f then count_due ss else 0) ≡ suc (suc n)) × ((if is_none f then is_finished ss else true) ≡ true)
      by None more l = let (x, y, z) = more (omega (arith, l)) in (x, ap suc y, z)
      by (Some f) more l = absurd (omega (arith, l))

  -- after good ones the rest is
  pub good_end : (n : ℕ) (ss : List (State F)) → n ≤ count_due ss → ends_badly n ss ≡ false → (due (drop n ss) ≡ due_after n ss) × (n + count_due (drop n ss) ≡ count_due ss) × (is_finished (drop n ss) ≡ is_finished ss)
  good_end zero ss le h = (sym (due_none ss), omega arith, refl)
  good_end (suc n) [] le h = absurd (omega (arith, le))
  good_end (suc n) (Untouched ∷ ss) le h = absurd (omega (arith, le))
  good_end (suc n) (Begun ∷ ss) le h = absurd (omega (arith, le))
  good_end (suc zero) (Answered a ∷ ss) le h = by a.fault h
    where
      by : (f : Option F) → is_some f ≡ false → (due ss ≡ (if is_none f then due_after 0 ss else [])) × (1 + count_due ss ≡ suc (if is_none f then count_due ss else 0)) × (is_finished ss ≡ (if is_none f then is_finished ss else true))
      by None t = (sym (due_none ss), omega arith, refl)
      by (Some f) t = absurd (false≢true (sym t))
  good_end (suc (suc n)) (Answered a ∷ ss) le h = by a.fault (λ l. good_end (suc n) ss l h) le
    where
      by : (f : Option F) → (suc n ≤ count_due ss → (due (drop (suc n) ss) ≡ due_after (suc n) ss) × (suc n + count_due (drop (suc n) ss) ≡ count_due ss) × (is_finished (drop (suc n) ss) ≡ is_finished ss)) → suc (suc n) ≤ suc (if is_none f then count_due ss else 0)
          → (due (drop (suc n) ss) ≡ (if is_none f then due_after (suc n) ss else [])) × (suc (suc n) + count_due (drop (suc n) ss) ≡ suc (if is_none f then count_due ss else 0)) × (is_finished (drop (suc n) ss) ≡ (if is_none f then is_finished ss else true))
      by None more l = let (x, y, z) = more (omega (arith, l)) in (x, omega (arith, y), z)
      by (Some f) more l = absurd (omega (arith, l))

  pub count_within : (ss : List (State F)) → count_due ss ≤ length ss
  count_within [] = omega arith
  count_within (Untouched ∷ ss) = omega arith
  count_within (Begun ∷ ss) = omega arith
  count_within (Answered a ∷ ss) = by (is_none a.fault) (count_within ss)
    where
      by : (b : Bool) → count_due ss ≤ length ss → suc (if b then count_due ss else 0) ≤ suc (length ss)
      by true le = omega (arith, le)
      by false le = omega arith

  -- what is due stays so where another unit begins
  pub due_begun : (states : List (State F)) (u : ℕ) → slice_get states u ≡ Some Untouched → (due (slice_set states u Begun) ≡ due states) × (count_due (slice_set states u Begun) ≡ count_due states)
  due_begun [] u at = absurd (clash at)
  due_begun (Untouched ∷ ss) zero at = (refl, refl)
  due_begun (Begun ∷ ss) zero at = (refl, refl)
  due_begun (Answered a ∷ ss) zero at = absurd (other (injective at))
    where
      other : Answered a ≡ Untouched → ⊥
      other e = cc
  due_begun (Untouched ∷ ss) (suc u) at = (refl, refl)
  due_begun (Begun ∷ ss) (suc u) at = (refl, refl)
  due_begun (Answered a ∷ ss) (suc u) at =
      let (x, y) = due_begun ss u at in
      (ap (λ d. a.lines ++ (if is_none a.fault then d else [])) x, ap (λ n. suc (if is_none a.fault then n else 0)) y)

  -- where units are missing a beginning leaves them missing
  pub missing_begun : (states : List (State F)) (u : ℕ) → is_finished states ≡ false → is_finished (slice_set states u Begun) ≡ false
  missing_begun [] u missing = absurd (false≢true (sym missing))
  missing_begun (Untouched ∷ ss) zero missing = refl
  missing_begun (Untouched ∷ ss) (suc u) missing = refl
  missing_begun (Begun ∷ ss) zero missing = refl
  missing_begun (Begun ∷ ss) (suc u) missing = refl
  missing_begun (Answered a ∷ ss) zero missing = refl
  missing_begun (Answered a ∷ ss) (suc u) missing = by (is_none a.fault) missing (λ more. missing_begun ss u more)
    where
      by : (b : Bool) → (if b then is_finished ss else true) ≡ false → (is_finished ss ≡ false → is_finished (slice_set ss u Begun) ≡ false) → (if b then is_finished (slice_set ss u Begun) else true) ≡ false
      by true more rest = rest more
      by false more rest = absurd (false≢true (sym more))

  -- and grows where a unit in flight answers
  pub count_grows : (states : List (State F)) (u : ℕ) (s : State F) → slice_get states u ≡ Some Begun → count_due states ≤ count_due (slice_set states u s)
  count_grows [] u s at = absurd (clash at)
  count_grows (Untouched ∷ ss) zero s at = omega arith
  count_grows (Begun ∷ ss) zero s at = omega arith
  count_grows (Answered a ∷ ss) zero s at = absurd (other (injective at))
    where
      other : Answered a ≡ Begun → ⊥
      other e = cc
  count_grows (Untouched ∷ ss) (suc u) s at = omega arith
  count_grows (Begun ∷ ss) (suc u) s at = omega arith
  count_grows (Answered a ∷ ss) (suc u) s at = by (is_none a.fault) (count_grows ss u s at)
    where
      by : (b : Bool) → count_due ss ≤ count_due (slice_set ss u s) → suc (if b then count_due ss else 0) ≤ suc (if b then count_due (slice_set ss u s) else 0)
      by true le = omega (arith, le)
      by false le = omega arith
