-- The first index of a list at which a test passes, where it is known by what stands there.
use Rattle.std.proofs.Common.{◌≡◌, ◌↔◌, ◌∙◌, ◌+◌, ℕ, zero, suc, Bool, true, false, cond, List, [], ◌∷◌, Option, Some, None, slice_get, refl, sym, ap, subst, arith}
use Rattle.std.proofs.lemmas.Iterator.Adapters.{position_from-zero}
use Rattle.std.specs.List.{position, position_from}

-- two indices that are the same wherever one is
one_index : (a b : Option ℕ) → ((n : ℕ) → (a ≡ Some n) → (b ≡ Some n)) → ((n : ℕ) → (b ≡ Some n) → (a ≡ Some n)) → a ≡ b
one_index None None onto back = refl
one_index None (Some n) onto back = back n refl
one_index (Some n) b onto back = sym (onto n refl)

module _ {A : Type 0} (test : A → Bool) where
  -- what passes at an index
  abbrev Passes : List A → ℕ → Type 0
  Passes xs n = (x : A) × (slice_get xs n ≡ Some x) × (test x ≡ true)

  passes : (i : ℕ) (xs : List A) (n : ℕ) → position_from test i xs ≡ Some n → (k : ℕ) × (n ≡ i + k) × Passes xs k
  passes i [] n is = cc
  passes i (x ∷ xs) n is = by (test x) refl is (passes (i + 1) xs n)
    where
      by : (b : Bool) → test x ≡ b → cond b (Some i) (position_from test (i + 1) xs) ≡ Some n → (position_from test (i + 1) xs ≡ Some n → (k : ℕ) × (n ≡ (i + 1) + k) × Passes xs k)
          → (k : ℕ) × (n ≡ i + k) × Passes (x ∷ xs) k
      by true at h later = let same : i ≡ n = cc in let zero_on : i ≡ i + 0 = omega arith in (zero, sym same ∙ zero_on, (x, refl, at))
      by false at h later = let r = later h in let on : (i + 1) + r.0 ≡ i + suc r.0 = omega arith in (suc r.0, r.1 ∙ on, r.2)

  passed : (i : ℕ) (xs : List A) (k : ℕ) → Passes xs k → (n : ℕ) × (position_from test i xs ≡ Some n)
  passed i [] k there = let wrong = there.1 in cc
  passed i (x ∷ xs) zero there =
      let first : x ≡ there.0 = cc (there.1) in
      let at : test x ≡ true = ap test first ∙ there.2 in
      (i, ap (λ b. cond b (Some i) (position_from test (i + 1) xs)) at)
  passed i (x ∷ xs) (suc k) there = by (test x) (passed (i + 1) xs k there)
    where
      by : (b : Bool) → (n : ℕ) × (position_from test (i + 1) xs ≡ Some n) → (n : ℕ) × (cond b (Some i) (position_from test (i + 1) xs) ≡ Some n)
      by true later = (i, refl)
      by false later = later

  -- an index that is one where the test passes, and is there where one is
  pub position_is : (o : Option ℕ) (xs : List A) → ((n : ℕ) → (o ≡ Some n) ↔ Passes xs n) → o ≡ position test xs
  position_is o xs is = one_index o (position_from test 0 xs) onto back ∙ sym (position_from-zero test xs)
    where
      back : (n : ℕ) → position_from test 0 xs ≡ Some n → o ≡ Some n
      back n at = let r = passes 0 xs n at in let same : n ≡ r.0 = r.1 ∙ (omega arith) in (is n).1 (subst (Passes xs) (sym same) r.2)

      onto : (n : ℕ) → o ≡ Some n → position_from test 0 xs ≡ Some n
      onto n at = let r = passed 0 xs n ((is n).0 at) in let same : Some r.0 ≡ Some n = sym (back r.0 r.1) ∙ at in r.1 ∙ same
