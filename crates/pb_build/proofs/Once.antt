-- Lists in order that have the same elements are the same.
use Rattle.std.proofs.Common.{◌≡◌, ◌∙◌, ◌↔◌, ◌⊎◌, ◌<◌, ℕ, zero, suc, List, [], ◌∷◌, Contains, AllPairs, refl, sym, ap₂, subst, inl, inr, arith, length}
use Rattle.std.specs.Cmp.Lexicographic.{slice_cmp}
use Rattle.std.specs.List.Sorted.{IsStrictlySortedBy, IsStrictlyIncreasing}
use Rattle.std.specs.Ordering.{nat_cmp}
use Rattle.std.specs.declared.cmp.Ordering.TheVariants.{Less, Equal}
use Rattle.std.proofs.lemmas.Cmp.{nat_list_cmp_total, tied_itself}
use Rattle.std.proofs.lemmas.List.Kept.{AllPairs-from_increasing}
use Rattle.std.proofs.lemmas.Map.Keys.{Less-from_sorted}

module _ {X : Type 0} where
  -- an element of a list is its first or one of the rest
  pub first_or_rest : (x : X) (xs : List X) (q : X) → Contains (x ∷ xs) q → (q ≡ x) ⊎ Contains xs q
  first_or_rest x xs q (zero, within, at) = inl (sym at)
  first_or_rest x xs q (suc k, within, at) = let below : k < length xs = omega arith in inr (k, below, at)

  pub at_first : (x : X) (xs : List X) → Contains (x ∷ xs) x
  at_first x xs = let below : 0 < length (x ∷ xs) = omega arith in (0, below, refl)

  pub in_rest : (x : X) (xs : List X) (q : X) → Contains xs q → Contains (x ∷ xs) q
  in_rest x xs q (k, within, at) = let below : suc k < length (x ∷ xs) = omega arith in (suc k, below, at)

  -- an order in which nothing comes before itself
  module _ (Before : X → X → Type 0) (never : (x : X) → Before x x → ⊥) (onward : (x y z : X) → Before x y → Before y z → Before x z) where
    pub first_before : (x : X) (xs : List X) → AllPairs Before (x ∷ xs) → (q : X) → Contains xs q → Before x q
    first_before x xs pairs q (k, within, at) = let last : suc k < length (x ∷ xs) = omega arith in let first : 0 < suc k = omega arith in subst (Before x) at (pairs 0 (suc k) q first last)

    pub rest_ordered : (x : X) (xs : List X) → AllPairs Before (x ∷ xs) → AllPairs Before xs
    rest_ordered x xs pairs i j d lt within = let later : suc i < suc j = omega arith in let last : suc j < length (x ∷ xs) = omega arith in pairs (suc i) (suc j) d later last

    same_firsts : (x : X) (xs : List X) (y : X) (ys : List X) → AllPairs Before (x ∷ xs) → AllPairs Before (y ∷ ys) → (x ≡ y) ⊎ Contains ys x → (y ≡ x) ⊎ Contains xs y → x ≡ y
    same_firsts x xs y ys one other (inl is) back = is
    same_firsts x xs y ys one other (inr more) (inl is) = sym is
    same_firsts x xs y ys one other (inr more) (inr less) = absurd (never x (onward x y x (first_before x xs one y less) (first_before y ys other x more)))

    rest_in : (x : X) (xs ys : List X) → AllPairs Before (x ∷ xs) → ((q : X) → Contains (x ∷ xs) q → Contains (x ∷ ys) q) → (q : X) → Contains xs q → Contains ys q
    rest_in x xs ys order in' q has = by (first_or_rest x ys q (in' q (in_rest x xs q has)))
      where
        by : (q ≡ x) ⊎ Contains ys q → Contains ys q
        by (inl is) = absurd (never x (subst (Before x) is (first_before x xs order q has)))
        by (inr more) = more

    pub same_ordered : (xs ys : List X) → AllPairs Before xs → AllPairs Before ys → ((q : X) → Contains xs q → Contains ys q) → ((q : X) → Contains ys q → Contains xs q) → xs ≡ ys
    same_ordered [] [] one other to from = refl
    same_ordered [] (y ∷ ys) one other to from = let (k, within, at) = from y (at_first y ys) in absurd (omega arith)
    same_ordered (x ∷ xs) [] one other to from = let (k, within, at) = to x (at_first x xs) in absurd (omega arith)
    same_ordered (x ∷ xs) (y ∷ ys) one other to from =
        let is = same_firsts x xs y ys one other (first_or_rest y ys x (to x (at_first x xs))) (first_or_rest x xs y (from y (at_first y ys))) in
        let other' : AllPairs Before (x ∷ ys) = subst (λ z. AllPairs Before (z ∷ ys)) (sym is) other in
        let to' : (q : X) → Contains (x ∷ xs) q → Contains (x ∷ ys) q = λ q has. subst (λ z. Contains (z ∷ ys) q) (sym is) (to q has) in
        let from' : (q : X) → Contains (x ∷ ys) q → Contains (x ∷ xs) q = λ q has. from q (subst (λ z. Contains (z ∷ ys) q) is has) in
        ap₂ (λ z zs. z ∷ zs) is (same_ordered xs ys (rest_ordered x xs one) (rest_ordered x ys other') (rest_in x xs ys one to') (rest_in x ys xs other' from'))

-- nothing is below itself
pub text_never : (x : List ℕ) → slice_cmp nat_cmp x x ≡ Less → ⊥
text_never x less = let no : Less ≡ Equal = sym less ∙ tied_itself nat_list_cmp_total x in cc

-- texts in byte order
pub same_texts : (xs ys : List (List ℕ)) → IsStrictlySortedBy (slice_cmp nat_cmp) xs → IsStrictlySortedBy (slice_cmp nat_cmp) ys → ((q : List ℕ) → Contains xs q ↔ Contains ys q) → xs ≡ ys
same_texts xs ys one other same =
    same_ordered (λ x y. slice_cmp nat_cmp x y ≡ Less) text_never nat_list_cmp_total.trans xs ys (λ i j d lt within. Less-from_sorted (slice_cmp nat_cmp) xs i j d one lt within)
    (λ i j d lt within. Less-from_sorted (slice_cmp nat_cmp) ys i j d other lt within) (λ q. (same q).0) (λ q. (same q).1)

-- numbers that rise
pub same_numbers : (xs ys : List ℕ) → IsStrictlyIncreasing xs → IsStrictlyIncreasing ys → ((q : ℕ) → Contains xs q → Contains ys q) → ((q : ℕ) → Contains ys q → Contains xs q) → xs ≡ ys
same_numbers xs ys one other to from =
    same_ordered (λ x y. x < y) (λ x lt. omega (arith, lt)) (λ x y z a b. omega (arith, a, b)) xs ys (AllPairs-from_increasing xs one) (AllPairs-from_increasing ys other) to from
