-- What things give by their indices.
use Rattle.std.proofs.Common.{◌≡◌, inl, inr, ℕ, zero, suc, ◌+◌, Bool, true, false, List, [], ◌∷◌, Contains, Some, refl, sym, subst, arith, if◌then◌else◌}
use Rattle.std.specs.Prelude.{slice_get}
use Rattle.std.proofs.lemmas.List.Elements.{Contains-append_left, Contains-append_right, Contains-append_cases}
use Rattle.pb_graph.specs.Placed.{placed}
use Rattle.pb_graph.proofs.Membership.{none}

-- one of the things, at its index, gives it
pub record GivenAt {A B : Type 0} (f : ℕ → A → List B) (n : ℕ) (xs : List A) (y : B) : Type 0 where
  pub index : ℕ
  pub thing : A
  pub at : slice_get xs index ≡ Some thing
  pub gives : Contains (f (n + index) thing) y

module _ {A B : Type 0} (f : ℕ → A → List B) where
  placed_after : (n : ℕ) (xs : List A) (y : B) → Contains (placed f n xs) y → GivenAt f n xs y
  placed_after n [] y is = absurd (none y is)
  placed_after n (x ∷ xs) y is = elim (Contains-append_cases (f n x) (placed f (n + 1) xs) y is) [
    | inl here ↦ (let e : n ≡ n + 0 = omega arith in record { index = 0; thing = x; at = refl; gives = subst (λ m. Contains (f m x) y) e here })
    | inr there ↦
        (let h = placed_after (n + 1) xs y there in
        let e : (n + 1) + h.index ≡ n + suc h.index = omega arith in
        record { index = suc h.index; thing = h.thing; at = h.at; gives = subst (λ m. Contains (f m h.thing) y) e h.gives })
  ]

  placed_before : (n : ℕ) (xs : List A) (k : ℕ) (x : A) (m : ℕ) (y : B) → slice_get xs k ≡ Some x → m ≡ n + k → Contains (f m x) y → Contains (placed f n xs) y
  placed_before n [] k x m y at is gives = cc
  placed_before n (w ∷ xs) zero x m y at is gives =
      let e : m ≡ n = omega arith in
      let same : x ≡ w = cc in
      Contains-append_left (f n w) (placed f (n + 1) xs) y (subst (λ v. Contains (f n v) y) same (subst (λ k. Contains (f k x) y) e gives))
  placed_before n (w ∷ xs) (suc k) x m y at is gives =
      Contains-append_right (f n w) (placed f (n + 1) xs) y (placed_before (n + 1) xs k x m y at (omega arith) gives)

  pub placed_from : (xs : List A) (y : B) → Contains (placed f 0 xs) y → (k : ℕ) × (x : A) × (slice_get xs k ≡ Some x) × Contains (f k x) y
  placed_from xs y is =
      let h = placed_after 0 xs y is in
      let e : 0 + h.index ≡ h.index = omega arith in
      (h.index, h.thing, h.at, subst (λ m. Contains (f m h.thing) y) e h.gives)

  pub placed_to : (xs : List A) (k : ℕ) (x : A) (y : B) → slice_get xs k ≡ Some x → Contains (f k x) y → Contains (placed f 0 xs) y
  placed_to xs k x y at gives = placed_before 0 xs k x k y at (omega arith) gives

-- what stands under a test
pub where_true : {B : Type 0} (b : Bool) (xs : List B) (y : B) → Contains (if b then xs else []) y → (b ≡ true) × Contains xs y
where_true true xs y is = (refl, is)
where_true false xs y is = absurd (none y is)

pub where_false : {B : Type 0} (b : Bool) (xs : List B) (y : B) → Contains (if b then [] else xs) y → (b ≡ false) × Contains xs y
where_false true xs y is = absurd (none y is)
where_false false xs y is = (refl, is)

pub at_true : {B : Type 0} (b : Bool) (xs : List B) (y : B) → b ≡ true → Contains xs y → Contains (if b then xs else []) y
at_true b xs y on is = subst (λ c. Contains (if c then xs else []) y) (sym on) is

pub at_false : {B : Type 0} (b : Bool) (xs : List B) (y : B) → b ≡ false → Contains xs y → Contains (if b then [] else xs) y
at_false b xs y off is = subst (λ c. Contains (if c then [] else xs) y) (sym off) is
