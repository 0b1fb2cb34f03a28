-- Lists, by place.
use Rattle.std.proofs.Common.{◌≡◌, ◌∙◌, ◌&&◌, ◌<◌, ◌≤◌, ◌⊎◌, inl, inr, Bool, true, false, List, [], ◌∷◌, ℕ, zero, suc, Some, None, refl, ap, subst, arith, slice_get, drop, map, length, Contains}
use Rattle.std.specs.Prelude.{slice_set, slice_index}
use Rattle.std.proofs.lemmas.Bool.{cases_eq, false≢true}
use Rattle.std.proofs.lemmas.Option.{slice_get-get_or, get_or_from_slice_get, slice_get_within}

pub injective : {A : Type 0} {x y : A} → Some x ≡ Some y → x ≡ y
injective e = cc

pub clash : {A : Type 0} {a : A} → None ≡ Some a → ⊥
clash e = cc

pub get_set_same : {X : Type 0} (xs : List X) (i : ℕ) (x y : X) → slice_get xs i ≡ Some x → slice_get (slice_set xs i y) i ≡ Some y
get_set_same [] i x y at = cc
get_set_same (z ∷ xs) zero x y at = refl
get_set_same (z ∷ xs) (suc i) x y at = get_set_same xs i x y at

pub get_set_other : {X : Type 0} (xs : List X) (i j : ℕ) (y : X) → (i ≡ j → ⊥) → slice_get (slice_set xs i y) j ≡ slice_get xs j
get_set_other [] i j y ne = refl
get_set_other (z ∷ xs) zero zero y ne = absurd (ne refl)
get_set_other (z ∷ xs) zero (suc j) y ne = refl
get_set_other (z ∷ xs) (suc i) zero y ne = refl
get_set_other (z ∷ xs) (suc i) (suc j) y ne = get_set_other xs i j y (λ e. ne (ap suc e))

pub index_set_same : (xs : List ℕ) (i y : ℕ) → i < length xs → slice_index (slice_set xs i y) i ≡ y
index_set_same [] i y lt = absurd (omega (arith, lt))
index_set_same (z ∷ xs) zero y lt = refl
index_set_same (z ∷ xs) (suc i) y lt = index_set_same xs i y (omega (arith, lt))

pub index_set_other : (xs : List ℕ) (i j y : ℕ) → (i ≡ j → ⊥) → slice_index (slice_set xs i y) j ≡ slice_index xs j
index_set_other [] i j y ne = refl
index_set_other (z ∷ xs) zero zero y ne = absurd (ne refl)
index_set_other (z ∷ xs) zero (suc j) y ne = refl
index_set_other (z ∷ xs) (suc i) zero y ne = refl
index_set_other (z ∷ xs) (suc i) (suc j) y ne = index_set_other xs i j y (λ e. ne (ap suc e))

pub length_set : {X : Type 0} (xs : List X) (i : ℕ) (y : X) → length (slice_set xs i y) ≡ length xs
length_set [] i y = refl
length_set (x ∷ xs) zero y = refl
length_set (x ∷ xs) (suc i) y = ap suc (length_set xs i y)

pub map_same : {X Y : Type 0} (f g : X → Y) (xs : List X) → ((x : X) → f x ≡ g x) → map f xs ≡ map g xs
map_same f g [] each = refl
map_same f g (x ∷ xs) each = let e : f x ≡ g x = each x in let es : map f xs ≡ map g xs = map_same f g xs each in cc

pub and_left : (b c : Bool) → b && c ≡ true → b ≡ true
and_left true c h = refl
and_left false c h = absurd (false≢true h)

pub and_right : (b c : Bool) → b && c ≡ true → c ≡ true
and_right true c h = h
and_right false c h = absurd (false≢true h)

pub both : (b c : Bool) → b ≡ true → c ≡ true → b && c ≡ true
both true c x y = y
both false c x y = absurd (false≢true x)

-- What a list contains.

pub contains_none : {X : Type 0} (v : X) → Contains [] v → ⊥
contains_none v (k, lt, at) = omega (arith, lt)

pub contains_head : {X : Type 0} (x : X) (xs : List X) → Contains (x ∷ xs) x
contains_head x xs = (0, omega arith, refl)

pub contains_tail : {X : Type 0} (x : X) (xs : List X) (v : X) → Contains xs v → Contains (x ∷ xs) v
contains_tail x xs v (k, lt, at) = (suc k, omega (arith, lt), at)

pub contains_cases : {X : Type 0} (x : X) (xs : List X) (v : X) → Contains (x ∷ xs) v → (x ≡ v) ⊎ Contains xs v
contains_cases x xs v (zero, lt, at) = inl at
contains_cases x xs v (suc k, lt, at) = inr (k, omega arith, at)

pub contains_at : {X : Type 0} (xs : List X) (v : X) → Contains xs v → (k : ℕ) × (slice_get xs k ≡ Some v)
contains_at xs v (k, lt, at) = (k, slice_get-get_or xs k v lt ∙ ap Some at)

pub at_contains : {X : Type 0} (xs : List X) (k : ℕ) (v : X) → slice_get xs k ≡ Some v → Contains xs v
at_contains xs k v at = (k, slice_get_within xs k v at, get_or_from_slice_get xs k v v at)

-- a list contains a number or does not
pub is_among : (us : List ℕ) (u : ℕ) → Contains us u ⊎ (Contains us u → ⊥)
is_among [] u = inr (contains_none u)
is_among (v ∷ us) u = elim (cases_eq v u) [
  | inl same ↦ inl (subst (Contains (v ∷ us)) same (contains_head v us))
  | inr ne ↦ elim (is_among us u) [
    | inl more ↦ inl (contains_tail v us u more)
    | inr none ↦ inr (λ h. elim (contains_cases v us u h) [ inl e ↦ ne e | inr more ↦ none more ])
  ]
]

pub drop_past : {X : Type 0} (xs : List X) (k : ℕ) → length xs ≤ k → drop k xs ≡ []
drop_past [] zero le = refl
drop_past [] (suc k) le = refl
drop_past (x ∷ xs) zero le = absurd (omega (arith, le))
drop_past (x ∷ xs) (suc k) le = drop_past xs k (omega (arith, le))
