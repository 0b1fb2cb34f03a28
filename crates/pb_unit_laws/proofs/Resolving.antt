-- Features of one selection are one.
use Rattle.std.proofs.Common.{◌≡◌, ◌∙◌, inl, inr, ℕ, List, [], ◌∷◌, Contains, Less, Equal, refl, sym, ap, subst}
use Rattle.std.proofs.lemmas.Cmp.{nat_list_cmp_total, tied_itself}
use Rattle.std.specs.Cmp.{both_ways}
use Rattle.std.specs.Cmp.Lexicographic.{slice_cmp}
use Rattle.std.specs.List.{AllByRecursion}
use Rattle.std.specs.List.Sorted.{IsStrictlySortedBy}
use Rattle.std.specs.Ordering.{nat_cmp}
use Rattle.pb_graph.proofs.Membership.{none, head, tail, cases}
use Rattle.pb_workspace_types.specs.Settled.{IsAscending}
use Rattle.pb_feature_types.specs.Features.{features_at, is_active, is_enabled}
use Rattle.pb_unit_laws.specs.Features.{FeaturesAreOne}

abbrev pub Before : List ℕ → List ℕ → Type 0
Before a b = slice_cmp nat_cmp a b ≡ Less

pub never : (x : List ℕ) → Before x x → ⊥
never x less = let no : Less ≡ Equal = sym less ∙ tied_itself nat_list_cmp_total x in cc

all_in : (x : List ℕ) (ys : List (List ℕ)) (y : List ℕ) → AllByRecursion (Before x) ys → Contains ys y → Before x y
all_in x [] y all there = absurd (none y there)
all_in x (z ∷ ys) y all there = elim (cases z ys y there) [ inl here ↦ subst (Before x) here all.0 | inr later ↦ all_in x ys y all.1 later ]

first_same : (x y : List ℕ) (xs ys : List (List ℕ)) → IsAscending (x ∷ xs) → IsAscending (y ∷ ys) → Contains (y ∷ ys) x → Contains (x ∷ xs) y → x ≡ y
unfolding IsStrictlySortedBy
first_same x y xs ys up down into back = elim (cases y ys x into) [
  | inl here ↦ sym here
  | inr later ↦ (elim (cases x xs y back) [ inl there ↦ there | inr behind ↦ absurd (never x (nat_list_cmp_total.trans x y x (all_in x xs y up.0 behind) (all_in y ys x down.0 later))) ])
]

without : (x : List ℕ) (xs ys : List (List ℕ)) → IsAscending (x ∷ xs) → ((z : List ℕ) → Contains (x ∷ xs) z → Contains (x ∷ ys) z) → (z : List ℕ) → Contains xs z → Contains ys z
unfolding IsStrictlySortedBy
without x xs ys up into z there = elim (cases x ys z (into z (tail x xs z there))) [ inl same ↦ absurd (never x (subst (Before x) (sym same) (all_in x xs z up.0 there))) | inr later ↦ later ]

pub one_list : (xs ys : List (List ℕ)) → IsAscending xs → IsAscending ys → ((z : List ℕ) → Contains xs z → Contains ys z) → ((z : List ℕ) → Contains ys z → Contains xs z) → xs ≡ ys
unfolding IsStrictlySortedBy
one_list [] [] up down into back = refl
one_list [] (y ∷ ys) up down into back = absurd (none y (back y (head y ys)))
one_list (x ∷ xs) [] up down into back = absurd (none x (into x (head x xs)))
one_list (x ∷ xs) (y ∷ ys) up down into back =
    let same = first_same x y xs ys up down (into x (head x xs)) (back y (head y ys)) in
    let down' : IsAscending (x ∷ ys) = subst (λ z. IsAscending (z ∷ ys)) (sym same) down in
    let into' : (z : List ℕ) → Contains (x ∷ xs) z → Contains (x ∷ ys) z = λ z has. subst (λ w. Contains (w ∷ ys) z) (sym same) (into z has) in
    let back' : (z : List ℕ) → Contains (x ∷ ys) z → Contains (x ∷ xs) z = λ z has. back z (subst (λ w. Contains (w ∷ ys) z) same has) in
    ap (λ z. z ∷ xs) same ∙ ap (λ zs. y ∷ zs) (one_list xs ys up.1 down.1 (without x xs ys up into') (without x ys xs down' back'))

pub features_are_one : FeaturesAreOne
features_are_one ws selection f g one other p s = (
  both_ways (is_active f p s) (is_active g p s) (λ t. (other.active p s).1 ((one.active p s).0 t)) (λ t. (one.active p s).1 ((other.active p s).0 t)),
  one_list (features_at f p s) (features_at g p s) (one.order p s) (other.order p s) (λ z has. (other.has p s z).1 ((one.has p s z).0 has)) (λ z has. (one.has p s z).1 ((other.has p s z).0 has)),
  λ n. both_ways (is_enabled f p s n) (is_enabled g p s n) (λ t. (other.enabled p s n).1 ((one.enabled p s n).0 t)) (λ t. (one.enabled p s n).1 ((other.enabled p s n).0 t)),
)
