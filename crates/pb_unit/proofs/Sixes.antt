-- The units that a plan may have, by their numbers.
use Rattle.std.proofs.Common.{◌≡◌, ◌⊎◌, inl, inr, ◌+◌, ◌*◌, ℕ, zero, suc, ◌<◌, Bool, true, false, List, [], ◌∷◌, ◌++◌, length, refl, sym, ap, subst, ◌∙◌, arith, Some, slice_get}
use Rattle.std.proofs.lemmas.Bool.{false≢true}
use Rattle.pb_graph.specs.Placed.{placed}
use Rattle.pb_workspace_types.specs.declared.package.Side.{Side}
use Rattle.pb_workspace_types.specs.declared.package.Side.TheVariants.{Target, Host}
use Rattle.pb_workspace_types.specs.declared.package.Package.{Package}
use Rattle.pb_unit.specs.declared.unit.Unit.{Unit}
use Rattle.pb_unit.specs.declared.unit.What.{What}
use Rattle.pb_unit.specs.declared.unit.What.TheVariants.{Lib, Bin, Script, Run}
use Rattle.pb_unit.specs.Units.{unit}
use Rattle.pb_unit.specs.Drawing.{slot, number, six, fixed}

-- no binary
abbrev pub is_fixed : What → Bool
is_fixed (Bin name) = false
is_fixed _ = true

-- Two lists, one behind the other.

pub get_left : {X : Type 0} (xs ys : List X) (i : ℕ) (x : X) → slice_get xs i ≡ Some x → slice_get (xs ++ ys) i ≡ Some x
get_left [] ys i x at = cc
get_left (z ∷ xs) ys zero x at = at
get_left (z ∷ xs) ys (suc i) x at = get_left xs ys i x at

pub get_right : {X : Type 0} (xs ys : List X) (i : ℕ) → slice_get (xs ++ ys) (length xs + i) ≡ slice_get ys i
get_right [] ys i = let e : 0 + i ≡ i = omega arith in ap (slice_get ys) e
get_right (z ∷ xs) ys i = let e : length (z ∷ xs) + i ≡ suc (length xs + i) = omega arith in ap (slice_get (z ∷ xs ++ ys)) e ∙ get_right xs ys i

-- one of the first, or one of the second
pub get_cases : {X : Type 0} (xs ys : List X) (i : ℕ) (x : X) → slice_get (xs ++ ys) i ≡ Some x → (slice_get xs i ≡ Some x) ⊎ ((j : ℕ) × (i ≡ length xs + j) × (slice_get ys j ≡ Some x))
get_cases [] ys i x at = inr (i, omega arith, at)
get_cases (z ∷ xs) ys zero x at = inl at
get_cases (z ∷ xs) ys (suc i) x at = elim (get_cases xs ys i x at) [
  | inl here ↦ inl here
  | inr there ↦ inr (there.0, omega (arith, there.1), there.2)
]

-- Six units a package.

slot_at : (p : ℕ) (owner : Package) (rest : List Unit) (s : Side) (w : What) → is_fixed w ≡ true → slice_get (six p owner ++ rest) (slot w s) ≡ Some (unit p s w)
slot_at p owner rest Target Lib h = refl
slot_at p owner rest Host Lib h = refl
slot_at p owner rest s (Bin name) h = absurd (false≢true h)
slot_at p owner rest Target Script h = refl
slot_at p owner rest Host Script h = refl
slot_at p owner rest Target Run h = refl
slot_at p owner rest Host Run h = refl

six_on : (n : ℕ) (p : Package) (rest : List Unit) (i : ℕ) → slice_get (six n p ++ rest) (suc (suc (suc (suc (suc (suc i)))))) ≡ slice_get rest i
six_on n p rest i = refl

fixed_from : (n : ℕ) (ps : List Package) (k : ℕ) (s : Side) (w : What) → is_fixed w ≡ true → k < length ps → slice_get (placed six n ps) (k * 6 + slot w s) ≡ Some (unit (n + k) s w)
fixed_from n [] k s w h lt = absurd (omega arith)
fixed_from n (p ∷ ps) zero s w h lt =
    let e : n + 0 ≡ n = omega arith in
    let z : 0 * 6 + slot w s ≡ slot w s = omega arith in
    ap (slice_get (placed six n (p ∷ ps))) z ∙ slot_at n p (placed six (n + 1) ps) s w h ∙ ap (λ m. Some (unit m s w)) (sym e)
fixed_from n (p ∷ ps) (suc k) s w h lt =
    let e : suc k * 6 + slot w s ≡ suc (suc (suc (suc (suc (suc (k * 6 + slot w s)))))) = omega arith in
    let f : (n + 1) + k ≡ n + suc k = omega arith in
    ap (slice_get (placed six n (p ∷ ps))) e ∙ fixed_from (n + 1) ps k s w h (omega arith) ∙ ap (λ m. Some (unit m s w)) f

-- the unit of a package at its number
pub fixed_at : (ps : List Package) (p : ℕ) (s : Side) (w : What) → is_fixed w ≡ true → p < length ps → slice_get (fixed ps) (number (unit p s w)) ≡ Some (unit p s w)
fixed_at ps p s w h lt = let e : 0 + p ≡ p = omega arith in fixed_from 0 ps p s w h lt ∙ ap (λ m. Some (unit m s w)) e

-- what stands at a number
pub record IsAt (count i : ℕ) (u : Unit) : Type 0 where
  pub kind : is_fixed u.what ≡ true
  pub owner : u.package < count
  pub number : number u ≡ i

record IsFrom (n count i : ℕ) (u : Unit) : Type 0 where
  pub kind : is_fixed u.what ≡ true
  pub index : ℕ
  pub owner : u.package ≡ n + index
  pub inside : index < count
  pub at : index * 6 + slot u.what u.side ≡ i

some_same : {A : Type 0} (x y : A) → Some x ≡ Some y → x ≡ y
some_same x y e = cc

here_at : (n count i : ℕ) (s : Side) (w : What) (u : Unit) → is_fixed w ≡ true → 0 < count → slot w s ≡ i → Some (unit n s w) ≡ Some u → IsFrom n count i u
here_at n count i s w u h lt is e = subst (IsFrom n count i) (some_same (unit n s w) u e) (record { kind = h; index = 0; owner = omega arith; inside = lt; at = omega (arith, is) })

fixed_back : (n : ℕ) (ps : List Package) (i : ℕ) (u : Unit) → slice_get (placed six n ps) i ≡ Some u → IsFrom n (length ps) i u
fixed_back n [] i u at = cc
fixed_back n (p ∷ ps) zero u at = here_at n (length (p ∷ ps)) 0 Target Lib u refl (omega arith) refl at
fixed_back n (p ∷ ps) (suc zero) u at = here_at n (length (p ∷ ps)) 1 Host Lib u refl (omega arith) refl at
fixed_back n (p ∷ ps) (suc (suc zero)) u at = here_at n (length (p ∷ ps)) 2 Target Script u refl (omega arith) refl at
fixed_back n (p ∷ ps) (suc (suc (suc zero))) u at = here_at n (length (p ∷ ps)) 3 Host Script u refl (omega arith) refl at
fixed_back n (p ∷ ps) (suc (suc (suc (suc zero)))) u at = here_at n (length (p ∷ ps)) 4 Target Run u refl (omega arith) refl at
fixed_back n (p ∷ ps) (suc (suc (suc (suc (suc zero))))) u at = here_at n (length (p ∷ ps)) 5 Host Run u refl (omega arith) refl at
fixed_back n (p ∷ ps) (suc (suc (suc (suc (suc (suc i)))))) u at =
    let h = fixed_back (n + 1) ps i u at in
    record { kind = h.kind; index = suc h.index; owner = omega (arith, h.owner); inside = omega (arith, h.inside); at = omega (arith, h.at) }

pub fixed_is : (ps : List Package) (i : ℕ) (u : Unit) → slice_get (fixed ps) i ≡ Some u → IsAt (length ps) i u
fixed_is ps i u at =
    let h = fixed_back 0 ps i u at in
    let e : u.package ≡ h.index = omega (arith, h.owner) in
    record { kind = h.kind; owner = omega (arith, e, h.inside); number = omega (arith, e, h.at) }
