-- What a number stands for; no number stands for two things.
use Rattle.std.proofs.Common.{◌≡◌, inl, inr, ℕ, zero, suc, ◌+◌, ◌*◌, ◌<◌, ◌≤◌, List, [], ◌∷◌, Some, length, get_or, refl, sym, ◌∙◌, ap, subst, arith}
use Rattle.std.specs.Prelude.{slice_get}
use Rattle.std.proofs.lemmas.Bool.{cases_order}
use Rattle.pb_workspace_types.specs.declared.package.Side.{Side}
use Rattle.pb_workspace_types.specs.declared.package.Side.TheVariants.{Target, Host}
use Rattle.pb_workspace_types.specs.declared.package.Package.{Package}
use Rattle.pb_feature.specs.Numbers.{width_of, bases_from, end_from, side_number, number_at}

-- that a package is on; that it has the feature of a slot; that an entry is enabled
pub data Cell : Type 0 where
  IsOn : (p : ℕ) (s : Side) → Cell
  HasSlot : (p : ℕ) (s : Side) (k : ℕ) → Cell
  IsEnabled : (p : ℕ) (s : Side) (n : ℕ) → Cell

abbrev pub index_of : Cell → ℕ
index_of (IsOn p s) = p
index_of (HasSlot p s k) = p
index_of (IsEnabled p s n) = p

abbrev pub side_at : Cell → Side
side_at (IsOn p s) = s
side_at (HasSlot p s k) = s
side_at (IsEnabled p s n) = s

abbrev pub local_of : Package → Cell → ℕ
local_of o (IsOn p s) = 0
local_of o (HasSlot p s k) = k + 1
local_of o (IsEnabled p s n) = length o.features + (n + 2)

abbrev pub IsIn : Package → Cell → Type 0
IsIn o (IsOn p s) = Unit {0}
IsIn o (HasSlot p s k) = k ≤ length o.features
IsIn o (IsEnabled p s n) = n < length o.entries

-- a number of a cell
pub record Numbered (ps : List Package) (c : Cell) (i : ℕ) : Type 0 where
  pub owner : Package
  pub at : slice_get ps (index_of c) ≡ Some owner
  pub is_in : IsIn owner c
  pub is : number_at (bases_from 0 ps) (index_of c) (side_at c) (local_of owner c) ≡ i

local_below : (o : Package) (c : Cell) → IsIn o c → local_of o c < width_of o
local_below o (IsOn p s) is = let e : 0 < length o.features + length o.entries + 2 = omega arith in e
local_below o (HasSlot p s k) is = let e : k + 1 < length o.features + length o.entries + 2 = omega arith in e
local_below o (IsEnabled p s n) is = let e : length o.features + (n + 2) < length o.features + length o.entries + 2 = omega arith in e

same_cell : (o : Package) (c d : Cell) → IsIn o c → IsIn o d → index_of c ≡ index_of d → side_at c ≡ side_at d → local_of o c ≡ local_of o d → c ≡ d
same_cell o (IsOn p s) (IsOn q t) ic id ep es el = cc
same_cell o (IsOn p s) (HasSlot q t l) ic id ep es el = absurd (omega arith)
same_cell o (IsOn p s) (IsEnabled q t m) ic id ep es el = absurd (omega arith)
same_cell o (HasSlot p s k) (IsOn q t) ic id ep es el = absurd (omega arith)
same_cell o (HasSlot p s k) (HasSlot q t l) ic id ep es el = let e : k ≡ l = omega arith in cc
same_cell o (HasSlot p s k) (IsEnabled q t m) ic id ep es el = absurd (omega arith)
same_cell o (IsEnabled p s n) (IsOn q t) ic id ep es el = absurd (omega arith)
same_cell o (IsEnabled p s n) (HasSlot q t l) ic id ep es el = absurd (omega arith)
same_cell o (IsEnabled p s n) (IsEnabled q t m) ic id ep es el = let e : n ≡ m = omega arith in cc

-- the rows of the packages follow one another
base_on : (c : ℕ) (ps : List Package) (q : ℕ) (r : Package) → slice_get ps q ≡ Some r → c ≤ get_or (bases_from c ps) q 0
base_on c [] q r at = cc
base_on c (x ∷ ps) zero r at = let e : c ≤ c = omega arith in e
base_on c (x ∷ ps) (suc q) r at = let h : c + width_of x ≤ get_or (bases_from (c + width_of x) ps) q 0 = base_on (c + width_of x) ps q r at in let e : c ≤ get_or (bases_from (c + width_of x) ps) q 0 = omega (arith, h) in e

apart : (b : ℕ) (ps : List Package) (p q : ℕ) (o r : Package) → slice_get ps p ≡ Some o → slice_get ps q ≡ Some r → p < q → get_or (bases_from b ps) p 0 + width_of o ≤ get_or (bases_from b ps) q 0
apart b [] p q o r at_p at_q lt = cc
apart b (x ∷ ps) p zero o r at_p at_q lt = absurd (omega arith)
apart b (x ∷ ps) zero (suc q) o r at_p at_q lt =
    let same : x ≡ o = cc in
    subst (λ y. b + width_of y ≤ get_or (bases_from (b + width_of x) ps) q 0) same (base_on (b + width_of x) ps q r at_q)
apart b (x ∷ ps) (suc p) (suc q) o r at_p at_q lt = apart (b + width_of x) ps p q o r at_p at_q (omega arith)

end_on : (c : ℕ) (ps : List Package) → c ≤ end_from c ps
end_on c [] = let e : c ≤ c = omega arith in e
end_on c (x ∷ ps) = let h : c + width_of x ≤ end_from (c + width_of x) ps = end_on (c + width_of x) ps in let e : c ≤ end_from (c + width_of x) ps = omega (arith, h) in e

before_end : (b : ℕ) (ps : List Package) (p : ℕ) (o : Package) → slice_get ps p ≡ Some o → get_or (bases_from b ps) p 0 + width_of o ≤ end_from b ps
before_end b [] p o at = cc
before_end b (x ∷ ps) zero o at =
    let same : x ≡ o = cc in
    subst (λ y. b + width_of y ≤ end_from (b + width_of x) ps) same (end_on (b + width_of x) ps)
before_end b (x ∷ ps) (suc p) o at = before_end (b + width_of x) ps p o at

side_below : (s : Side) → side_number s < 2
side_below Target = omega arith
side_below Host = omega arith

side_back : (s t : Side) → side_number s ≡ side_number t → s ≡ t
side_back Target Target e = refl
side_back Target Host e = absurd (omega arith)
side_back Host Target e = absurd (omega arith)
side_back Host Host e = refl

high : (a b m n : ℕ) → a * 2 + m ≡ b * 2 + n → m < 2 → n < 2 → a ≡ b
high a b m n e lm ln = omega arith

low : (a b m n : ℕ) → a * 2 + m ≡ b * 2 + n → a ≡ b → m ≡ n
low a b m n e same = omega arith

module _ (ps : List Package) where
  abbrev base : ℕ → ℕ
  base p = get_or (bases_from 0 ps) p 0

  -- two rows share no index
  same_index : (p q l m : ℕ) (o r : Package) → slice_get ps p ≡ Some o → slice_get ps q ≡ Some r → l < width_of o → m < width_of r → base p + l ≡ base q + m → p ≡ q
  same_index p q l m o r at_p at_q lt_l lt_m e = elim (cases_order p q) [
    | inl is ↦ is
    | inr (inl less) ↦ (let h : base p + width_of o ≤ base q = apart 0 ps p q o r at_p at_q less in absurd (omega (arith, h)))
    | inr (inr more) ↦ (let h : base q + width_of r ≤ base p = apart 0 ps q p r o at_q at_p more in absurd (omega (arith, h)))
  ]

  same_owner : (p q : ℕ) (o r : Package) → p ≡ q → slice_get ps p ≡ Some o → slice_get ps q ≡ Some r → o ≡ r
  same_owner p q o r e at_p at_q = cc

  pub exact : (c d : Cell) (i : ℕ) → Numbered ps c i → Numbered ps d i → c ≡ d
  exact c d i nc nd =
      let lc : local_of nc.owner c < width_of nc.owner = local_below nc.owner c nc.is_in in
      let ld : local_of nd.owner d < width_of nd.owner = local_below nd.owner d nd.is_in in
      let both : base (index_of c) + local_of nc.owner c ≡ base (index_of d) + local_of nd.owner d =
      high _ _ (side_number (side_at c)) (side_number (side_at d)) (nc.is ∙ sym nd.is) (side_below (side_at c)) (side_below (side_at d)) in
      let sides : side_at c ≡ side_at d = side_back _ _ (low _ _ _ _ (nc.is ∙ sym nd.is) both) in
      let pkgs : index_of c ≡ index_of d = same_index _ _ _ _ nc.owner nd.owner nc.at nd.at lc ld both in
      let owners : nc.owner ≡ nd.owner = same_owner _ _ nc.owner nd.owner pkgs nc.at nd.at in
      let in_d : IsIn nc.owner d = subst (λ o. IsIn o d) (sym owners) nd.is_in in
      let local_d : local_of nc.owner d ≡ local_of nd.owner d = ap (λ o. local_of o d) owners in
      let bases : base (index_of c) ≡ base (index_of d) = ap base pkgs in
      let locals : local_of nc.owner c ≡ local_of nc.owner d = omega arith in
      same_cell nc.owner c d nc.is_in in_d pkgs sides locals

  -- each number is below the end
  pub below : (c : Cell) (i : ℕ) → Numbered ps c i → i < end_from 0 ps * 2
  below c i nc =
      let lc : local_of nc.owner c < width_of nc.owner = local_below nc.owner c nc.is_in in
      let h : base (index_of c) + width_of nc.owner ≤ end_from 0 ps = before_end 0 ps (index_of c) nc.owner nc.at in
      let s : side_number (side_at c) < 2 = side_below (side_at c) in
      let e : (base (index_of c) + local_of nc.owner c) * 2 + side_number (side_at c) < end_from 0 ps * 2 = omega (arith, lc, h, s) in
      subst (λ j. j < end_from 0 ps * 2) nc.is e
