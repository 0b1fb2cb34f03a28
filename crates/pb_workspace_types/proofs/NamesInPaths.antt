-- Names of packages and binaries as parts of paths.
use Rattle.std.proofs.Common.{◌≡◌, ◌==◌, ◌&&◌, ◌||◌, ℕ, Bool, true, false, List, [], ◌∷◌, ◌++◌, codes, refl, sym, ap, ◌∙◌, arith, inl, inr}
use Rattle.std.proofs.lemmas.Bool.{cases_Bool, false≢true}
use Rattle.std.proofs.lemmas.Bool.Decides.{nat_tests}
use Rattle.std.specs.List.{list_any, list_all}
use Rattle.std.specs.Str.{bytes_eq}
use Rattle.pb_manifest_types.specs.Letters as letters
use Rattle.pb_place_types.specs.Paths.{stays, leads_up}
use Rattle.pb_place_types.proofs.PathLemmas.{and_left, and_right}

-- a byte that may not stand in a name
pub unlike : (n b : ℕ) → letters.is_name_byte n ≡ false → letters.is_name_byte b ≡ true → b == n ≡ false
unlike n b none is =
    elim (cases_Bool (b == n)) [
      | inl tied ↦ let same : b ≡ n = grind (arith, nat_tests) in absurd (false≢true (sym none ∙ ap letters.is_name_byte (sym same) ∙ is))
      | inr apart ↦ apart
    ]

pub no_slash : letters.is_name_byte 47 ≡ false
unfolding letters.is_name_byte
no_slash = refl

pub no_zero : letters.is_name_byte 0 ≡ false
unfolding letters.is_name_byte
no_zero = refl

pub no_dot : letters.is_name_byte 46 ≡ false
unfolding letters.is_name_byte
no_dot = refl

pub either : (a b : Bool) → a ≡ false → b ≡ false → a || b ≡ false
either a b p q = ap (λ x. x || b) p ∙ q

pub neither : (a b : Bool) → b ≡ false → a && b ≡ false
neither true b h = h
neither false b h = refl

-- a byte that stands in no name does not stand in a name with an ending that is without it
pub without : (n : ℕ) → letters.is_name_byte n ≡ false → (name ending : List ℕ) → list_all letters.is_name_byte name ≡ true → list_any (λ b. b == n) ending ≡ false
    → list_any (λ b. b == n) (name ++ ending) ≡ false
without n none [] ending all rest = rest
without n none (b ∷ name) ending all rest = either _ _ (unlike n b none (and_left _ _ all)) (without n none name ending (and_right _ _ all) rest)

-- a name, a point and more is neither empty nor dots
pub not_empty : (name rest : List ℕ) → bytes_eq (name ++ 46 ∷ rest) [] ≡ false
not_empty [] rest = refl
not_empty (b ∷ name) rest = refl

pub not_dot : (name rest : List ℕ) → bytes_eq rest [] ≡ false → bytes_eq (name ++ 46 ∷ rest) (codes ".") ≡ false
not_dot [] rest more = more
not_dot (b ∷ name) rest more = neither (b == 46) _ (not_empty name rest)

pub leads_on : (b : ℕ) (name rest : List ℕ) → bytes_eq rest [] ≡ false → stays (b ∷ name ++ 46 ∷ rest) || leads_up (b ∷ name ++ 46 ∷ rest) ≡ false
leads_on b name rest more = either _ _ (neither (b == 46) _ (not_empty name rest)) (neither (b == 46) _ (not_dot name rest more))
