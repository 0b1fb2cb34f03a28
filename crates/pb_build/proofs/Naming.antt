-- One name is that of one package.
use Rattle.std.proofs.Common.{◌≡◌, ◌∙◌, ℕ, false, zero, suc, List, [], ◌∷◌, map, None, Some, sym, slice_get}
use Rattle.std.specs.List.{AllByRecursion, IsDistinct}
use Rattle.std.specs.Str.{bytes_eq}
use Rattle.std.proofs.lemmas.Bool.{false≢true}
use Rattle.std.proofs.lemmas.Slice.Eq.{bytes_eq-Decides}
use Rattle.pb_workspace_types.specs.declared.package.Package.{Package}

-- a name is not that of a later package
not_later : (name : List ℕ) (ps : List Package) (k : ℕ) (p : Package) → AllByRecursion (λ y. bytes_eq name y ≡ false) (map (λ (p : Package). p.name) ps) → slice_get ps k ≡ Some p → name ≡ p.name → ⊥
not_later name [] k p all at same = let no : None ≡ Some p = at in cc
not_later name (x ∷ ps) zero p all at same = let is : Some x ≡ Some p = at in let named : name ≡ x.name = cc in false≢true (sym all.0 ∙ (bytes_eq-Decides name x.name).1 named)
not_later name (x ∷ ps) (suc k) p all at same = not_later name ps k p all.1 at same

-- one name is that of one package
pub one_package : (ps : List Package) → IsDistinct bytes_eq (map (λ (p : Package). p.name) ps) → (k l : ℕ) (p q : Package) → slice_get ps k ≡ Some p → slice_get ps l ≡ Some q → p.name ≡ q.name → p ≡ q
unfolding IsDistinct
one_package [] apart k l p q at at' same = let no : None ≡ Some p = at in cc
one_package (x ∷ ps) apart zero zero p q at at' same = let both : Some p ≡ Some q = sym at ∙ at' in cc
one_package (x ∷ ps) apart zero (suc l) p q at at' same = let is : Some x ≡ Some p = at in let named : x.name ≡ q.name = cc in absurd (not_later x.name ps l q apart.0 at' named)
one_package (x ∷ ps) apart (suc k) zero p q at at' same = let is : Some x ≡ Some q = at' in let named : x.name ≡ p.name = cc in absurd (not_later x.name ps k p apart.0 at named)
one_package (x ∷ ps) apart (suc k) (suc l) p q at at' same = one_package ps apart.1 k l p q at at' same
