-- One more package is looked at.
use Rattle.std.proofs.Common.{◌≡◌, ◌⊎◌, inl, inr, Ordering, Less, Equal, Greater, ℕ, ◌+◌, ◌<◌, Bool, true, false, List, Option, Some, None, length, get_or, arith, refl, sym, ◌∙◌, ap, subst}
use Rattle.std.specs.Prelude.{slice_get}
use Rattle.std.specs.Ordering.{nat_cmp, is_lt}
use Rattle.std.specs.Cmp.Lexicographic.{slice_cmp}
use Rattle.std.proofs.lemmas.Bool.{cases_eq, false≢true}
use Rattle.std.proofs.lemmas.Option.{slice_get-get_or}
use Rattle.std.proofs.lemmas.Cmp.{nat_list_cmp_total, tied_itself}
use Rattle.pb_workspace_types.specs.declared.package.Package.{Package}
use Rattle.pb_feature.specs.declared.fault.FeatureFault.{FeatureFault}
use Rattle.pb_feature.specs.declared.checks.First.{First}
use Rattle.pb_feature.specs.Faults.{package_fault}
use Rattle.pb_feature.specs.Checked.{is_lesser, IsFirstBelow, IsSofar, lesser_of, is_lesser_at, picked}

same : (o : Option Package) (a b : Package) → o ≡ Some a → o ≡ Some b → a ≡ b
same o a b x y = cc

less_is : (o : Ordering) → is_lt o ≡ true → o ≡ Less
less_is o e = elim o as (λ w. is_lt w ≡ true → w ≡ Less) [ Less ↦ λ h. refl | Equal ↦ λ h. absurd (false≢true h) | Greater ↦ λ h. absurd (false≢true h) ] e

not_itself : (a : Package) → is_lesser a a ≡ true → ⊥
not_itself a e = false≢true (sym (ap is_lt (tied_itself nat_list_cmp_total a.name)) ∙ e)

lesser_trans : (a b c : Package) → is_lesser a b ≡ true → is_lesser b c ≡ true → is_lesser a c ≡ true
lesser_trans a b c ab bc = ap is_lt (nat_list_cmp_total.trans a.name b.name c.name (less_is (slice_cmp nat_cmp a.name b.name) ab) (less_is (slice_cmp nat_cmp b.name c.name) bc))

below_or : (q n : ℕ) → q < n + 1 → (q ≡ n) ⊎ (q < n)
below_or q n lt = elim (cases_eq q n) [ inl is ↦ inl is | inr other ↦ inr (omega arith) ]

module _ (ps : List Package) (n : ℕ) (o : Package) (at : slice_get ps n ≡ Some o) where
  is_new : (q : ℕ) (other : Package) → q ≡ n → slice_get ps q ≡ Some other → other ≡ o
  is_new q other e other_at = same (slice_get ps n) other o (subst (λ k. slice_get ps k ≡ Some other) e other_at) at

  pub still_none : IsSofar ps n None → package_fault o ≡ None → IsSofar ps (n + 1) None
  still_none sofar right q other lt other_at = elim (below_or q n lt) [
    | inl e ↦ ap package_fault (is_new q other e other_at) ∙ right
    | inr less ↦ sofar q other less other_at
  ]

  pub still_first : (pkg : ℕ) (fault : FeatureFault) → IsFirstBelow ps n pkg fault → ((owner : Package) → slice_get ps pkg ≡ Some owner → is_lesser o owner ≡ true → package_fault o ≡ None) → IsFirstBelow ps (n + 1) pkg fault
  still_first pkg fault sofar right = record {
    owner = sofar.owner;
    package_at = sofar.package_at;
    told = sofar.told;
    first = λ q other lt other_at lesser. elim (below_or q n lt) [
      | inl e ↦ (let is : other ≡ o = is_new q other e other_at in ap package_fault is ∙ right sofar.owner sofar.package_at (subst (λ (w : Package). is_lesser w sofar.owner ≡ true) is lesser))
      | inr less ↦ sofar.first q other less other_at lesser
    ];
  }

  pub new_first : (fault : FeatureFault) → package_fault o ≡ Some fault → ((q : ℕ) (other : Package) → q < n → slice_get ps q ≡ Some other → is_lesser other o ≡ true → package_fault other ≡ None) → IsFirstBelow ps (n + 1) n fault
  new_first fault told before = record {
    owner = o;
    package_at = at;
    told = told;
    first = λ q other lt other_at lesser. elim (below_or q n lt) [
      | inl e ↦ absurd (not_itself o (subst (λ (w : Package). is_lesser w o ≡ true) (is_new q other e other_at) lesser))
      | inr less ↦ before q other less other_at lesser
    ];
  }

  pub lesser_first : (pkg : ℕ) (old fault : FeatureFault) (owner : Package) → IsFirstBelow ps n pkg old → slice_get ps pkg ≡ Some owner → is_lesser o owner ≡ true → package_fault o ≡ Some fault → IsFirstBelow ps (n + 1) n fault
  lesser_first pkg old fault owner sofar owner_at lesser told =
      let is : owner ≡ sofar.owner = same (slice_get ps pkg) owner sofar.owner owner_at sofar.package_at in
      new_first fault told (λ q other lt other_at less. sofar.first q other lt other_at (subst (λ (w : Package). is_lesser other w ≡ true) is (lesser_trans other o owner less lesser)))

  picked_none : (w : Option FeatureFault) → package_fault o ≡ w → IsSofar ps n None → IsSofar ps (n + 1) (picked w None true n)
  picked_none None e sofar = still_none sofar e
  picked_none (Some fault) e sofar = new_first fault e (λ q other lt other_at _. sofar q other lt other_at)

  picked_other : (f : First) (fault : FeatureFault) (sofar : IsFirstBelow ps n f.pkg f.fault) → package_fault o ≡ Some fault → (b : Bool) → is_lesser o sofar.owner ≡ b → IsSofar ps (n + 1) (picked (Some fault) (Some f) b n)
  picked_other f fault sofar e true l = lesser_first f.pkg f.fault fault sofar.owner sofar sofar.package_at l e
  picked_other f fault sofar e false l =
      still_first f.pkg f.fault sofar (λ owner owner_at lesser.
      let is : owner ≡ sofar.owner = same (slice_get ps f.pkg) owner sofar.owner owner_at sofar.package_at in
      absurd (false≢true (sym l ∙ subst (λ (w : Package). is_lesser o w ≡ true) is lesser)))

  picked_some : (f : First) (w : Option FeatureFault) (sofar : IsFirstBelow ps n f.pkg f.fault) → package_fault o ≡ w → IsSofar ps (n + 1) (picked w (Some f) (is_lesser o sofar.owner) n)
  picked_some f None sofar e = still_first f.pkg f.fault sofar (λ owner owner_at lesser. e)
  picked_some f (Some fault) sofar e = picked_other f fault sofar e (is_lesser o sofar.owner) refl

  picks : (w : Option First) → IsSofar ps n w → IsSofar ps (n + 1) (picked (package_fault o) w (is_lesser_at ps n w) n)
  picks None sofar = picked_none (package_fault o) refl sofar
  picks (Some f) sofar =
      let e : is_lesser_at ps n (Some f) ≡ is_lesser o sofar.owner = ap (λ w. lesser_of w (slice_get ps f.pkg)) at ∙ ap (lesser_of (Some o)) sofar.package_at in
      subst (λ b. IsSofar ps (n + 1) (picked (package_fault o) (Some f) b n)) (sym e) (picked_some f (package_fault o) sofar refl)

-- one turn of the loop
pub turned : (ps : List Package) (n : ℕ) (o : Package) (w x : Option First) (fault : Option FeatureFault) (lesser : Bool) → n < length ps → o ≡ get_or ps n o → IsSofar ps n w
    → fault ≡ package_fault o → lesser ≡ is_lesser_at ps n w → x ≡ picked fault w lesser n → IsSofar ps (n + 1) x
turned ps n o w x fault lesser lt is sofar same_fault same_lesser same_x =
    let at : slice_get ps n ≡ Some o = slice_get-get_or ps n o lt ∙ ap (λ p. Some p) (sym is) in
    subst (IsSofar ps (n + 1)) (sym (same_x ∙ ap (λ f. picked f w lesser n) same_fault ∙ ap (λ b. picked (package_fault o) w b n) same_lesser)) (picks ps n o at w sofar)
