-- Features by their indices.
use Rattle.std.proofs.Common.{◌≡◌, ◌≢◌, Less, ℕ, zero, suc, ◌+◌, ◌≤◌, Bool, ◌||◌, true, false, List, [], ◌∷◌, Some, length, map, refl, sym, ◌∙◌, ap, subst, arith, if◌then◌else◌}
use Rattle.std.specs.Prelude.{slice_get}
use Rattle.std.specs.List.{AllByRecursion}
use Rattle.std.specs.List.Sorted.{IsStrictlySortedBy}
use Rattle.std.specs.Ordering.{nat_cmp, is_eq}
use Rattle.std.specs.Cmp.Lexicographic.{slice_cmp}
use Rattle.std.proofs.lemmas.Bool.{false≢true}
use Rattle.std.proofs.lemmas.Slice.Eq.{bytes_eq-Decides}
use Rattle.std.proofs.lemmas.Map.Text.{is_eq-slice_cmp}
use Rattle.pb_workspace_types.specs.Workspace.{has_feature_named}
use Rattle.std.specs.Str.{bytes_eq}
use Rattle.pb_manifest_types.specs.declared.feature.Feature.{Feature}
use Rattle.pb_feature.specs.Numbers.{after, slot}

pub same_name : (a b : List ℕ) → bytes_eq a b ≡ true → a ≡ b
same_name a b e = (bytes_eq-Decides a b).0 e

pub its_name : (a : List ℕ) → bytes_eq a a ≡ true
its_name a = (bytes_eq-Decides a a).1 refl

-- a feature at an index that has a name and a slot
pub record IsSlot (fs : List Feature) (name : List ℕ) (k : ℕ) : Type 0 where
  pub index : ℕ
  pub feature : Feature
  pub at : slice_get fs index ≡ Some feature
  pub named : feature.name ≡ name
  pub is : k ≡ index + 1

after_slot : (g : Feature) (fs : List Feature) (name : List ℕ) (k : ℕ) → ((k ≢ 0) → IsSlot fs name k) → after k ≢ 0 → IsSlot (g ∷ fs) name (after k)
after_slot g fs name zero rest some = absurd (some refl)
after_slot g fs name (suc k) rest some =
    let h : IsSlot fs name (suc k) = rest (λ e. absurd (omega arith)) in
    record { index = suc h.index; feature = h.feature; at = h.at; named = h.named; is = (let e : suc k ≡ h.index + 1 = h.is in let r : suc (suc k) ≡ suc h.index + 1 = omega arith in r) }

-- a slot that is not 0 is that of a feature of the name
pub slot_named : (fs : List Feature) (name : List ℕ) → slot fs name ≢ 0 → IsSlot fs name (slot fs name)
slot_named [] name some = absurd (some refl)
slot_named (g ∷ fs) name some = by (bytes_eq name g.name) refl (slot_named fs name) some
  where
    by : (b : Bool) → bytes_eq name g.name ≡ b → (slot fs name ≢ 0 → IsSlot fs name (slot fs name)) → (if b then 1 else after (slot fs name)) ≢ 0 → IsSlot (g ∷ fs) name (if b then 1 else after (slot fs name))
    by true e rest some = record { index = 0; feature = g; at = refl; named = sym (same_name name g.name e); is = refl }
    by false e rest some = after_slot g fs name (slot fs name) rest some

after_below : (k n : ℕ) → k ≤ n → after k ≤ suc n
after_below zero n le = omega arith
after_below (suc k) n le = omega arith

pub slot_below : (fs : List Feature) (name : List ℕ) → slot fs name ≤ length fs
slot_below [] name = omega arith
slot_below (g ∷ fs) name = by (bytes_eq name g.name) (slot_below fs name)
  where
    by : (b : Bool) → slot fs name ≤ length fs → (if b then 1 else after (slot fs name)) ≤ suc (length fs)
    by true rest = omega arith
    by false rest = after_below (slot fs name) (length fs) rest

after_zero : (k : ℕ) → after k ≡ 0 → k ≡ 0
after_zero zero e = refl
after_zero (suc k) e = absurd (omega arith)

-- the slot of a name that is there is not 0, and a slot that is not 0 is that of a name that is there
pub there_some : (fs : List Feature) (name : List ℕ) → has_feature_named fs name ≡ true → slot fs name ≢ 0
there_some [] name is zero_is = false≢true is
there_some (g ∷ fs) name is zero_is = by (bytes_eq name g.name) is (there_some fs name) zero_is
  where
    by : (b : Bool) → (b || has_feature_named fs name) ≡ true → (has_feature_named fs name ≡ true → slot fs name ≢ 0) → (if b then 1 else after (slot fs name)) ≡ 0 → ⊥
    by true is rest e = omega arith
    by false is rest e = rest is (after_zero (slot fs name) e)

pub some_there : (fs : List Feature) (name : List ℕ) → slot fs name ≢ 0 → has_feature_named fs name ≡ true
some_there [] name some = absurd (some refl)
some_there (g ∷ fs) name some = by (bytes_eq name g.name) (some_there fs name) some
  where
    by : (b : Bool) → (slot fs name ≢ 0 → has_feature_named fs name ≡ true) → (if b then 1 else after (slot fs name)) ≢ 0 → (b || has_feature_named fs name) ≡ true
    by true rest some = refl
    by false rest some = rest (λ e. some (ap after e))

-- a name that is that of a feature behind the head is not that of the head, where the names ascend
not_head : (a : List ℕ) (fs : List Feature) (i : ℕ) (f : Feature) → AllByRecursion (λ y. slice_cmp nat_cmp a y ≡ Less) (map (λ (g : Feature). g.name) fs) → slice_get fs i ≡ Some f → slice_cmp nat_cmp a f.name ≡ Less
not_head a [] i f all at = cc
not_head a (g ∷ fs) zero f all at = let same : g ≡ f = cc in subst (λ (h : Feature). slice_cmp nat_cmp a h.name ≡ Less) same all.0
not_head a (g ∷ fs) (suc i) f all at = not_head a fs i f all.1 at

less_other : (a b : List ℕ) → slice_cmp nat_cmp a b ≡ Less → bytes_eq b a ≡ true → ⊥
less_other a b less same =
    let e : a ≡ b = sym (same_name b a same) in
    let t : bytes_eq a b ≡ true = (bytes_eq-Decides a b).1 e in
    let f : is_eq (slice_cmp nat_cmp a b) ≡ false = ap is_eq less in
    false≢true (sym f ∙ is_eq-slice_cmp a b ∙ t)

-- the slot of a feature that stands there is its index, where the names ascend
pub slot_at_index : (fs : List Feature) (i : ℕ) (f : Feature) → IsStrictlySortedBy (slice_cmp nat_cmp) (map (λ (g : Feature). g.name) fs) → slice_get fs i ≡ Some f → slot fs f.name ≡ i + 1
unfolding IsStrictlySortedBy
slot_at_index [] i f sorted at = cc
slot_at_index (g ∷ fs) zero f sorted at =
    let same : g ≡ f = cc in
    let e : bytes_eq f.name g.name ≡ true = subst (λ (h : Feature). bytes_eq f.name h.name ≡ true) (sym same) (its_name f.name) in
    ap (λ b. if b then 1 else after (slot fs f.name)) e
slot_at_index (g ∷ fs) (suc i) f sorted at = by (bytes_eq f.name g.name) refl (not_head g.name fs i f sorted.0 at) (slot_at_index fs i f sorted.1 at)
  where
    by : (b : Bool) → bytes_eq f.name g.name ≡ b → slice_cmp nat_cmp g.name f.name ≡ Less → slot fs f.name ≡ i + 1 → (if b then 1 else after (slot fs f.name)) ≡ suc i + 1
    by true e less rest = absurd (less_other g.name f.name less e)
    by false e less rest =
        let h : slot fs f.name ≡ suc i = rest ∙ (let r : i + 1 ≡ suc i = omega arith in r) in
        ap after h ∙ (let r : suc (suc i) ≡ suc i + 1 = omega arith in r)
