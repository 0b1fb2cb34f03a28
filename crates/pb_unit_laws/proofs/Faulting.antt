-- The fault of a package is that of the first item which has one.
use Rattle.std.proofs.Common.{◌≡◌, ◌∙◌, ◌++◌, ◌∷◌, [], ℕ, Bool, true, false, ◌&&◌, ◌||◌, not, if◌then◌else◌, List, Option, Some, None, refl, sym, ap, slice_get}
use Rattle.std.specs.List.{cons_option, filter_map, flat_map, list_any}
use Rattle.std.specs.Option.{option_or}
use Rattle.std.specs.Str.{bytes_eq}
use Rattle.pb_feature.specs.Faults.{absent_fault, entry_fault, features_fault, is_entry, is_optional_entry, item_fault, items_fault, optional_fault}
use Rattle.pb_feature.specs.declared.fault.FeatureFault.{FeatureFault}
use Rattle.pb_feature.specs.declared.fault.FeatureFault.TheVariants.{NotOptional}
use Rattle.pb_manifest_types.specs.declared.feature.Feature.{Feature}
use Rattle.pb_manifest_types.specs.declared.feature.FeatureItem.{FeatureItem}
use Rattle.pb_manifest_types.specs.declared.feature.FeatureItem.TheVariants.{Own, Dependency, Of, OfEnabled}
use Rattle.pb_workspace_types.specs.declared.package.Entry.{Entry}
use Rattle.pb_workspace_types.specs.declared.package.Package.{Package}
use Rattle.pb_unit_laws.specs.Items.{PackagesAreAtFault, fault_of, name_fault}

-- the head of a list

pub head_here : {A : Type 0} (found : Option A) (rest : List A) → slice_get (cons_option found rest) 0 ≡ option_or found (slice_get rest 0)
head_here None rest = refl
head_here (Some x) rest = refl

pub head_joined : {A : Type 0} (xs ys : List A) → slice_get (xs ++ ys) 0 ≡ option_or (slice_get xs 0) (slice_get ys 0)
head_joined [] ys = refl
head_joined (x ∷ xs) ys = refl

cons_joined : {B : Type 0} (found : Option B) (xs ys : List B) → cons_option found (xs ++ ys) ≡ cons_option found xs ++ ys
cons_joined None xs ys = refl
cons_joined (Some x) xs ys = refl

pub found_joined : {A B : Type 0} (f : A → Option B) (xs ys : List A) → filter_map f (xs ++ ys) ≡ filter_map f xs ++ filter_map f ys
found_joined f [] ys = refl
found_joined f (x ∷ xs) ys = ap (cons_option (f x)) (found_joined f xs ys) ∙ cons_joined (f x) (filter_map f xs) (filter_map f ys)

-- a name of an entry

any_or : (name : List ℕ) (es : List Entry) → list_any (λ (e : Entry). bytes_eq name e.key && (e.optional || not false)) es ≡ list_any (λ (e : Entry). bytes_eq name e.key) es
any_or name [] = refl
any_or name (e ∷ es) = let rest = any_or name es in let here = both (bytes_eq name e.key) e.optional in cc
  where
    both : (a b : Bool) → (a && (b || true)) ≡ a
    both true true = refl
    both true false = refl
    both false b = refl

any_and : (name : List ℕ) (es : List Entry) → list_any (λ (e : Entry). bytes_eq name e.key && (e.optional || not true)) es ≡ list_any (λ (e : Entry). bytes_eq name e.key && e.optional) es
any_and name [] = refl
any_and name (e ∷ es) = let rest = any_and name es in let here = either e.optional in cc
  where
    either : (b : Bool) → (b || false) ≡ b
    either true = refl
    either false = refl

few_any : (name : List ℕ) (es : List Entry) → list_any (λ (e : Entry). bytes_eq name e.key && e.optional) es ≡ true → list_any (λ (e : Entry). bytes_eq name e.key) es ≡ true
few_any name [] e = e
few_any name (x ∷ es) e = by (bytes_eq name x.key) x.optional (list_any (λ (e : Entry). bytes_eq name e.key && e.optional) es) (few_any name es) e
  where
    by : (a b c : Bool) → (c ≡ true → list_any (λ (e : Entry). bytes_eq name e.key) es ≡ true) → ((a && b) || c) ≡ true → (a || list_any (λ (e : Entry). bytes_eq name e.key) es) ≡ true
    by true b c more e = refl
    by false b c more e = more e

by_any : (some optional : Bool) (rest : Option FeatureFault) → (optional ≡ true → some ≡ true) → (if some then (if optional then None else Some NotOptional) else rest) ≡ (if optional then None else (if some then Some NotOptional else rest))
by_any true true rest few = refl
by_any true false rest few = refl
by_any false true rest few = absurd (let wrong = few refl in cc)
by_any false false rest few = refl

by_one : (some : Bool) (rest : Option FeatureFault) → (if some then None else rest) ≡ (if some then None else (if some then Some NotOptional else rest))
by_one true rest = refl
by_one false rest = refl

entry_is : (p : Package) (name : List ℕ) → entry_fault p name ≡ name_fault p false name
entry_is p name =
    by_one (is_entry p name) (absent_fault p name)
    ∙ ap (λ some. if some then None else (if is_entry p name then Some NotOptional else absent_fault p name)) (sym (any_or name p.entries))

optional_is : (p : Package) (name : List ℕ) → optional_fault p name ≡ name_fault p true name
optional_is p name =
    by_any (is_entry p name) (is_optional_entry p name) (absent_fault p name) (few_any name p.entries)
    ∙ ap (λ some. if some then None else (if is_entry p name then Some NotOptional else absent_fault p name)) (sym (any_and name p.entries))

item_is : (p : Package) (item : FeatureItem) → item_fault p item ≡ fault_of p item
item_is p (Own feature) = refl
item_is p (Of name feature) = entry_is p name
item_is p (Dependency name) = optional_is p name
item_is p (OfEnabled name feature) = optional_is p name

-- the first item

items_are : (p : Package) (items : List FeatureItem) → items_fault p items ≡ slice_get (filter_map (fault_of p) items) 0
items_are p [] = refl
items_are p (item ∷ items) =
    let here = item_is p item in
    let rest = items_are p items in
    let first = head_here (fault_of p item) (filter_map (fault_of p) items) in
    cc

features_are : (p : Package) (features : List Feature) → features_fault p features ≡ slice_get (filter_map (fault_of p) (flat_map (λ (feature : Feature). feature.items) features)) 0
features_are p [] = refl
features_are p (feature ∷ features) =
    let more = flat_map (λ (feature : Feature). feature.items) features in
    ap (λ o. option_or o (features_fault p features)) (items_are p feature.items)
    ∙ ap (option_or (slice_get (filter_map (fault_of p) feature.items) 0)) (features_are p features)
    ∙ sym (head_joined (filter_map (fault_of p) feature.items) (filter_map (fault_of p) more))
    ∙ ap (λ found. slice_get found 0) (sym (found_joined (fault_of p) feature.items more))

pub packages_are_at_fault : PackagesAreAtFault
packages_are_at_fault p = features_are p p.features
