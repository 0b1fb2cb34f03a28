-- The features of a package: those that are written, and those that optional entries make.
use Rattle.std.proofs.Common.{◌≡◌, ◌≢◌, ◌↔◌, ◌⊎◌, inl, inr, ◌∙◌, Bool, true, false, not, ◌&&◌, ◌||◌, if◌then◌else◌, List, [], ◌∷◌, ◌++◌, map, Contains, refl, sym, ap, subst}
use Rattle.std.proofs.lemmas.List.Elements.{Contains-append_left, Contains-append_right, Contains-append_cases}
use Rattle.std.proofs.lemmas.Slice.Eq.{bytes_eq-Decides}
use Rattle.std.specs.List.{AllByRecursion, list_any}
use Rattle.std.specs.List.Sorted.{IsStrictlySortedBy}
use Rattle.std.specs.Str.{bytes_eq}
use Rattle.std.proofs.Common.{Less}
use Rattle.pb_graph.proofs.Membership.{none, head, tail, cases}
use Rattle.pb_manifest_types.specs.declared.dependency.Dependency.{Dependency}
use Rattle.pb_manifest_types.specs.declared.feature.Feature.{Feature}
use Rattle.pb_manifest_types.specs.declared.feature.FeatureItem.{FeatureItem}
use Rattle.pb_manifest_types.specs.declared.feature.FeatureItem.TheVariants as item
use Rattle.pb_manifest_types.specs.declared.manifest.Manifest.{Manifest}
use Rattle.pb_workspace_package.specs.Features.{enables, is_enabled_by_name, makes_feature, with_made, with_written, feature_of, features_of}
use Rattle.pb_workspace.proofs.WholeWorkspace.{map_only, map_each}
use Rattle.pb_workspace_package.proofs.Puttings.{map_twice}
use Rattle.pb_workspace_laws.specs.Packages.{IsFeature, written, made}
use Rattle.pb_workspace_laws.proofs.Sorting.{Name, Rises, names, put, put_rises, put_new, put_old, put_from, below_apart, cmp}
use Rattle.pb_place_types.proofs.PathLemmas.{and_left}

abbrev Made : Type 0
Made = List (Name × List FeatureItem)

-- some test is met by none
pub none_meets : {A : Type 0} (test : A → Bool) (xs : List A) → list_any test xs ≡ false → (x : A) → Contains xs x → test x ≡ false
none_meets test [] off x there = absurd (none x there)
none_meets {A} test (y ∷ xs) off x there = by (test y) refl off (λ h later. none_meets test xs h x later)
  where
    by : (b : Bool) → test y ≡ b → (b || list_any test xs) ≡ false → (list_any test xs ≡ false → Contains xs x → test x ≡ false) → test x ≡ false
    by true at h rest = cc
    by false at h rest = elim (cases y xs x there) [ inl here ↦ subst (λ z. test z ≡ false) here at | inr later ↦ rest h later ]

pub none_met : {A : Type 0} (test : A → Bool) (xs : List A) → ((x : A) → Contains xs x → test x ≡ false) → list_any test xs ≡ false
none_met test [] each = refl
none_met test (x ∷ xs) each = ap (λ b. b || list_any test xs) (each x (head x xs)) ∙ none_met test xs (λ y there. each y (tail x xs y there))

-- no item `dep:N` is written
abbrev Unlisted : Name → List Feature → Type 0
Unlisted name fs = (g : Feature) → Contains fs g → Contains g.items (item.Dependency name) → ⊥

unlisted_from : (name : Name) (fs : List Feature) → is_enabled_by_name name fs ≡ false → Unlisted name fs
unlisted_from name fs off g there listed =
    let not_g : list_any (enables name) g.items ≡ false = none_meets (λ (f : Feature). list_any (enables name) f.items) fs off g there in
    let not_it : bytes_eq name name ≡ false = none_meets (enables name) g.items not_g (item.Dependency name) listed in
    let no : true ≡ false = sym ((bytes_eq-Decides name name).1 refl) ∙ not_it in
    cc

unlisted_to : (name : Name) (fs : List Feature) → Unlisted name fs → is_enabled_by_name name fs ≡ false
unlisted_to name fs unlisted = none_met (λ (f : Feature). list_any (enables name) f.items) fs (λ f there. none_met (enables name) f.items (one f there))
  where
    one : (f : Feature) → Contains fs f → (i : FeatureItem) → Contains f.items i → enables name i ≡ false
    one f there (item.Own feature) listed = refl
    one f there (item.Dependency dependency) listed = by (bytes_eq name dependency) refl
      where
        by : (b : Bool) → bytes_eq name dependency ≡ b → b ≡ false
        by true at = absurd (unlisted f there (subst (λ n. Contains f.items (item.Dependency n)) (sym ((bytes_eq-Decides name dependency).0 at)) listed))
        by false at = refl
    one f there (item.Of dependency feature) listed = refl
    one f there (item.OfEnabled dependency feature) listed = refl

-- an entry makes a feature
pub record Makes (fs : List Feature) (ds : List Dependency) (e : Name × List FeatureItem) : Type 0 where
  pub d : Dependency
  pub there : Contains ds d
  pub makes : makes_feature fs d ≡ true
  pub same : (d.key, item.Dependency d.key ∷ []) ≡ e

module _ (fs : List Feature) where
  made_rises : (es : Made) (ds : List Dependency) → Rises (names es) → Rises (names (with_made fs es ds))
  made_rises es [] rises = rises
  made_rises es (d ∷ ds) rises = by (makes_feature fs d) (λ next up. made_rises next ds up)
    where
      by : (b : Bool) → ((next : Made) → Rises (names next) → Rises (names (with_made fs next ds))) → Rises (names (with_made fs (if b then put es d.key (item.Dependency d.key ∷ []) else es) ds))
      by true rest = rest (put es d.key (item.Dependency d.key ∷ [])) (put_rises es d.key (item.Dependency d.key ∷ []) rises)
      by false rest = rest es rises

  later_makes : (d : Dependency) (ds : List Dependency) (e : Name × List FeatureItem) → Makes fs ds e → Makes fs (d ∷ ds) e
  later_makes d ds e m = record { d = m.d; there = tail d ds m.d m.there; makes = m.makes; same = m.same }

  made_from : (es : Made) (ds : List Dependency) (e : Name × List FeatureItem) → Rises (names es) → Contains (with_made fs es ds) e → Contains es e ⊎ Makes fs ds e
  made_from es [] e rises there = inl there
  made_from es (d ∷ ds) e rises there = by (makes_feature fs d) refl there (λ next up is. made_from next ds e up is)
    where
      by : (b : Bool) → makes_feature fs d ≡ b → Contains (with_made fs (if b then put es d.key (item.Dependency d.key ∷ []) else es) ds) e
          → ((next : Made) → Rises (names next) → Contains (with_made fs next ds) e → Contains next e ⊎ Makes fs ds e) → Contains es e ⊎ Makes fs (d ∷ ds) e
      by true at is rest = elim (rest (put es d.key (item.Dependency d.key ∷ [])) (put_rises es d.key (item.Dependency d.key ∷ []) rises) is) [
        | inl before ↦ (elim (put_from es d.key (item.Dependency d.key ∷ []) e rises before) [
          | inl new ↦ inr (record { d = d; there = head d ds; makes = at; same = new })
          | inr old ↦ inl old.1
        ])
        | inr later ↦ inr (later_makes d ds e later)
      ]
      by false at is rest = elim (rest es rises is) [ inl before ↦ inl before | inr later ↦ inr (later_makes d ds e later) ]

  -- what stands there as some entry would make it stays
  made_old : (es : Made) (ds : List Dependency) (name : Name) → Contains es (name, item.Dependency name ∷ []) → Contains (with_made fs es ds) (name, item.Dependency name ∷ [])
  made_old es [] name there = there
  made_old es (d ∷ ds) name there = by (makes_feature fs d) (λ next is. made_old next ds name is)
    where
      after : (b : Bool) → bytes_eq name d.key ≡ b → Contains (put es d.key (item.Dependency d.key ∷ [])) (name, item.Dependency name ∷ [])
      after true at = subst (λ n. Contains (put es d.key (item.Dependency d.key ∷ [])) (n, item.Dependency n ∷ [])) (sym ((bytes_eq-Decides name d.key).0 at)) (put_new es d.key (item.Dependency d.key ∷ []))
      after false at = put_old es d.key (item.Dependency d.key ∷ []) (name, item.Dependency name ∷ []) there (λ same. let no : true ≡ false = sym ((bytes_eq-Decides name d.key).1 same) ∙ at in cc)

      by : (b : Bool) → ((next : Made) → Contains next (name, item.Dependency name ∷ []) → Contains (with_made fs next ds) (name, item.Dependency name ∷ []))
          → Contains (with_made fs (if b then put es d.key (item.Dependency d.key ∷ []) else es) ds) (name, item.Dependency name ∷ [])
      by true rest = rest (put es d.key (item.Dependency d.key ∷ [])) (after (bytes_eq name d.key) refl)
      by false rest = rest es there

  made_to : (es : Made) (ds : List Dependency) (d : Dependency) → Contains ds d → makes_feature fs d ≡ true → Contains (with_made fs es ds) (d.key, item.Dependency d.key ∷ [])
  made_to es [] d there makes = absurd (none d there)
  made_to es (c ∷ ds) d there makes = elim (cases c ds d there) [
    | inl here ↦ by (makes_feature fs c) (ap (makes_feature fs) here ∙ makes) here
    | inr later ↦ made_to (if makes_feature fs c then put es c.key (item.Dependency c.key ∷ []) else es) ds d later makes
  ]
    where
      by : (b : Bool) → b ≡ true → c ≡ d → Contains (with_made fs (if b then put es c.key (item.Dependency c.key ∷ []) else es) ds) (d.key, item.Dependency d.key ∷ [])
      by true on here = subst (λ (x : Dependency). Contains (with_made fs (put es c.key (item.Dependency c.key ∷ [])) ds) (x.key, item.Dependency x.key ∷ [])) here (made_old (put es c.key (item.Dependency c.key ∷ [])) ds c.key (put_new es c.key (item.Dependency c.key ∷ [])))
      by false on here = cc

-- the written ones take the place of those made under their name
written_rises : (es : Made) (fs : List Feature) → Rises (names es) → Rises (names (with_written es fs))
written_rises es [] rises = rises
written_rises es (f ∷ fs) rises = written_rises (put es f.name f.items) fs (put_rises es f.name f.items rises)

abbrev Unnamed : Name → List Feature → Type 0
Unnamed name fs = (g : Feature) → Contains fs g → g.name ≢ name

abbrev IsWrittenOrOld : Made → List Feature → Name × List FeatureItem → Type 0
IsWrittenOrOld es fs e = ((f : Feature) × Contains fs f × ((f.name, f.items) ≡ e)) ⊎ (Contains es e × Unnamed e.0 fs)

written_from : (es : Made) (fs : List Feature) (e : Name × List FeatureItem) → Rises (names es) → Contains (with_written es fs) e → IsWrittenOrOld es fs e
written_from es [] e rises there = inr (there, λ g is. absurd (none g is))
written_from es (f ∷ fs) e rises there = elim (written_from (put es f.name f.items) fs e (put_rises es f.name f.items rises) there) [
  | inl later ↦ inl (later.0, tail f fs later.0 later.1, later.2)
  | inr before ↦ (elim (put_from es f.name f.items e rises before.0) [
    | inl new ↦ inl (f, head f fs, new)
    | inr old ↦ inr (old.1, λ g is. unnamed g is old.0 before.1)
  ])
]
  where
    unnamed : (g : Feature) → Contains (f ∷ fs) g → e.0 ≢ f.name → Unnamed e.0 fs → g.name ≢ e.0
    unnamed g is other rest same = elim (cases f fs g is) [
      | inl here ↦ other (sym same ∙ ap (λ (x : Feature). x.name) (sym here))
      | inr later ↦ rest g later same
    ]

written_old : (es : Made) (fs : List Feature) (e : Name × List FeatureItem) → Contains es e → Unnamed e.0 fs → Contains (with_written es fs) e
written_old es [] e there unnamed = there
written_old es (f ∷ fs) e there unnamed = written_old (put es f.name f.items) fs e (put_old es f.name f.items e there (λ same. unnamed f (head f fs) (sym same))) (λ g is. unnamed g (tail f fs g is))

of_each : (P : Name → Type 0) (fs : List Feature) (f : Feature) → AllByRecursion P (map (λ (g : Feature). g.name) fs) → Contains fs f → P f.name
of_each P [] f all there = absurd (none f there)
of_each P (g ∷ fs) f all there = elim (cases g fs f there) [ inl here ↦ subst (λ (x : Feature). P x.name) here all.0 | inr later ↦ of_each P fs f all.1 later ]

written_to : (es : Made) (fs : List Feature) (f : Feature) → Rises (map (λ (g : Feature). g.name) fs) → Contains fs f → Contains (with_written es fs) (f.name, f.items)
unfolding IsStrictlySortedBy
written_to es [] f rises there = absurd (none f there)
written_to es (g ∷ fs) f rises there = elim (cases g fs f there) [
  | inl here ↦ subst (λ (x : Feature). Contains (with_written (put es g.name g.items) fs) (x.name, x.items)) here (written_old (put es g.name g.items) fs (g.name, g.items) (put_new es g.name g.items) (λ h is. below_apart g.name h.name (of_each (λ y. cmp g.name y ≡ Less) fs h rises.0 is)))
  | inr later ↦ written_to (put es g.name g.items) fs f rises.1 later
]

both_on : (a b : Bool) → a ≡ true → b ≡ false → (a && not b) ≡ true
both_on true false p q = refl
both_on true true p q = cc
both_on false b p q = cc

second_off : (a b : Bool) → (a && not b) ≡ true → b ≡ false
second_off true true h = cc
second_off true false h = refl
second_off false b h = cc

-- all together
module _ (m : Manifest) (rises : Rises (map (λ (g : Feature). g.name) m.features)) where
  abbrev first : Made
  first = with_made m.features [] m.dependencies

  abbrev both : Made
  both = with_made m.features first m.build_dependencies

  nothing : Rises (names {V = List FeatureItem} [])
  unfolding IsStrictlySortedBy
  nothing = tt

  first_rises : Rises (names first)
  first_rises = made_rises m.features [] m.dependencies nothing

  both_rises : Rises (names both)
  both_rises = made_rises m.features first m.build_dependencies first_rises

  pub features_rise : Rises (map (λ (f : Feature). f.name) (features_of m.features m.dependencies m.build_dependencies))
  features_rise = subst Rises (sym (map_twice (λ (f : Feature). f.name) feature_of (with_written both m.features))) (written_rises both m.features both_rises)

  is_made : (ds : List Dependency) (e : Name × List FeatureItem) → ((d : Dependency) → Contains ds d → Contains (m.dependencies ++ m.build_dependencies) d) → Makes m.features ds e → Unnamed e.0 m.features → IsFeature m (feature_of e)
  is_made ds e among k unnamed =
      let name : k.d.key ≡ e.0 = ap (λ (x : Name × List FeatureItem). x.0) k.same in
      made k.d (among k.d k.there) (and_left k.d.optional _ k.makes) (sym name) (ap (λ (x : Name × List FeatureItem). x.1) (sym k.same))
      (unlisted_from k.d.key m.features (second_off k.d.optional (is_enabled_by_name k.d.key m.features) k.makes)) (λ g is same. unnamed g is (same ∙ name))

  features_from : (f : Feature) → Contains (features_of m.features m.dependencies m.build_dependencies) f → IsFeature m f
  features_from f there =
      let e = map_only feature_of (with_written both m.features) f there in
      subst (IsFeature m) e.2 (elim (written_from both m.features e.0 both_rises e.1) [
        | inl own ↦ written (subst (λ (x : Name × List FeatureItem). Contains m.features (feature_of x)) own.2 own.1)
        | inr old ↦ (elim (made_from m.features first m.build_dependencies e.0 first_rises old.0) [
          | inl before ↦ (elim (made_from m.features [] m.dependencies e.0 nothing before) [
            | inl nowhere ↦ absurd (none e.0 nowhere)
            | inr normal ↦ is_made m.dependencies e.0 (λ d is. Contains-append_left m.dependencies m.build_dependencies d is) normal old.1
          ])
          | inr late ↦ is_made m.build_dependencies e.0 (λ d is. Contains-append_right m.dependencies m.build_dependencies d is) late old.1
        ])
      ])

  features_to : (f : Feature) → IsFeature m f → Contains (features_of m.features m.dependencies m.build_dependencies) f
  features_to f (written is) = map_each feature_of (with_written both m.features) (f.name, f.items) (written_to both m.features f rises is)
  features_to f (made d entry optional name items no_item no_feature) =
      let makes : makes_feature m.features d ≡ true = both_on d.optional (is_enabled_by_name d.key m.features) optional (unlisted_to d.key m.features no_item) in
      let there : Contains both (d.key, item.Dependency d.key ∷ []) = (elim (Contains-append_cases m.dependencies m.build_dependencies d entry) [
        | inl normal ↦ made_old m.features first m.build_dependencies d.key (made_to m.features [] m.dependencies d normal makes)
        | inr late ↦ made_to m.features first m.build_dependencies d late makes
      ]) in
      let one : feature_of (d.key, item.Dependency d.key ∷ []) ≡ f = λ i. record { name = sym name i; items = sym items i } in
      subst (Contains (features_of m.features m.dependencies m.build_dependencies)) one (map_each feature_of (with_written both m.features) (d.key, item.Dependency d.key ∷ []) (written_old both m.features (d.key, item.Dependency d.key ∷ []) there no_feature))

  pub features_are : (f : Feature) → Contains (features_of m.features m.dependencies m.build_dependencies) f ↔ IsFeature m f
  features_are f = (features_from f, features_to f)
