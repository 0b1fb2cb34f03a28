-- Each rule that is written down speaks of cells, and what it gives holds where its premises do.
use Rattle.std.proofs.Common.{◌≡◌, ◌≢◌, inl, inr, ℕ, ◌+◌, ◌<◌, ◌≤◌, ◌==◌, Bool, true, false, codes, List, [], ◌∷◌, ◌++◌, Contains, Option, Some, length, arith, refl, sym, ◌∙◌, ap, subst, if◌then◌else◌}
use Rattle.std.specs.Prelude.{slice_get}
use Rattle.std.specs.Str.{bytes_eq}
use Rattle.std.proofs.lemmas.Bool.{eq-eqb, false≢true}
use Rattle.std.proofs.lemmas.Option.{slice_get_within, get_or_from_slice_get, slice_get_cases}
use Rattle.std.proofs.lemmas.List.Elements.{Contains-append_cases}
use Rattle.pb_manifest_types.specs.declared.feature.Feature.{Feature}
use Rattle.pb_manifest_types.specs.declared.feature.FeatureItem.{FeatureItem}
use Rattle.pb_manifest_types.specs.declared.feature.FeatureItem.TheVariants.{Own, Dependency, Of, OfEnabled}
use Rattle.pb_workspace_types.specs.declared.package.Side.{Side}
use Rattle.pb_workspace_types.specs.declared.package.Side.TheVariants.{Target, Host}
use Rattle.pb_workspace_types.specs.declared.package.Package.{Package}
use Rattle.pb_workspace_types.specs.declared.package.Entry.{Entry}
use Rattle.pb_workspace_types.specs.declared.options.Selection.{Selection}
use Rattle.pb_workspace_types.specs.declared.workspace.Workspace.{Workspace}
use Rattle.pb_workspace_types.specs.Workspace.{side_of, HasEntry, ListsItem, HasFeature}
use Rattle.pb_workspace_types.specs.Settled.{IsSettled, IsPackage}
use Rattle.pb_graph.specs.declared.table.Rule.{Rule}
use Rattle.pb_graph.specs.Placed.{placed}
use Rattle.pb_graph.proofs.Membership.{none, single, cases, head, all_at}
use Rattle.pb_graph.proofs.Placed.{placed_from, where_true, where_false}
use Rattle.pb_feature.specs.Facts.{On, Has, Enabled, Holds, required, listed, named, of_enables, of_asks, of_gives, of_enabled, leads, with_listed, with_asked, with_default}
use Rattle.pb_feature.specs.Numbers.{bases_from, slot, features_of, slot_at, on, has, enabled}
use Rattle.pb_feature.specs.Rules.{pair, alone, there_rules, given_rules, enabled_rules, entry_rules, of_rules, item_rules, own_rules, both_item_rules, both_own_rules, one_item_rules, feature_rules, both_entry_rules, package_rules, rules_of}
use Rattle.pb_feature.proofs.Cells.{Cell, IsOn, HasSlot, IsEnabled, Numbered}
use Rattle.pb_feature.proofs.Slots.{IsSlot, slot_named, slot_below, some_there, same_name}

pub same_owner : (o : Option Package) (a b : Package) → o ≡ Some a → o ≡ Some b → a ≡ b
same_owner o a b x y = cc

pub same_entry : (o : Option Entry) (a b : Entry) → o ≡ Some a → o ≡ Some b → a ≡ b
same_entry o a b x y = cc

pub same_feature : (o : Option Feature) (a b : Feature) → o ≡ Some a → o ≡ Some b → a ≡ b
same_feature o a b x y = cc

-- there is one at each index below the length
pub one_at : {X : Type 0} (xs : List X) (k : ℕ) → k < length xs → (x : X) × (slice_get xs k ≡ Some x)
one_at xs k lt = elim (slice_get_cases xs k).1 [
  | inl h ↦ (h.0, h.2)
  | inr past ↦ absurd (omega (arith, lt, past.0))
]

pub contains_at : {X : Type 0} (xs : List X) (k : ℕ) (x : X) → slice_get xs k ≡ Some x → Contains xs x
contains_at xs k x at = (k, slice_get_within xs k x at, get_or_from_slice_get xs k x x at)

module _ (ws : Workspace) (selection : Selection) (settled : IsSettled ws) where
  abbrev ps : List Package
  ps = ws.packages

  abbrev bs : List ℕ
  bs = bases_from 0 ws.packages

  -- what a cell says
  abbrev pub Means : Cell → Type 0
  Means (IsOn p s) = Holds ws selection (On p s)
  Means (HasSlot p s k) = (f : List ℕ) × (slot_at ws.packages p f ≡ k) × Holds ws selection (Has p s f)
  Means (IsEnabled p s n) = Holds ws selection (Enabled p s n)

  pub record IsSound (r : Rule) : Type 0 where
    pub x : Cell
    pub y : Cell
    pub z : Cell
    pub first : Numbered ws.packages x r.first
    pub second : Numbered ws.packages y r.second
    pub gives : Numbered ws.packages z r.gives
    pub sound : Means x → Means y → Means z

  -- the package of an entry
  pub to_there : (p n : ℕ) (o : Package) (e : Entry) → slice_get ps p ≡ Some o → slice_get o.entries n ≡ Some e → (q : Package) × (slice_get ps e.to ≡ Some q)
  to_there p n o e at e_at =
      let is : IsPackage (length ps) o = all_at (IsPackage (length ps)) ps p o settled.packages at in
      one_at ps e.to (all_at (λ (d : Entry). d.to < length ps) o.entries n e is.leads e_at)

  pub num_on : (p : ℕ) (s : Side) (o : Package) → slice_get ps p ≡ Some o → Numbered ps (IsOn p s) (on bs p s)
  num_on p s o at = record { owner = o; at = at; is_in = tt; is = refl }

  pub num_has : (p : ℕ) (s : Side) (k : ℕ) (o : Package) → slice_get ps p ≡ Some o → k ≤ length o.features → Numbered ps (HasSlot p s k) (has bs p s k)
  num_has p s k o at le = record { owner = o; at = at; is_in = le; is = refl }

  pub num_enabled : (p : ℕ) (s : Side) (n : ℕ) (o : Package) → slice_get ps p ≡ Some o → n < length o.entries → Numbered ps (IsEnabled p s n) (enabled bs p s (length o.features) n)
  num_enabled p s n o at lt = record { owner = o; at = at; is_in = lt; is = refl }

  pub slot_of : (p : ℕ) (f : List ℕ) (o : Package) → slice_get ps p ≡ Some o → slot_at ps p f ≡ slot o.features f
  slot_of p f o at = ap (λ w. slot (features_of w) f) at

  pub num_given : (p : ℕ) (s : Side) (f : List ℕ) (o : Package) → slice_get ps p ≡ Some o → Numbered ps (HasSlot p s (slot_at ps p f)) (has bs p s (slot_at ps p f))
  num_given p s f o at = num_has p s (slot_at ps p f) o at (subst (λ k. k ≤ length o.features) (sym (slot_of p f o at)) (slot_below o.features f))

  pub feature_there : (p : ℕ) (f : List ℕ) (o : Package) → slice_get ps p ≡ Some o → slot o.features f ≢ 0 → HasFeature ws p f
  feature_there p f o at some = record { owner = o; package_at = at; is_there = some_there o.features f some }

  only : (x y z : Cell) (i j k : ℕ) (r : Rule) → Numbered ps x i → Numbered ps y j → Numbered ps z k → (Means x → Means y → Means z) → Contains (pair i j k ∷ []) r → IsSound r
  only x y z i j k r nx ny nz sound is = subst IsSound (single (pair i j k) r is) (record { x = x; y = y; z = z; first = nx; second = ny; gives = nz; sound = sound })

  not_zero : (k : ℕ) → (k == 0) ≡ false → k ≢ 0
  not_zero k e is = false≢true (sym e ∙ eq-eqb k 0 is)

  from_there : (x : Cell) (from q : ℕ) (t : Side) (test : Bool) (k : ℕ) (r : Rule) (o : Package) → Numbered ps x from → slice_get ps q ≡ Some o → k ≤ length o.features
      → (test ≡ true → k ≢ 0 → Means x → Means (HasSlot q t k)) → Contains (there_rules bs from q t test k) r → IsSound r
  from_there x from q t test k r o nx at le sound is =
      let w = where_true test (if k == 0 then [] else alone from (has bs q t k) ∷ []) r is in
      let v = where_false (k == 0) (alone from (has bs q t k) ∷ []) r w.1 in
      only x x (HasSlot q t k) from from (has bs q t k) r nx nx (num_has q t k o at le) (λ m _. sound w.0 (not_zero k v.0) m) v.1

  from_enabled : (p : ℕ) (s : Side) (n : ℕ) (o : Package) (e : Entry) (r : Rule) → slice_get ps p ≡ Some o → slice_get o.entries n ≡ Some e
      → Contains (enabled_rules ps bs (enabled bs p s (length o.features) n) (side_of e.kind s) e) r → IsSound r
  from_enabled p s n o e r at e_at is =
      let t : Side = side_of e.kind s in
      let en : ℕ = enabled bs p s (length o.features) n in
      let k : ℕ = slot_at ps e.to (codes "default") in
      let q = to_there p n o e at e_at in
      let here : HasEntry ws p n e = record { owner = o; package_at = at; entry_at = e_at } in
      let nx : Numbered ps (IsEnabled p s n) en = num_enabled p s n o at (slice_get_within o.entries n e e_at) in
      elim (Contains-append_cases ((alone en (on bs e.to t) ∷ []) ++ there_rules bs en e.to t e.default_features k) (placed (given_rules ps bs en e.to t) 0 e.features) r is) [
        | inl front ↦ (elim (Contains-append_cases (alone en (on bs e.to t) ∷ []) (there_rules bs en e.to t e.default_features k) r front) [
          | inl a ↦ only (IsEnabled p s n) (IsEnabled p s n) (IsOn e.to t) en en (on bs e.to t) r nx nx (num_on e.to t q.0 q.1) (λ m _. leads p s n e m here) a
          | inr b ↦
              from_there (IsEnabled p s n) en e.to t e.default_features k r q.0 nx q.1 (subst (λ j. j ≤ length q.0.features) (sym (slot_of e.to (codes "default") q.0 q.1)) (slot_below q.0.features (codes "default")))
              (λ takes some m. (codes "default", refl, with_default p s n e m here takes (feature_there e.to (codes "default") q.0 q.1 (λ z. some (slot_of e.to (codes "default") q.0 q.1 ∙ z))))) b
        ])
        | inr c ↦
            (let h = placed_from (given_rules ps bs en e.to t) e.features r c in
            only (IsEnabled p s n) (IsEnabled p s n) (HasSlot e.to t (slot_at ps e.to h.1)) en en (has bs e.to t (slot_at ps e.to h.1)) r nx nx (num_given e.to t h.1 q.0 q.1)
            (λ m _. (h.1, refl, with_listed p s n e h.1 m here (contains_at e.features h.0 h.1 h.2))) h.3)
      ]

  from_entry : (s : Side) (p : ℕ) (o : Package) (n : ℕ) (e : Entry) (r : Rule) → slice_get ps p ≡ Some o → slice_get o.entries n ≡ Some e
      → Contains (entry_rules ps bs s p (length o.features) n e) r → IsSound r
  from_entry s p o n e r at e_at is =
      let en : ℕ = enabled bs p s (length o.features) n in
      let nx : Numbered ps (IsEnabled p s n) en = num_enabled p s n o at (slice_get_within o.entries n e e_at) in
      elim (Contains-append_cases (if e.optional then [] else alone (on bs p s) en ∷ []) (enabled_rules ps bs en (side_of e.kind s) e) r is) [
        | inl a ↦
            (let w = where_false e.optional (alone (on bs p s) en ∷ []) r a in
            only (IsOn p s) (IsOn p s) (IsEnabled p s n) (on bs p s) (on bs p s) en r (num_on p s o at) (num_on p s o at) nx (λ m _. required p s n e m (record { owner = o; package_at = at; entry_at = e_at }) w.0) w.1)
        | inr b ↦ from_enabled p s n o e r at e_at b
      ]

  -- a feature at an index, that holds
  pub holds_named : (p : ℕ) (s : Side) (o : Package) (i : ℕ) (f : Feature) → slice_get ps p ≡ Some o → slice_get o.features i ≡ Some f → Means (HasSlot p s (i + 1)) → Holds ws selection (Has p s f.name)
  holds_named p s o i f at f_at (name, is, holds) =
      let e : slot o.features name ≡ i + 1 = sym (slot_of p name o at) ∙ is in
      let h : IsSlot o.features name (slot o.features name) = slot_named o.features name (λ z. absurd (omega arith)) in
      let index : h.index ≡ i = (let g : slot o.features name ≡ h.index + 1 = h.is in omega arith) in
      let same : h.feature ≡ f = same_feature (slice_get o.features i) h.feature f (subst (λ j. slice_get o.features j ≡ Some h.feature) index h.at) f_at in
      subst (λ x. Holds ws selection (Has p s x)) (sym h.named ∙ ap (λ (g : Feature). g.name) same) holds

  from_of : (s : Side) (p : ℕ) (o : Package) (i : ℕ) (f : Feature) (g : List ℕ) (n : ℕ) (e : Entry) (r : Rule) → slice_get ps p ≡ Some o → slice_get o.features i ≡ Some f → Contains f.items (Of e.key g) → slice_get o.entries n ≡ Some e
      → Contains (of_rules bs (has bs p s (i + 1)) p s (slot o.features e.key) (slot_at ps e.to g) (enabled bs p s (length o.features) n) e) r → IsSound r
  from_of s p o i f g n e r at f_at lists e_at is =
      let t : Side = side_of e.kind s in
      let en : ℕ = enabled bs p s (length o.features) n in
      let fr : ℕ = has bs p s (i + 1) in
      let q = to_there p n o e at e_at in
      let gives : ℕ = has bs e.to t (slot_at ps e.to g) in
      let its : ListsItem ws p f.name (Of e.key g) = record { owner = o; feature = f; package_at = at; is_there = contains_at o.features i f f_at; named = refl; listed = lists } in
      let here : HasEntry ws p n e = record { owner = o; package_at = at; entry_at = e_at } in
      let nx : Numbered ps (HasSlot p s (i + 1)) fr = num_has p s (i + 1) o at (let lt : i < length o.features = slice_get_within o.features i f f_at in omega (arith, lt)) in
      let holds : Means (HasSlot p s (i + 1)) → Holds ws selection (Has p s f.name) = holds_named p s o i f at f_at in
      elim (Contains-append_cases (alone fr en ∷ alone fr gives ∷ []) (there_rules bs fr p s e.optional (slot o.features e.key)) r is) [
        | inl two ↦ (elim (cases (alone fr en) (alone fr gives ∷ []) r two) [
          | inl a ↦ only (HasSlot p s (i + 1)) (HasSlot p s (i + 1)) (IsEnabled p s n) fr fr en r nx nx (num_enabled p s n o at (slice_get_within o.entries n e e_at)) (λ m _. of_enables p s f.name g n e (holds m) its here) (subst (λ y. Contains (alone fr en ∷ []) y) a (head (alone fr en) []))
          | inr b ↦ only (HasSlot p s (i + 1)) (HasSlot p s (i + 1)) (HasSlot e.to t (slot_at ps e.to g)) fr fr gives r nx nx (num_given e.to t g q.0 q.1)
              (λ m _. (g, refl, with_asked p s n e g (of_enables p s f.name g n e (holds m) its here) (of_asks p s f.name g n e (holds m) its here) here)) b
        ])
        | inr c ↦ from_there (HasSlot p s (i + 1)) fr p s e.optional (slot o.features e.key) r o nx at (slot_below o.features e.key)
            (λ opt some m. (e.key, slot_of p e.key o at, of_gives p s f.name g n e (holds m) its here opt (feature_there p e.key o at some))) c
      ]

  from_item : (s : Side) (p : ℕ) (o : Package) (i : ℕ) (f : Feature) (item : FeatureItem) (n : ℕ) (e : Entry) (r : Rule) → slice_get ps p ≡ Some o → slice_get o.features i ≡ Some f → Contains f.items item → slice_get o.entries n ≡ Some e
      → Contains (item_rules ps bs s p o.features (i + 1) item n e) r → IsSound r
  from_item s p o i f (Own g) n e r at f_at lists e_at is = absurd (none r is)
  from_item s p o i f (Dependency name) n e r at f_at lists e_at is =
      let w = where_true (bytes_eq name e.key) (alone (has bs p s (i + 1)) (enabled bs p s (length o.features) n) ∷ []) r is in
      let its : Contains f.items (Dependency e.key) = subst (λ k. Contains f.items (Dependency k)) (same_name name e.key w.0) lists in
      let nx : Numbered ps (HasSlot p s (i + 1)) (has bs p s (i + 1)) = num_has p s (i + 1) o at (let lt : i < length o.features = slice_get_within o.features i f f_at in omega (arith, lt)) in
      only (HasSlot p s (i + 1)) (HasSlot p s (i + 1)) (IsEnabled p s n) _ _ _ r nx nx (num_enabled p s n o at (slice_get_within o.entries n e e_at))
      (λ m _. named p s f.name n e (holds_named p s o i f at f_at m) (record { owner = o; feature = f; package_at = at; is_there = contains_at o.features i f f_at; named = refl; listed = its }) (record { owner = o; package_at = at; entry_at = e_at })) w.1
  from_item s p o i f (Of name g) n e r at f_at lists e_at is =
      let w = where_true (bytes_eq name e.key) (of_rules bs (has bs p s (i + 1)) p s (slot o.features name) (slot_at ps e.to g) (enabled bs p s (length o.features) n) e) r is in
      let key : name ≡ e.key = same_name name e.key w.0 in
      from_of s p o i f g n e r at f_at (subst (λ k. Contains f.items (Of k g)) key lists) e_at
      (subst (λ k. Contains (of_rules bs (has bs p s (i + 1)) p s (slot o.features k) (slot_at ps e.to g) (enabled bs p s (length o.features) n) e) r) key w.1)
  from_item s p o i f (OfEnabled name g) n e r at f_at lists e_at is =
      let t : Side = side_of e.kind s in
      let q = to_there p n o e at e_at in
      let w = where_true (bytes_eq name e.key) (pair (has bs p s (i + 1)) (enabled bs p s (length o.features) n) (has bs e.to t (slot_at ps e.to g)) ∷ []) r is in
      let its : Contains f.items (OfEnabled e.key g) = subst (λ k. Contains f.items (OfEnabled k g)) (same_name name e.key w.0) lists in
      let here : HasEntry ws p n e = record { owner = o; package_at = at; entry_at = e_at } in
      let nx : Numbered ps (HasSlot p s (i + 1)) (has bs p s (i + 1)) = num_has p s (i + 1) o at (let lt : i < length o.features = slice_get_within o.features i f f_at in omega (arith, lt)) in
      only (HasSlot p s (i + 1)) (IsEnabled p s n) (HasSlot e.to t (slot_at ps e.to g)) _ _ _ r nx (num_enabled p s n o at (slice_get_within o.entries n e e_at)) (num_given e.to t g q.0 q.1)
      (λ m en. (g, refl, with_asked p s n e g en (of_enabled p s f.name g n e (holds_named p s o i f at f_at m) (record { owner = o; feature = f; package_at = at; is_there = contains_at o.features i f f_at; named = refl; listed = its }) here en) here)) w.1

  from_own : (s : Side) (p : ℕ) (o : Package) (i : ℕ) (f : Feature) (item : FeatureItem) (r : Rule) → slice_get ps p ≡ Some o → slice_get o.features i ≡ Some f → Contains f.items item
      → Contains (own_rules bs s p o.features (i + 1) item) r → IsSound r
  from_own s p o i f (Own g) r at f_at lists is =
      let nx : Numbered ps (HasSlot p s (i + 1)) (has bs p s (i + 1)) = num_has p s (i + 1) o at (let lt : i < length o.features = slice_get_within o.features i f f_at in omega (arith, lt)) in
      only (HasSlot p s (i + 1)) (HasSlot p s (i + 1)) (HasSlot p s (slot o.features g)) _ _ _ r nx nx (num_has p s (slot o.features g) o at (slot_below o.features g))
      (λ m _. (g, slot_of p g o at, listed p s f.name g (holds_named p s o i f at f_at m) (record { owner = o; feature = f; package_at = at; is_there = contains_at o.features i f f_at; named = refl; listed = lists }))) is
  from_own s p o i f (Dependency name) r at f_at lists is = absurd (none r is)
  from_own s p o i f (Of name g) r at f_at lists is = absurd (none r is)
  from_own s p o i f (OfEnabled name g) r at f_at lists is = absurd (none r is)

  from_one_item : (p : ℕ) (o : Package) (i : ℕ) (f : Feature) (item : FeatureItem) (n : ℕ) (e : Entry) (r : Rule) → slice_get ps p ≡ Some o → slice_get o.features i ≡ Some f → Contains f.items item → slice_get o.entries n ≡ Some e
      → Contains (both_item_rules ps bs p o.features (i + 1) item n e) r → IsSound r
  from_one_item p o i f item n e r at f_at lists e_at is =
      elim (Contains-append_cases (item_rules ps bs Target p o.features (i + 1) item n e) (item_rules ps bs Host p o.features (i + 1) item n e) r is) [
        | inl target ↦ from_item Target p o i f item n e r at f_at lists e_at target
        | inr host ↦ from_item Host p o i f item n e r at f_at lists e_at host
      ]

  from_feature : (p : ℕ) (o : Package) (i : ℕ) (f : Feature) (r : Rule) → slice_get ps p ≡ Some o → slice_get o.features i ≡ Some f → Contains (feature_rules ps bs p o i f) r → IsSound r
  from_feature p o i f r at f_at is =
      let h = placed_from (one_item_rules ps bs p o (i + 1)) f.items r is in
      let lists : Contains f.items h.1 = contains_at f.items h.0 h.1 h.2 in
      elim (Contains-append_cases (both_own_rules bs p o.features (i + 1) h.1) (placed (both_item_rules ps bs p o.features (i + 1) h.1) 0 o.entries) r h.3) [
        | inl own ↦ (elim (Contains-append_cases (own_rules bs Target p o.features (i + 1) h.1) (own_rules bs Host p o.features (i + 1) h.1) r own) [
          | inl target ↦ from_own Target p o i f h.1 r at f_at lists target
          | inr host ↦ from_own Host p o i f h.1 r at f_at lists host
        ])
        | inr rest ↦
            (let j = placed_from (both_item_rules ps bs p o.features (i + 1) h.1) o.entries r rest in
            from_one_item p o i f h.1 j.0 j.1 r at f_at lists j.2 j.3)
      ]

  from_entries : (s : Side) (p : ℕ) (o : Package) (r : Rule) → slice_get ps p ≡ Some o → Contains (placed (entry_rules ps bs s p (length o.features)) 0 o.entries) r → IsSound r
  from_entries s p o r at is = let h = placed_from (entry_rules ps bs s p (length o.features)) o.entries r is in from_entry s p o h.0 h.1 r at h.2 h.3

  from_package : (p : ℕ) (o : Package) (r : Rule) → slice_get ps p ≡ Some o → Contains (package_rules ps bs p o) r → IsSound r
  from_package p o r at is = elim (Contains-append_cases (both_entry_rules ps bs p o) (placed (feature_rules ps bs p o) 0 o.features) r is) [
    | inl of_entries ↦ (elim (Contains-append_cases (placed (entry_rules ps bs Target p (length o.features)) 0 o.entries) (placed (entry_rules ps bs Host p (length o.features)) 0 o.entries) r of_entries) [
      | inl target ↦ from_entries Target p o r at target
      | inr host ↦ from_entries Host p o r at host
    ])
    | inr of_features ↦ (let h = placed_from (feature_rules ps bs p o) o.features r of_features in from_feature p o h.0 h.1 r at h.2 h.3)
  ]

  pub from_rules : (r : Rule) → Contains (rules_of ws.packages (bases_from 0 ws.packages)) r → IsSound r
  from_rules r is = let h = placed_from (package_rules ps bs) ps r is in from_package h.0 h.1 r h.2 h.3
