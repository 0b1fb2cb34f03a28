-- What is marked is what holds, and what is handed out says it.
use Rattle.std.proofs.Common.{◌≡◌, ◌≢◌, ◌⊎◌, inl, inr, Less, ℕ, zero, suc, ◌+◌, ◌*◌, ◌<◌, Bool, ◌||◌, ◌&&◌, not, true, false, codes, IsTrue, List, [], ◌∷◌, ◌++◌, Contains, All, Some, None, length, map, get_or, arith, refl, sym, ◌∙◌, ap, subst, if◌then◌else◌}
use Rattle.std.specs.Prelude.{slice_get, ◌↔◌}
use Rattle.std.specs.List.{list_any, Any, AllByRecursion}
use Rattle.std.specs.List.Sorted.{IsStrictlySortedBy}
use Rattle.std.specs.Ordering.{nat_cmp}
use Rattle.std.specs.Cmp.Lexicographic.{slice_cmp}
use Rattle.std.specs.Option.{unwrap_or}
use Rattle.std.specs.Str.{bytes_eq}
use Rattle.std.proofs.lemmas.Bool.{false≢true, and_parts}
use Rattle.std.proofs.lemmas.Option.{slice_get_within, get_or_from_slice_get, unwrap_or-slice_get, slice_get_cases}
use Rattle.std.proofs.lemmas.List.Folds.{Any-from_list_any}
use Rattle.std.proofs.lemmas.List.Elements.{All-contains, Contains-get_or}
use Rattle.pb_manifest_types.specs.declared.feature.Feature.{Feature}
use Rattle.pb_workspace_types.specs.declared.package.Side.{Side}
use Rattle.pb_workspace_types.specs.declared.package.Side.TheVariants.{Target, Host}
use Rattle.pb_workspace_types.specs.declared.package.Package.{Package}
use Rattle.pb_workspace_types.specs.declared.package.Entry.{Entry}
use Rattle.pb_workspace_types.specs.declared.options.Selection.{Selection}
use Rattle.pb_workspace_types.specs.declared.workspace.Workspace.{Workspace}
use Rattle.pb_workspace_types.specs.Workspace.{HasFeature}
use Rattle.pb_workspace_types.specs.Settled.{IsSettled, IsPackage, IsAscending}
use Rattle.pb_graph.specs.declared.table.Rule.{Rule}
use Rattle.pb_graph.specs.Closure.{seed, joined, IsLeast, is_on}
use Rattle.pb_graph.specs.Table.{IsInRange}
use Rattle.pb_graph.specs.Placed.{placed}
use Rattle.pb_graph.proofs.Membership.{none, single, cases, head, all_at}
use Rattle.pb_graph.proofs.Placed.{placed_from, placed_to, where_true, at_true}
use Rattle.pb_feature_types.specs.declared.features.Part.{Part}
use Rattle.pb_feature_types.specs.declared.features.Sides.{Sides}
use Rattle.pb_feature_types.specs.declared.features.Features.{Features}
use Rattle.pb_feature.specs.Facts.{On, Has, Enabled, of_package, IsChosen, all, asked, asked_of, default, Holds, selected, chosen}
use Rattle.pb_feature.specs.Numbers.{bases_from, end_from, slot, slot_at, on, has, enabled}
use Rattle.pb_feature.specs.Rules.{pair, rules_of, is_text_of, is_chosen, chosen_seeds, owner_seeds, selected_seeds, seeds_of}
use Rattle.pb_feature.specs.Resolved.{IsResolved}
use Rattle.pb_feature_types.specs.Features.{part_of, active_of, names_of, enabled_of, is_active, features_at, is_enabled}
use Rattle.pb_feature.specs.Marked.{marked_name, marked_entry, marked_part, marked_sides, NoneMarkedMissing}
use Rattle.pb_feature.proofs.Slots.{IsSlot, slot_named, slot_at_index, same_name}
use Rattle.pb_feature.proofs.Cells.{Cell, IsOn, HasSlot, IsEnabled, Numbered, exact, below}
use Rattle.pb_feature.proofs.Sound.{Means, IsSound, from_rules, same_owner, one_at, contains_at, num_on, num_has, num_enabled, slot_of, feature_there, holds_named}
use Rattle.pb_feature.proofs.Whole.{Follows, whole}

or_cases : (a b c : Bool) → (a || b || c) ≡ true → (a ≡ true) ⊎ ((b ≡ true) ⊎ (c ≡ true))
or_cases true b c e = inl refl
or_cases false true c e = inr (inl refl)
or_cases false false c e = inr (inr e)

pub or_two : (a b : Bool) → (a || b) ≡ true → (a ≡ true) ⊎ (b ≡ true)
or_two true b e = inl refl
or_two false b e = inr e

not_true : (b : Bool) → not b ≡ true → b ≡ false
not_true true e = absurd (false≢true e)
not_true false e = refl

-- what each of a list gives where each gives one
module _ {A B : Type 0} (g : ℕ → A → B) where
  singles : (n : ℕ) (xs : List A) (k m : ℕ) (x : A) → slice_get xs k ≡ Some x → m ≡ n + k → slice_get (placed (λ i y. g i y ∷ []) n xs) k ≡ Some (g m x)
  singles n [] k m x at is = cc
  singles n (w ∷ xs) zero m x at is =
      let e : n ≡ m = omega arith in
      let same : w ≡ x = cc in
      ap (λ i. Some (g i w)) e ∙ ap (λ y. Some (g m y)) same
  singles n (w ∷ xs) (suc k) m x at is = singles (n + 1) xs k m x at (omega arith)

  singles_none : (n : ℕ) (xs : List A) (k : ℕ) → slice_get xs k ≡ None → slice_get (placed (λ i y. g i y ∷ []) n xs) k ≡ None
  singles_none n [] k at = refl
  singles_none n (w ∷ xs) zero at = cc
  singles_none n (w ∷ xs) (suc k) at = singles_none (n + 1) xs k at

module _ (marks : List Bool) (bs : List ℕ) (p : ℕ) (s : Side) where
  kept_all : (P : List ℕ → Type 0) (n : ℕ) (fs : List Feature) → AllByRecursion P (map (λ (f : Feature). f.name) fs) → AllByRecursion P (placed (marked_name marks bs p s) n fs)
  kept_all P n [] each = tt
  kept_all P n (f ∷ fs) each = by (is_on marks (has bs p s (n + 1))) each.0 (kept_all P (n + 1) fs each.1)
    where
      by : (b : Bool) → P f.name → AllByRecursion P (placed (marked_name marks bs p s) (n + 1) fs) → AllByRecursion P ((if b then f.name ∷ [] else []) ++ placed (marked_name marks bs p s) (n + 1) fs)
      by true it rest = (it, rest)
      by false it rest = rest

  kept_sorted : (n : ℕ) (fs : List Feature) → IsStrictlySortedBy (slice_cmp nat_cmp) (map (λ (f : Feature). f.name) fs) → IsStrictlySortedBy (slice_cmp nat_cmp) (placed (marked_name marks bs p s) n fs)
  unfolding IsStrictlySortedBy
  kept_sorted n [] sorted = tt
  kept_sorted n (f ∷ fs) sorted = by (is_on marks (has bs p s (n + 1))) (kept_all (λ y. slice_cmp nat_cmp f.name y ≡ Less) (n + 1) fs sorted.0) (kept_sorted (n + 1) fs sorted.1)
    where
      by : (b : Bool) → AllByRecursion (λ y. slice_cmp nat_cmp f.name y ≡ Less) (placed (marked_name marks bs p s) (n + 1) fs) → IsStrictlySortedBy (slice_cmp nat_cmp) (placed (marked_name marks bs p s) (n + 1) fs)
          → IsStrictlySortedBy (slice_cmp nat_cmp) ((if b then f.name ∷ [] else []) ++ placed (marked_name marks bs p s) (n + 1) fs)
      by true less rest = (less, rest)
      by false less rest = rest

module _ (ws : Workspace) (selection : Selection) (settled : IsSettled ws) (within : All (λ p. p < length ws.packages) selection.packages) where
  abbrev ps : List Package
  ps = ws.packages

  abbrev bs : List ℕ
  bs = bases_from 0 ws.packages

  abbrev Known : ℕ → Type 0
  Known i = (c : Cell) × Numbered ws.packages c i × Means ws selection settled c

  its_package : (p : ℕ) (o : Package) → slice_get ps p ≡ Some o → IsPackage (length ps) o
  its_package p o at = all_at (IsPackage (length ps)) ps p o settled.packages at

  is_choice : (p : ℕ) (o : Package) (f : List ℕ) → slice_get ps p ≡ Some o → HasFeature ws p f → is_chosen selection o.name f ≡ true → IsChosen ws selection p f
  is_choice p o f at there is = elim (or_cases selection.all_features (not selection.no_default_features && bytes_eq f (codes "default")) (list_any (is_text_of o.name f) selection.features) is) [
    | inl every ↦ all f every there
    | inr (inl by_default) ↦
        (let both = and_parts (not selection.no_default_features) (bytes_eq f (codes "default")) by_default in
        let name : f ≡ codes "default" = same_name f (codes "default") both.1 in
        subst (IsChosen ws selection p) (sym name) (default (not_true selection.no_default_features both.0) (subst (HasFeature ws p) name there)))
    | inr (inr one) ↦ by_text (Any-from_list_any (is_text_of o.name f) selection.features one)
  ]
    where
      by_one : (text : List ℕ) → Contains selection.features text → is_text_of o.name f text ≡ true → IsChosen ws selection p f
      by_one text is_asked is_text = elim (or_two (bytes_eq text f) (bytes_eq text (of_package o.name f)) is_text) [
        | inl plain ↦ asked f (subst (Contains selection.features) (same_name text f plain) is_asked) there
        | inr long ↦
            (let name : of_package o.name f ≡ of_package there.owner.name f = ap (λ (w : Package). of_package w.name f) (same_owner (slice_get ps p) o there.owner at there.package_at) in
            asked_of f there (subst (Contains selection.features) (same_name text (of_package o.name f) long ∙ name) is_asked))
      ]

      by_text : Any (λ text. is_text_of o.name f text ≡ true) selection.features → IsChosen ws selection p f
      by_text any = by_one any.1 (any.0, any.2, any.3) any.4

  from_owner : (p : ℕ) (o : Package) (i : ℕ) → slice_get ps p ≡ Some o → Contains selection.packages p → Contains (owner_seeds bs selection p (Some o)) i → Known i
  from_owner p o i at is given = elim (cases (on bs p Target) (placed (chosen_seeds bs selection p o.name) 0 o.features) i given) [
    | inl here ↦ (IsOn p Target, subst (Numbered ps (IsOn p Target)) here (num_on ws selection settled p Target o at), selected p is)
    | inr there ↦
        (let h = placed_from (chosen_seeds bs selection p o.name) o.features i there in
        let w = where_true (is_chosen selection o.name h.1.name) (has bs p Target (h.0 + 1) ∷ []) i h.3 in
        let number : slot o.features h.1.name ≡ h.0 + 1 = slot_at_index o.features h.0 h.1 (its_package p o at).features h.2 in
        let lt : h.0 < length o.features = slice_get_within o.features h.0 h.1 h.2 in
        let present : HasFeature ws p h.1.name = feature_there ws selection settled p h.1.name o at (λ z. absurd (omega arith)) in (
          HasSlot p Target (h.0 + 1),
          subst (Numbered ps (HasSlot p Target (h.0 + 1))) (single (has bs p Target (h.0 + 1)) i w.1) (num_has ws selection settled p Target (h.0 + 1) o at (omega (arith, lt))),
          (h.1.name, slot_of ws selection settled p h.1.name o at ∙ number, chosen p h.1.name is (is_choice p o h.1.name at present w.0)),
        ))
  ]

  from_seeds : (i : ℕ) → Contains (seeds_of ps bs selection) i → Known i
  from_seeds i is =
      let h = placed_from (selected_seeds ps bs selection) selection.packages i is in
      let here : Contains selection.packages h.1 = contains_at selection.packages h.0 h.1 h.2 in
      let o = one_at ps h.1 (All-contains (λ q. q < length ps) selection.packages h.1 within here) in
      from_owner h.1 o.0 i o.1 here (subst (λ w. Contains (owner_seeds bs selection h.1 w) i) o.1 h.3)

  -- what follows is known
  known : (i : ℕ) → Follows ws selection settled within i → Known i
  known _ (seed i is) = from_seeds i is
  known _ (joined i j k first second rule) =
      let r : IsSound ws selection settled (pair i j k) = from_rules ws selection settled (pair i j k) rule in
      let a = known i first in
      let b = known j second in
      (r.z, r.gives, r.sound (subst (Means ws selection settled) (exact ps a.0 r.x i a.1 r.first) a.2) (subst (Means ws selection settled) (exact ps b.0 r.y j b.1 r.second) b.2))

  -- a cell whose number follows
  known_cell : (c : Cell) (i : ℕ) → Numbered ps c i → Follows ws selection settled within i → Means ws selection settled c
  known_cell c i n follows = let h = known i follows in subst (Means ws selection settled) (exact ps h.0 c i h.1 n) h.2

  pub seeds_below : All (λ i. i < end_from 0 ws.packages * 2) (seeds_of ws.packages (bases_from 0 ws.packages) selection)
  seeds_below k d lt =
      let i : ℕ = get_or (seeds_of ps bs selection) k d in
      let h = from_seeds i (Contains-get_or (seeds_of ps bs selection) k d lt) in
      below ps h.0 i h.1

  pub rules_below : All (IsInRange (end_from 0 ws.packages * 2)) (rules_of ws.packages (bases_from 0 ws.packages))
  rules_below k d lt =
      let r : Rule = get_or (rules_of ps bs) k d in
      let h : IsSound ws selection settled r = from_rules ws selection settled r (Contains-get_or (rules_of ps bs) k d lt) in
      record { first = below ps h.x r.first h.first; second = below ps h.y r.second h.second; gives = below ps h.z r.gives h.gives }

  module _ (marks : List Bool) (least : IsLeast (Follows ws selection settled within) (is_on marks)) where
    -- a package that is given a feature that it does not have
    pub missing_from : (p : ℕ) (s : Side) (o : Package) → slice_get ws.packages p ≡ Some o → is_on marks (has (bases_from 0 ws.packages) p s 0) ≡ true → (f : List ℕ) × Holds ws selection (Has p s f) × (slot_at ws.packages p f ≡ 0)
    missing_from p s o at marked =
        let i : ℕ = has bs p s 0 in
        let m : Means ws selection settled (HasSlot p s 0) = known_cell (HasSlot p s 0) i (num_has ws selection settled p s 0 o at (omega arith)) ((least i).0 marked) in
        (m.0, m.2, m.1)

    abbrev sides_of : ℕ → Package → Sides
    sides_of p o = record { target = marked_part marks bs p Target o; host = marked_part marks bs p Host o }

    part_is : (p : ℕ) (s : Side) (o : Package) → part_of (sides_of p o) s ≡ marked_part marks bs p s o
    part_is p Target o = refl
    part_is p Host o = refl

    module _ (features : Features) (made : features.packages ≡ placed (marked_sides marks bs) 0 ps) (complete : NoneMarkedMissing marks bs (length ps)) where
      sides_at : (p : ℕ) (o : Package) → slice_get ps p ≡ Some o → slice_get features.packages p ≡ Some (sides_of p o)
      sides_at p o at = ap (λ xs. slice_get xs p) made ∙ singles sides_of 0 ps p p o at (omega arith)

      no_sides : (p : ℕ) → slice_get ps p ≡ None → slice_get features.packages p ≡ None
      no_sides p at = ap (λ xs. slice_get xs p) made ∙ singles_none sides_of 0 ps p at

      none_some : (p : ℕ) (o : Package) → slice_get ps p ≡ None → slice_get ps p ≡ Some o → ⊥
      none_some p o x y = cc

      -- of a package that there is
      active_is : (p : ℕ) (s : Side) (o : Package) → slice_get ps p ≡ Some o → is_active features p s ≡ is_on marks (on bs p s)
      active_is p s o at = ap (λ w. active_of w s) (sides_at p o at) ∙ ap (λ (part : Part). part.active) (part_is p s o)

      names_are : (p : ℕ) (s : Side) (o : Package) → slice_get ps p ≡ Some o → features_at features p s ≡ placed (marked_name marks bs p s) 0 o.features
      names_are p s o at = ap (λ w. names_of w s) (sides_at p o at) ∙ ap (λ (part : Part). part.features) (part_is p s o)

      flags_are : (p : ℕ) (s : Side) (n : ℕ) (o : Package) → slice_get ps p ≡ Some o → is_enabled features p s n ≡ get_or (placed (marked_entry marks bs p s (length o.features)) 0 o.entries) n false
      flags_are p s n o at = ap (λ w. enabled_of w s n) (sides_at p o at) ∙ ap (λ (part : Part). get_or part.enabled n false) (part_is p s o)

      flag : (p : ℕ) (s : Side) (o : Package) → ℕ → Entry → Bool
      flag p s o n e = is_on marks (enabled bs p s (length o.features) n)

      flag_at : (p : ℕ) (s : Side) (n : ℕ) (o : Package) (e : Entry) → slice_get o.entries n ≡ Some e → get_or (placed (marked_entry marks bs p s (length o.features)) 0 o.entries) n false ≡ is_on marks (enabled bs p s (length o.features) n)
      flag_at p s n o e at = get_or_from_slice_get (placed (marked_entry marks bs p s (length o.features)) 0 o.entries) n (is_on marks (enabled bs p s (length o.features) n)) false
          (singles (λ m x. is_on marks (enabled bs p s (length o.features) m)) 0 o.entries n n e at (omega arith))

      no_flag : (p : ℕ) (s : Side) (n : ℕ) (o : Package) → slice_get o.entries n ≡ None → get_or (placed (marked_entry marks bs p s (length o.features)) 0 o.entries) n false ≡ false
      no_flag p s n o at =
          let flags : List Bool = placed (marked_entry marks bs p s (length o.features)) 0 o.entries in
          sym (unwrap_or-slice_get flags n false) ∙ ap (λ w. unwrap_or w false) (singles_none (λ m x. is_on marks (enabled bs p s (length o.features) m)) 0 o.entries n at)

      it_holds : (p : ℕ) (s : Side) (o : Package) → slice_get ps p ≡ Some o → (IsTrue (is_active features p s) ↔ Holds ws selection (On p s))
      it_holds p s o at = (
        λ on_it. known_cell (IsOn p s) (on bs p s) (num_on ws selection settled p s o at) ((least (on bs p s)).0 (sym (active_is p s o at) ∙ on_it)),
        λ holds. active_is p s o at ∙ (least (on bs p s)).1 (whole ws selection settled within (On p s) holds).2,
      )

      pub active_exact : (p : ℕ) (s : Side) → IsTrue (is_active features p s) ↔ Holds ws selection (On p s)
      active_exact p s = elim (slice_get_cases ps p).1 [
        | inl h ↦ it_holds p s h.0 h.2
        | inr h ↦ (
          λ on_it. absurd (false≢true (sym (ap (λ w. active_of w s) (no_sides p h.1)) ∙ on_it)),
          λ holds. (let m = whole ws selection settled within (On p s) holds in absurd (none_some p m.0 h.1 m.1)),
        )
      ]

      enabled_holds : (p : ℕ) (s : Side) (n : ℕ) (o : Package) → slice_get ps p ≡ Some o → (IsTrue (is_enabled features p s n) ↔ Holds ws selection (Enabled p s n))
      enabled_holds p s n o at = elim (slice_get_cases o.entries n).1 [
        | inl h ↦
            (let i : ℕ = enabled bs p s (length o.features) n in
            let value : is_enabled features p s n ≡ is_on marks i = flags_are p s n o at ∙ flag_at p s n o h.0 h.2 in (
              λ on_it. known_cell (IsEnabled p s n) i (num_enabled ws selection settled p s n o at h.1) ((least i).0 (sym value ∙ on_it)),
              λ holds. (let m = whole ws selection settled within (Enabled p s n) holds in
                  value ∙ (least i).1 (subst (λ (w : Package). Follows ws selection settled within (enabled bs p s (length w.features) n)) (same_owner (slice_get ps p) m.0 o m.1 at) m.3)),
            ))
        | inr h ↦ (
          λ on_it. absurd (false≢true (sym (flags_are p s n o at ∙ no_flag p s n o h.1) ∙ on_it)),
          λ holds. (let m = whole ws selection settled within (Enabled p s n) holds in
              let same : m.0 ≡ o = same_owner (slice_get ps p) m.0 o m.1 at in
              let lt : n < length o.entries = subst (λ (w : Package). n < length w.entries) same m.2 in
              absurd (omega (arith, lt, h.0))),
        )
      ]

      pub enabled_exact : (p : ℕ) (s : Side) (n : ℕ) → IsTrue (is_enabled features p s n) ↔ Holds ws selection (Enabled p s n)
      enabled_exact p s n = elim (slice_get_cases ps p).1 [
        | inl h ↦ enabled_holds p s n h.0 h.2
        | inr h ↦ (
          λ on_it. absurd (false≢true (sym (ap (λ w. enabled_of w s n) (no_sides p h.1)) ∙ on_it)),
          λ holds. (let m = whole ws selection settled within (Enabled p s n) holds in absurd (none_some p m.0 h.1 m.1)),
        )
      ]

      not_missing : (p : ℕ) (s : Side) (o : Package) → slice_get ps p ≡ Some o → is_on marks (has bs p s 0) ≡ false
      not_missing p Target o at = (complete p (slice_get_within ps p o at)).0
      not_missing p Host o at = (complete p (slice_get_within ps p o at)).1

      pub present : (p : ℕ) (s : Side) (f : List ℕ) (o : Package) → slice_get ps p ≡ Some o → Holds ws selection (Has p s f) → slot o.features f ≢ 0
      present p s f o at holds zero_is =
          let number : slot_at ps p f ≡ 0 = slot_of ws selection settled p f o at ∙ zero_is in
          let follows : Follows ws selection settled within (has bs p s 0) = subst (λ k. Follows ws selection settled within (has bs p s k)) number (whole ws selection settled within (Has p s f) holds).2 in
          false≢true (sym (not_missing p s o at) ∙ (least (has bs p s 0)).1 follows)

      has_holds : (p : ℕ) (s : Side) (f : List ℕ) (o : Package) → slice_get ps p ≡ Some o → (Contains (features_at features p s) f ↔ Holds ws selection (Has p s f))
      has_holds p s f o at = (to, from)
        where
          to : Contains (features_at features p s) f → Holds ws selection (Has p s f)
          to is =
              let h = placed_from (marked_name marks bs p s) o.features f (subst (λ xs. Contains xs f) (names_are p s o at) is) in
              let w = where_true (is_on marks (has bs p s (h.0 + 1))) (h.1.name ∷ []) f h.3 in
              let lt : h.0 < length o.features = slice_get_within o.features h.0 h.1 h.2 in
              let i : ℕ = has bs p s (h.0 + 1) in
              let m : Means ws selection settled (HasSlot p s (h.0 + 1)) = known_cell (HasSlot p s (h.0 + 1)) i (num_has ws selection settled p s (h.0 + 1) o at (omega (arith, lt))) ((least i).0 w.0) in
              subst (λ x. Holds ws selection (Has p s x)) (single h.1.name f w.1) (holds_named ws selection settled p s o h.0 h.1 at h.2 m)

          from : Holds ws selection (Has p s f) → Contains (features_at features p s) f
          from holds =
              let h : IsSlot o.features f (slot o.features f) = slot_named o.features f (present p s f o at holds) in
              let i : ℕ = has bs p s (h.index + 1) in
              let follows : Follows ws selection settled within i = subst (λ k. Follows ws selection settled within (has bs p s k)) (slot_of ws selection settled p f o at ∙ h.is) (whole ws selection settled within (Has p s f) holds).2 in
              subst (λ xs. Contains xs f) (sym (names_are p s o at))
              (placed_to (marked_name marks bs p s) o.features h.index h.feature f h.at
              (at_true (is_on marks i) (h.feature.name ∷ []) f ((least i).1 follows) (subst (Contains (h.feature.name ∷ [])) h.named (head h.feature.name []))))

      pub has_exact : (p : ℕ) (s : Side) (f : List ℕ) → Contains (features_at features p s) f ↔ Holds ws selection (Has p s f)
      has_exact p s f = elim (slice_get_cases ps p).1 [
        | inl h ↦ has_holds p s f h.0 h.2
        | inr h ↦ (
          λ is. absurd (none f (subst (λ xs. Contains xs f) (ap (λ w. names_of w s) (no_sides p h.1)) is)),
          λ holds. (let m = whole ws selection settled within (Has p s f) holds in absurd (none_some p m.0 h.1 m.1)),
        )
      ]

      pub in_order : (p : ℕ) (s : Side) → IsAscending (features_at features p s)
      unfolding IsStrictlySortedBy
      in_order p s = elim (slice_get_cases ps p).1 [
        | inl h ↦ subst IsAscending (sym (names_are p s h.0 h.2)) (kept_sorted marks bs p s 0 h.0.features (its_package p h.0 h.2).features)
        | inr h ↦ subst IsAscending (sym (ap (λ w. names_of w s) (no_sides p h.1))) tt
      ]

      pub exactly : IsResolved ws selection features
      exactly = record { active = active_exact; has = has_exact; enabled = enabled_exact; order = in_order }
