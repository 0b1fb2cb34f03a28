-- Each rule of what holds is written down, so what holds follows.
use Rattle.std.proofs.Common.{◌≡◌, ◌≢◌, inl, inr, ℕ, ◌+◌, ◌<◌, ◌==◌, Bool, ◌||◌, ◌&&◌, not, true, false, codes, List, [], ◌∷◌, ◌++◌, Contains, All, Some, length, refl, sym, ◌∙◌, ap, subst, if◌then◌else◌}
use Rattle.std.specs.Prelude.{slice_get}
use Rattle.std.specs.List.{list_any}
use Rattle.std.specs.Str.{bytes_eq}
use Rattle.std.proofs.lemmas.Bool.{eqb-true, false≢true, cases_Bool}
use Rattle.std.proofs.lemmas.Option.{slice_get_within, slice_get-get_or}
use Rattle.std.proofs.lemmas.List.Folds.{list_any_at}
use Rattle.std.proofs.lemmas.List.Elements.{Contains-append_left, Contains-append_right, All-contains}
use Rattle.pb_manifest_types.specs.declared.feature.Feature.{Feature}
use Rattle.pb_manifest_types.specs.declared.feature.FeatureItem.{FeatureItem}
use Rattle.pb_manifest_types.specs.declared.feature.FeatureItem.TheVariants.{Own, Dependency, Of, OfEnabled}
use Rattle.pb_workspace_types.specs.declared.package.Side.{Side}
use Rattle.pb_workspace_types.specs.declared.package.Side.TheVariants.{Target, Host}
use Rattle.pb_workspace_types.specs.declared.package.Package.{Package}
use Rattle.pb_workspace_types.specs.declared.package.Entry.{Entry}
use Rattle.pb_workspace_types.specs.declared.options.Selection.{Selection}
use Rattle.pb_workspace_types.specs.declared.workspace.Workspace.{Workspace}
use Rattle.pb_workspace_types.specs.Workspace.{side_of, has_feature_named, HasEntry, ListsItem, HasFeature}
use Rattle.pb_workspace_types.specs.Settled.{IsSettled, IsPackage}
use Rattle.pb_graph.specs.declared.table.Rule.{Rule}
use Rattle.pb_graph.specs.Closure.{Least, seed, joined}
use Rattle.pb_graph.specs.Table.{joined_by}
use Rattle.pb_graph.specs.Placed.{placed}
use Rattle.pb_graph.proofs.Membership.{head, tail, all_at}
use Rattle.pb_graph.proofs.Placed.{placed_to, at_true, at_false}
use Rattle.pb_feature.specs.Facts.{Fact, On, Has, Enabled, Asked, of_package, IsChosen, all, asked, asked_of, default, Holds, selected, chosen, required, listed, named, of_enables, of_asks, of_gives, of_enabled, leads, with_listed, with_asked, with_default}
use Rattle.pb_feature.specs.Numbers.{bases_from, slot, slot_at, on, has, enabled}
use Rattle.pb_feature.specs.Rules.{pair, alone, there_rules, given_rules, enabled_rules, entry_rules, of_rules, item_rules, own_rules, both_item_rules, both_own_rules, one_item_rules, feature_rules, both_entry_rules, package_rules, rules_of, is_text_of, is_chosen, chosen_seeds, owner_seeds, selected_seeds, seeds_of}
use Rattle.pb_feature.proofs.Slots.{IsSlot, slot_named, there_some, slot_at_index, its_name}
use Rattle.pb_feature.proofs.Sound.{same_owner, same_entry, one_at, to_there, slot_of}

-- an index of what is in a list
pub at_contains : {X : Type 0} (xs : List X) (x : X) → Contains xs x → (k : ℕ) × (slice_get xs k ≡ Some x)
at_contains xs x is = (is.0, slice_get-get_or xs is.0 x is.1 ∙ ap (λ y. Some y) is.2)

or_first : (a b c : Bool) → a ≡ true → (a || b || c) ≡ true
or_first true b c e = refl
or_first false b c e = absurd (false≢true e)

or_second : (a b c : Bool) → b ≡ true → (a || b || c) ≡ true
or_second true b c e = refl
or_second false true c e = refl
or_second false false c e = absurd (false≢true e)

or_third : (a b c : Bool) → c ≡ true → (a || b || c) ≡ true
or_third true b c e = refl
or_third false true c e = refl
or_third false false true e = refl
or_third false false false e = absurd (false≢true e)

pub or_left : (a b : Bool) → a ≡ true → (a || b) ≡ true
or_left true b e = refl
or_left false b e = absurd (false≢true e)

pub or_right : (a b : Bool) → b ≡ true → (a || b) ≡ true
or_right true b e = refl
or_right false true e = refl
or_right false false e = absurd (false≢true e)

and_both : (a b : Bool) → a ≡ false → b ≡ true → (not a && b) ≡ true
and_both false true e f = refl
and_both false false e f = absurd (false≢true f)
and_both true b e f = absurd (false≢true (sym e))

not_zero : (k : ℕ) → k ≢ 0 → (k == 0) ≡ false
not_zero k some = elim (cases_Bool (k == 0)) [
  | inl is ↦ absurd (some (eqb-true k 0 is))
  | inr is ↦ is
]

any_contains : (p : List ℕ → Bool) (xs : List (List ℕ)) (x : List ℕ) → Contains xs x → p x ≡ true → list_any p xs ≡ true
any_contains p xs x is e = list_any_at p xs is.0 x is.1 (ap p is.2 ∙ e)

module _ (ws : Workspace) (selection : Selection) (settled : IsSettled ws) (within : All (λ p. p < length ws.packages) selection.packages) where
  abbrev ps : List Package
  ps = ws.packages

  abbrev bs : List ℕ
  bs = bases_from 0 ws.packages

  abbrev pub Follows : ℕ → Type 0
  Follows = Least (Contains (seeds_of ws.packages (bases_from 0 ws.packages) selection)) (joined_by (rules_of ws.packages (bases_from 0 ws.packages)))

  one : (i k : ℕ) → Follows i → Contains (rules_of ps bs) (alone i k) → Follows k
  one i k l is = joined i i k l l is

  -- where the rules stand
  to_package : (p : ℕ) (o : Package) (r : Rule) → slice_get ps p ≡ Some o → Contains (package_rules ps bs p o) r → Contains (rules_of ps bs) r
  to_package p o r at is = placed_to (package_rules ps bs) ps p o r at is

  to_entry : (s : Side) (p n : ℕ) (o : Package) (e : Entry) (r : Rule) → slice_get ps p ≡ Some o → slice_get o.entries n ≡ Some e → Contains (entry_rules ps bs s p (length o.features) n e) r → Contains (rules_of ps bs) r
  to_entry s p n o e r at e_at is =
      to_package p o r at (Contains-append_left (both_entry_rules ps bs p o) (placed (feature_rules ps bs p o) 0 o.features) r
      (by s (placed_to (entry_rules ps bs s p (length o.features)) o.entries n e r e_at is)))
    where
      of_side : Side → List Rule
      of_side t = placed (entry_rules ps bs t p (length o.features)) 0 o.entries

      by : (t : Side) → Contains (placed (entry_rules ps bs t p (length o.features)) 0 o.entries) r → Contains (both_entry_rules ps bs p o) r
      by Target its = Contains-append_left (of_side Target) (of_side Host) r its
      by Host its = Contains-append_right (of_side Target) (of_side Host) r its

  to_enabled : (s : Side) (p n : ℕ) (o : Package) (e : Entry) (r : Rule) → slice_get ps p ≡ Some o → slice_get o.entries n ≡ Some e
      → Contains (enabled_rules ps bs (enabled bs p s (length o.features) n) (side_of e.kind s) e) r → Contains (rules_of ps bs) r
  to_enabled s p n o e r at e_at is =
      to_entry s p n o e r at e_at (Contains-append_right (if e.optional then [] else alone (on bs p s) (enabled bs p s (length o.features) n) ∷ []) _ r is)

  -- an item, and the feature that lists it
  record ListedAt (p : ℕ) (name : List ℕ) (item : FeatureItem) : Type 0 where
    owner : Package
    at : slice_get ws.packages p ≡ Some owner
    index : ℕ
    feature : Feature
    f_at : slice_get owner.features index ≡ Some feature
    item_index : ℕ
    i_at : slice_get feature.items item_index ≡ Some item
    is : slot_at ws.packages p name ≡ index + 1

  listed_at : (p : ℕ) (name : List ℕ) (item : FeatureItem) → ListsItem ws p name item → ListedAt p name item
  listed_at p name item lists =
      let f = at_contains lists.owner.features lists.feature lists.is_there in
      let i = at_contains lists.feature.items item lists.listed in
      let its : IsPackage (length ps) lists.owner = all_at (IsPackage (length ps)) ps p lists.owner settled.packages lists.package_at in
      record {
        owner = lists.owner;
        at = lists.package_at;
        index = f.0;
        feature = lists.feature;
        f_at = f.1;
        item_index = i.0;
        i_at = i.1;
        is = slot_of ws selection settled p name lists.owner lists.package_at ∙ ap (slot lists.owner.features) (sym lists.named) ∙ slot_at_index lists.owner.features f.0 lists.feature its.features f.1;
      }

  to_item : (p : ℕ) (name : List ℕ) (item : FeatureItem) (r : Rule) (l : ListedAt p name item) → Contains (one_item_rules ps bs p l.owner (l.index + 1) l.item_index item) r → Contains (rules_of ps bs) r
  to_item p name item r l is =
      to_package p l.owner r l.at (Contains-append_right (both_entry_rules ps bs p l.owner) (placed (feature_rules ps bs p l.owner) 0 l.owner.features) r
      (placed_to (feature_rules ps bs p l.owner) l.owner.features l.index l.feature r l.f_at
      (placed_to (one_item_rules ps bs p l.owner (l.index + 1)) l.feature.items l.item_index item r l.i_at is)))

  to_own : (s : Side) (p : ℕ) (name : List ℕ) (item : FeatureItem) (r : Rule) (l : ListedAt p name item) → Contains (own_rules bs s p l.owner.features (l.index + 1) item) r → Contains (rules_of ps bs) r
  to_own s p name item r l is =
      to_item p name item r l (Contains-append_left (both_own_rules bs p l.owner.features (l.index + 1) item) (placed (both_item_rules ps bs p l.owner.features (l.index + 1) item) 0 l.owner.entries) r (by s is))
    where
      of_side : Side → List Rule
      of_side t = own_rules bs t p l.owner.features (l.index + 1) item

      by : (t : Side) → Contains (own_rules bs t p l.owner.features (l.index + 1) item) r → Contains (both_own_rules bs p l.owner.features (l.index + 1) item) r
      by Target its = Contains-append_left (of_side Target) (of_side Host) r its
      by Host its = Contains-append_right (of_side Target) (of_side Host) r its

  entry_in : (p n : ℕ) (o : Package) (e : Entry) → slice_get ps p ≡ Some o → HasEntry ws p n e → slice_get o.entries n ≡ Some e
  entry_in p n o e at here = subst (λ (w : Package). slice_get w.entries n ≡ Some e) (same_owner (slice_get ps p) here.owner o here.package_at at) here.entry_at

  to_named : (s : Side) (p n : ℕ) (name : List ℕ) (item : FeatureItem) (e : Entry) (xs : List Rule) (r : Rule) (l : ListedAt p name item) → HasEntry ws p n e
      → item_rules ps bs s p l.owner.features (l.index + 1) item n e ≡ (if bytes_eq e.key e.key then xs else []) → Contains xs r → Contains (rules_of ps bs) r
  to_named s p n name item e xs r l here same is =
      to_item p name item r l (Contains-append_right (both_own_rules bs p l.owner.features (l.index + 1) item) (placed (both_item_rules ps bs p l.owner.features (l.index + 1) item) 0 l.owner.entries) r
      (placed_to (both_item_rules ps bs p l.owner.features (l.index + 1) item) l.owner.entries n e r (entry_in p n l.owner e l.at here)
      (by s (subst (λ ys. Contains ys r) (sym (same ∙ ap (λ b. if b then xs else []) (its_name e.key))) is))))
    where
      of_side : Side → List Rule
      of_side t = item_rules ps bs t p l.owner.features (l.index + 1) item n e

      by : (t : Side) → Contains (item_rules ps bs t p l.owner.features (l.index + 1) item n e) r → Contains (both_item_rules ps bs p l.owner.features (l.index + 1) item n e) r
      by Target its = Contains-append_left (of_side Target) (of_side Host) r its
      by Host its = Contains-append_right (of_side Target) (of_side Host) r its

  -- what each fact says of the numbers
  abbrev pub Meant : Fact → Type 0
  Meant (On p s) = (o : Package) × (slice_get ws.packages p ≡ Some o) × Follows (on (bases_from 0 ws.packages) p s)
  Meant (Has p s f) = (o : Package) × (slice_get ws.packages p ≡ Some o) × Follows (has (bases_from 0 ws.packages) p s (slot_at ws.packages p f))
  Meant (Enabled p s n) = (o : Package) × (slice_get ws.packages p ≡ Some o) × (n < length o.entries) × Follows (enabled (bases_from 0 ws.packages) p s (length o.features) n)
  Meant (Asked p s n g) = (o : Package) (e : Entry) → slice_get ws.packages p ≡ Some o → slice_get o.entries n ≡ Some e → Follows (enabled (bases_from 0 ws.packages) p s (length o.features) n)
      → Follows (has (bases_from 0 ws.packages) e.to (side_of e.kind s) (slot_at ws.packages e.to g))

  en_in : (p n : ℕ) (s : Side) (o : Package) → slice_get ps p ≡ Some o → Meant (Enabled p s n) → Follows (enabled bs p s (length o.features) n)
  en_in p n s o at m = subst (λ (w : Package). Follows (enabled bs p s (length w.features) n)) (same_owner (slice_get ps p) m.0 o m.1 at) m.3

  has_in : (p : ℕ) (s : Side) (name : List ℕ) (item : FeatureItem) (l : ListedAt p name item) → Meant (Has p s name) → Follows (has bs p s (l.index + 1))
  has_in p s name item l m = subst (λ k. Follows (has bs p s k)) l.is m.2

  chosen_is : (p : ℕ) (f : List ℕ) (o : Package) → slice_get ps p ≡ Some o → IsChosen ws selection p f → is_chosen selection o.name f ≡ true
  chosen_is p f o at (all _ is there) = or_first selection.all_features _ _ is
  chosen_is p f o at (asked _ is there) = or_third selection.all_features _ _ (any_contains (is_text_of o.name f) selection.features f is (or_left (bytes_eq f f) _ (its_name f)))
  chosen_is p f o at (asked_of _ there is) =
      let whole : List ℕ = of_package o.name f in
      let same : of_package there.owner.name f ≡ whole = ap (λ (w : Package). of_package w.name f) (same_owner (slice_get ps p) there.owner o there.package_at at) in
      or_third selection.all_features _ _ (any_contains (is_text_of o.name f) selection.features whole (subst (Contains selection.features) same is) (or_right (bytes_eq whole f) (bytes_eq whole whole) (its_name whole)))
  chosen_is p _ o at (default kept there) = or_second selection.all_features _ _ (and_both selection.no_default_features _ kept (its_name (codes "default")))

  chosen_there : (p : ℕ) (f : List ℕ) → IsChosen ws selection p f → HasFeature ws p f
  chosen_there p f (all _ is there) = there
  chosen_there p f (asked _ is there) = there
  chosen_there p f (asked_of _ there is) = there
  chosen_there p _ (default kept there) = there

  some_slot : (p : ℕ) (f : List ℕ) (o : Package) → slice_get ps p ≡ Some o → HasFeature ws p f → slot o.features f ≢ 0
  some_slot p f o at there = there_some o.features f (subst (λ (w : Package). has_feature_named w.features f ≡ true) (same_owner (slice_get ps p) there.owner o there.package_at at) there.is_there)

  to_seed : (p i : ℕ) (o : Package) → slice_get ps p ≡ Some o → Contains selection.packages p → Contains (owner_seeds bs selection p (Some o)) i → Follows i
  to_seed p i o at is given =
      let k = at_contains selection.packages p is in
      seed i (placed_to (selected_seeds ps bs selection) selection.packages k.0 p i k.1 (subst (λ w. Contains (owner_seeds bs selection p w) i) (sym at) given))

  chosen_follows : (p : ℕ) (f : List ℕ) (o : Package) → slice_get ps p ≡ Some o → Contains selection.packages p → IsChosen ws selection p f → Follows (has bs p Target (slot_at ps p f))
  chosen_follows p f o at is choice =
      let h : IsSlot o.features f (slot o.features f) = slot_named o.features f (some_slot p f o at (chosen_there p f choice)) in
      let number : slot_at ps p f ≡ h.index + 1 = slot_of ws selection settled p f o at ∙ h.is in
      let test : is_chosen selection o.name h.feature.name ≡ true = ap (is_chosen selection o.name) h.named ∙ chosen_is p f o at choice in
      let i : ℕ = has bs p Target (h.index + 1) in
      subst (λ k. Follows (has bs p Target k)) (sym number)
      (to_seed p i o at is (tail (on bs p Target) (placed (chosen_seeds bs selection p o.name) 0 o.features) i
      (placed_to (chosen_seeds bs selection p o.name) o.features h.index h.feature i h.at (at_true (is_chosen selection o.name h.feature.name) (i ∷ []) i test (head i [])))))

  to_there_rule : (from q : ℕ) (t : Side) (test : Bool) (k : ℕ) → test ≡ true → k ≢ 0 → Contains (there_rules bs from q t test k) (alone from (has bs q t k))
  to_there_rule from q t test k on_test some =
      let r : Rule = alone from (has bs q t k) in
      at_true test (if k == 0 then [] else r ∷ []) r on_test (at_false (k == 0) (r ∷ []) r (not_zero k some) (head r []))

  pub whole : (x : Fact) → Holds ws selection x → Meant x
  whole _ (selected p is) =
      let o = one_at ps p (All-contains (λ q. q < length ps) selection.packages p within is) in
      (o.0, o.1, to_seed p (on bs p Target) o.0 o.1 is (head (on bs p Target) _))
  whole _ (chosen p f is choice) =
      let o = one_at ps p (All-contains (λ q. q < length ps) selection.packages p within is) in
      (o.0, o.1, chosen_follows p f o.0 o.1 is choice)
  whole _ (required p s n e before here needed) =
      let o : Package = here.owner in
      let r : Rule = alone (on bs p s) (enabled bs p s (length o.features) n) in (
        o,
        here.package_at,
        slice_get_within o.entries n e here.entry_at,
        one (on bs p s) (enabled bs p s (length o.features) n) (whole (On p s) before).2
            (to_entry s p n o e r here.package_at here.entry_at (Contains-append_left (if e.optional then [] else r ∷ []) _ r (at_false e.optional (r ∷ []) r needed (head r [])))),
      )
  whole _ (listed p s f g before lists) =
      let l : ListedAt p f (Own g) = listed_at p f (Own g) lists in
      let r : Rule = alone (has bs p s (l.index + 1)) (has bs p s (slot l.owner.features g)) in (
        l.owner,
        l.at,
        subst (λ k. Follows (has bs p s k)) (sym (slot_of ws selection settled p g l.owner l.at))
            (one _ _ (has_in p s f (Own g) l (whole (Has p s f) before)) (to_own s p f (Own g) r l (head r []))),
      )
  whole _ (named p s f n e before lists here) =
      let l : ListedAt p f (Dependency e.key) = listed_at p f (Dependency e.key) lists in
      let r : Rule = alone (has bs p s (l.index + 1)) (enabled bs p s (length l.owner.features) n) in (
        l.owner,
        l.at,
        slice_get_within l.owner.entries n e (entry_in p n l.owner e l.at here),
        one _ _ (has_in p s f (Dependency e.key) l (whole (Has p s f) before)) (to_named s p n f (Dependency e.key) e (r ∷ []) r l here refl (head r [])),
      )
  whole _ (of_enables p s f g n e before lists here) =
      let l : ListedAt p f (Of e.key g) = listed_at p f (Of e.key g) lists in
      let fr : ℕ = has bs p s (l.index + 1) in
      let en : ℕ = enabled bs p s (length l.owner.features) n in
      let gives : ℕ = has bs e.to (side_of e.kind s) (slot_at ps e.to g) in
      let r : Rule = alone fr en in (
        l.owner,
        l.at,
        slice_get_within l.owner.entries n e (entry_in p n l.owner e l.at here),
        one _ _ (has_in p s f (Of e.key g) l (whole (Has p s f) before))
            (to_named s p n f (Of e.key g) e (of_rules bs fr p s (slot l.owner.features e.key) (slot_at ps e.to g) en e) r l here refl (Contains-append_left (r ∷ alone fr gives ∷ []) _ r (head r (alone fr gives ∷ [])))),
      )
  whole _ (of_asks p s f g n e before lists here) =
      let l : ListedAt p f (Of e.key g) = listed_at p f (Of e.key g) lists in
      let fr : ℕ = has bs p s (l.index + 1) in
      let en : ℕ = enabled bs p s (length l.owner.features) n in
      let gives : ℕ = has bs e.to (side_of e.kind s) (slot_at ps e.to g) in
      let r : Rule = alone fr gives in
      let it : Follows gives = one fr gives (has_in p s f (Of e.key g) l (whole (Has p s f) before))
      (to_named s p n f (Of e.key g) e (of_rules bs fr p s (slot l.owner.features e.key) (slot_at ps e.to g) en e) r l here refl (Contains-append_left (alone fr en ∷ r ∷ []) _ r (tail (alone fr en) (r ∷ []) r (head r [])))) in
      λ o d at d_at _. subst (λ (x : Entry). Follows (has bs x.to (side_of x.kind s) (slot_at ps x.to g))) (same_entry (slice_get o.entries n) e d (entry_in p n o e at here) d_at) it
  whole _ (of_gives p s f g n e before lists here is_optional there) =
      let l : ListedAt p f (Of e.key g) = listed_at p f (Of e.key g) lists in
      let fr : ℕ = has bs p s (l.index + 1) in
      let en : ℕ = enabled bs p s (length l.owner.features) n in
      let k : ℕ = slot l.owner.features e.key in
      let r : Rule = alone fr (has bs p s k) in (
        l.owner,
        l.at,
        subst (λ j. Follows (has bs p s j)) (sym (slot_of ws selection settled p e.key l.owner l.at))
            (one fr (has bs p s k) (has_in p s f (Of e.key g) l (whole (Has p s f) before))
            (to_named s p n f (Of e.key g) e (of_rules bs fr p s k (slot_at ps e.to g) en e) r l here refl
            (Contains-append_right (alone fr en ∷ alone fr (has bs e.to (side_of e.kind s) (slot_at ps e.to g)) ∷ []) _ r (to_there_rule fr p s e.optional k is_optional (some_slot p e.key l.owner l.at there))))),
      )
  whole _ (of_enabled p s f g n e before lists here enables) =
      let l : ListedAt p f (OfEnabled e.key g) = listed_at p f (OfEnabled e.key g) lists in
      let fr : ℕ = has bs p s (l.index + 1) in
      let en : ℕ = enabled bs p s (length l.owner.features) n in
      let gives : ℕ = has bs e.to (side_of e.kind s) (slot_at ps e.to g) in
      let r : Rule = pair fr en gives in
      let it : Follows gives = joined fr en gives (has_in p s f (OfEnabled e.key g) l (whole (Has p s f) before)) (en_in p n s l.owner l.at (whole (Enabled p s n) enables))
      (to_named s p n f (OfEnabled e.key g) e (r ∷ []) r l here refl (head r [])) in
      λ o d at d_at _. subst (λ (x : Entry). Follows (has bs x.to (side_of x.kind s) (slot_at ps x.to g))) (same_entry (slice_get o.entries n) e d (entry_in p n o e at here) d_at) it
  whole _ (leads p s n e enables here) =
      let o : Package = here.owner in
      let t : Side = side_of e.kind s in
      let q = to_there ws selection settled p n o e here.package_at here.entry_at in
      let en : ℕ = enabled bs p s (length o.features) n in
      let r : Rule = alone en (on bs e.to t) in (
        q.0,
        q.1,
        one en (on bs e.to t) (en_in p n s o here.package_at (whole (Enabled p s n) enables))
            (to_enabled s p n o e r here.package_at here.entry_at (Contains-append_left ((r ∷ []) ++ there_rules bs en e.to t e.default_features (slot_at ps e.to (codes "default"))) _ r (Contains-append_left (r ∷ []) _ r (head r [])))),
      )
  whole _ (with_listed p s n e f enables here is) =
      let o : Package = here.owner in
      let t : Side = side_of e.kind s in
      let q = to_there ws selection settled p n o e here.package_at here.entry_at in
      let en : ℕ = enabled bs p s (length o.features) n in
      let r : Rule = alone en (has bs e.to t (slot_at ps e.to f)) in
      let k = at_contains e.features f is in (
        q.0,
        q.1,
        one en (has bs e.to t (slot_at ps e.to f)) (en_in p n s o here.package_at (whole (Enabled p s n) enables))
            (to_enabled s p n o e r here.package_at here.entry_at (Contains-append_right ((alone en (on bs e.to t) ∷ []) ++ there_rules bs en e.to t e.default_features (slot_at ps e.to (codes "default"))) _ r
            (placed_to (given_rules ps bs en e.to t) e.features k.0 f r k.1 (head r [])))),
      )
  whole _ (with_asked p s n e f enables asks here) =
      let o : Package = here.owner in
      let q = to_there ws selection settled p n o e here.package_at here.entry_at in
      (q.0, q.1, whole (Asked p s n f) asks o e here.package_at here.entry_at (en_in p n s o here.package_at (whole (Enabled p s n) enables)))
  whole _ (with_default p s n e enables here takes there) =
      let o : Package = here.owner in
      let t : Side = side_of e.kind s in
      let q = to_there ws selection settled p n o e here.package_at here.entry_at in
      let en : ℕ = enabled bs p s (length o.features) n in
      let k : ℕ = slot_at ps e.to (codes "default") in
      let r : Rule = alone en (has bs e.to t k) in
      let some : k ≢ 0 = λ z. some_slot e.to (codes "default") q.0 q.1 there (sym (slot_of ws selection settled e.to (codes "default") q.0 q.1) ∙ z) in (
        q.0,
        q.1,
        one en (has bs e.to t k) (en_in p n s o here.package_at (whole (Enabled p s n) enables))
            (to_enabled s p n o e r here.package_at here.entry_at (Contains-append_left ((alone en (on bs e.to t) ∷ []) ++ there_rules bs en e.to t e.default_features k) _ r
            (Contains-append_right (alone en (on bs e.to t) ∷ []) _ r (to_there_rule en e.to t e.default_features k takes some)))),
      )
