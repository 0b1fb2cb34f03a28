-- The entries of a name, one in each table at most, found by halving.
use Rattle.std.proofs.Common.{◌≡◌, Less, Equal, ℕ, suc, ◌+◌, ◌<◌, ◌≤◌, ◌==◌, Bool, true, false, not, ◌&&◌, ◌||◌, cond, nat_lt, if◌then◌else◌, List, [], ◌∷◌, ◌++◌, append-nil, append_assoc, Option, Some, None, length, map, refl, sym, ◌∙◌, ap, subst, arith}
use Rattle.std.specs.Prelude.{slice_get}
use Rattle.std.specs.List.{AllByRecursion, list_any, position, position_or_len}
use Rattle.std.specs.List.Sorted.{IsStrictlySortedBy}
use Rattle.std.specs.Option.{is_some}
use Rattle.std.specs.Ordering.{nat_cmp}
use Rattle.std.specs.Cmp.Lexicographic.{slice_cmp}
use Rattle.std.specs.Str.{bytes_eq}
use Rattle.std.proofs.lemmas.Bool.{lt-ltb, le-ltb, ltb-true, ltb-false, false≢true, eqb-true}
use Rattle.std.proofs.lemmas.Option.{slice_get_past}
use Rattle.std.proofs.lemmas.Cmp.{nat_list_cmp_total, tied_itself}
use Rattle.pb_manifest_types.specs.declared.feature.Feature.{Feature}
use Rattle.pb_workspace_types.specs.ByKey.{table_key}
use Rattle.pb_workspace_types.specs.Workspace.{has_feature_named}
use Rattle.pb_workspace_types.specs.declared.package.DependencyKind.{DependencyKind}
use Rattle.pb_workspace_types.specs.declared.package.DependencyKind.TheVariants.{Normal, Build}
use Rattle.pb_manifest_types.specs.declared.feature.FeatureItem.{FeatureItem}
use Rattle.pb_manifest_types.specs.declared.feature.FeatureItem.TheVariants.{Own, Dependency, Of, OfEnabled}
use Rattle.pb_workspace_types.specs.declared.package.Entry.{Entry}
use Rattle.pb_workspace_types.specs.declared.package.Package.{Package}
use Rattle.pb_workspace_types.specs.declared.package.Side.{Side}
use Rattle.pb_workspace_types.specs.declared.package.Side.TheVariants.{Target, Host}
use Rattle.pb_graph.specs.Placed.{placed}
use Rattle.pb_graph.specs.declared.table.Rule.{Rule}
use Rattle.pb_feature.specs.Found.{entry_named, given_by, found, is_optional}
use Rattle.pb_feature.specs.Rules.{item_rules, both_item_rules}
use Rattle.pb_feature.specs.Numbers.{after, slot}
use Rattle.pb_feature.proofs.Slots.{same_name, there_some, some_there}

-- what the first that passes gives, or else this
abbrev first_of : {A B : Type 0} → (A → Bool) → (ℕ → A → B) → B → ℕ → List A → B
first_of test g none n [] = none
first_of test g none n (x ∷ xs) = if test x then g n x else first_of test g none (n + 1) xs

one_more : (k n : ℕ) (c : Bool) → nat_lt k n ≡ c → nat_lt (1 + k) (suc n) ≡ c
one_more k n true is = let lt : k < n = ltb-true k n is in lt-ltb (1 + k) (suc n) (omega (arith, lt))
one_more k n false is = let le : n ≤ k = ltb-false k n is in le-ltb (1 + k) (suc n) (omega (arith, le))

some_below : (n : ℕ) → nat_lt 0 (suc n) ≡ true
some_below n = lt-ltb 0 (suc n) (omega arith)

module _ {A B : Type 0} (test : A → Bool) (g : ℕ → A → B) (none : B) where
  abbrev told : ℕ → List A → ℕ → Bool → B
  told n xs k below = if below then given_by g none (n + k) (slice_get xs k) else none

  behind_one : (n : ℕ) (x : A) (xs : List A) (k : ℕ) (c : Bool) → nat_lt k (length xs) ≡ c → told (n + 1) xs k c ≡ told n (x ∷ xs) (1 + k) (nat_lt (1 + k) (suc (length xs)))
  behind_one n x xs k true is =
      let e : (n + 1) + k ≡ n + suc k = omega arith in
      let s : suc k ≡ 1 + k = omega arith in
      ap (λ m. given_by g none m (slice_get xs k)) e ∙ ap (λ j. given_by g none (n + j) (slice_get (x ∷ xs) j)) s ∙ sym (ap (told n (x ∷ xs) (1 + k)) (one_more k (length xs) true is))
  behind_one n x xs k false is = sym (ap (told n (x ∷ xs) (1 + k)) (one_more k (length xs) false is))

  at_first : (n : ℕ) (xs : List A) → first_of test g none n xs ≡ told n xs (position_or_len test xs) (nat_lt (position_or_len test xs) (length xs))
  at_first n [] = refl
  at_first n (x ∷ xs) = by (test x) (at_first (n + 1) xs)
    where
      k : ℕ
      k = position_or_len test xs

      by : (b : Bool) → first_of test g none (n + 1) xs ≡ told (n + 1) xs k (nat_lt k (length xs))
          → (if b then g n x else first_of test g none (n + 1) xs) ≡ told n (x ∷ xs) (cond (not b) (1 + k) 0) (nat_lt (cond (not b) (1 + k) 0) (suc (length xs)))
      by true rest = let e : n + 0 ≡ n = omega arith in sym (ap (told n (x ∷ xs) 0) (some_below (length xs)) ∙ ap (λ m. g m x) e)
      by false rest = rest ∙ behind_one n x xs k (nat_lt k (length xs)) refl

  pub found_first : (xs : List A) → found g none xs (position test xs) ≡ first_of test g none 0 xs
  found_first xs = by (nat_lt k (length xs)) ∙ sym (at_first 0 xs)
    where
      k : ℕ
      k = position_or_len test xs

      by : (b : Bool) → found g none xs (cond b (Some k) None) ≡ told 0 xs k b
      by true = let e : k ≡ 0 + k = omega arith in ap (λ m. given_by g none m (slice_get xs k)) e
      by false = refl

-- nothing stands past the end
pub found_past : {A B : Type 0} (g : ℕ → A → B) (none : B) (xs ys : List A) (index : Option ℕ) (n : ℕ) → ys ≡ xs → index ≡ Some n → false ≡ nat_lt n (length ys) → found g none xs index ≡ none
found_past g none xs ys index n same is past =
    let le : length xs ≤ n = subst (λ zs. length zs ≤ n) same (ltb-false n (length ys) (sym past)) in
    ap (found g none xs) is ∙ ap (given_by g none n) (slice_get_past xs n le)

any_below : {A : Type 0} (test : A → Bool) (xs : List A) → list_any test xs ≡ nat_lt (position_or_len test xs) (length xs)
any_below test [] = refl
any_below {A} test (x ∷ xs) = by (test x) (any_below test xs)
  where
    k : ℕ
    k = position_or_len test xs

    by : (b : Bool) → list_any test xs ≡ nat_lt k (length xs) → (b || list_any test xs) ≡ nat_lt (cond (not b) (1 + k) 0) (suc (length xs))
    by true rest = sym (some_below (length xs))
    by false rest = rest ∙ sym (one_more k (length xs) (nat_lt k (length xs)) refl)

any_found : {A : Type 0} (test : A → Bool) (xs : List A) → is_some (position test xs) ≡ list_any test xs
any_found {A} test xs = by (nat_lt (position_or_len test xs) (length xs)) ∙ sym (any_below test xs)
  where
    by : (b : Bool) → is_some (cond b (Some (position_or_len test xs)) None) ≡ b
    by true = refl
    by false = refl

-- features
abbrev has : List ℕ → Feature → Bool
has name f = bytes_eq name f.name

slot_below_is : (fs : List Feature) (name : List ℕ) → slot fs name ≡ (if nat_lt (position_or_len (has name) fs) (length fs) then position_or_len (has name) fs + 1 else 0)
slot_below_is [] name = refl
slot_below_is (f ∷ fs) name = by (has name f) (slot_below_is fs name)
  where
    k : ℕ
    k = position_or_len (has name) fs

    more : (c : Bool) → nat_lt k (length fs) ≡ c → slot fs name ≡ (if c then k + 1 else 0) → after (slot fs name) ≡ (if nat_lt (1 + k) (suc (length fs)) then (1 + k) + 1 else 0)
    more true is rest =
        let e : k + 1 ≡ suc k = omega arith in
        let d : suc (suc k) ≡ (1 + k) + 1 = omega arith in
        ap after (rest ∙ e) ∙ d ∙ sym (ap (λ c. if c then (1 + k) + 1 else 0) (one_more k (length fs) true is))
    more false is rest = ap after rest ∙ sym (ap (λ c. if c then (1 + k) + 1 else 0) (one_more k (length fs) false is))

    by : (b : Bool) → slot fs name ≡ (if nat_lt k (length fs) then k + 1 else 0)
        → (if b then 1 else after (slot fs name)) ≡ (if nat_lt (cond (not b) (1 + k) 0) (suc (length fs)) then cond (not b) (1 + k) 0 + 1 else 0)
    by true rest = sym (ap (λ c. if c then 0 + 1 else 0) (some_below (length fs)))
    by false rest = more (nat_lt k (length fs)) refl rest

pub slot_none : (fs : List Feature) (name : List ℕ) → None ≡ position (has name) fs → slot fs name ≡ 0
slot_none fs name is = slot_below_is fs name ∙ by (nat_lt k (length fs)) is
  where
    k : ℕ
    k = position_or_len (has name) fs

    by : (b : Bool) → None ≡ cond b (Some k) None → (if b then k + 1 else 0) ≡ 0
    by true e = cc
    by false e = refl

pub slot_some : (fs : List Feature) (name : List ℕ) (i : ℕ) → Some i ≡ position (has name) fs → (slot fs name ≡ i + 1) × (i < length fs)
slot_some fs name i is = by (nat_lt k (length fs)) refl is
  where
    k : ℕ
    k = position_or_len (has name) fs

    by : (b : Bool) → nat_lt k (length fs) ≡ b → Some i ≡ cond b (Some k) None → (slot fs name ≡ i + 1) × (i < length fs)
    by true at e =
        let same : k ≡ i = cc in
        let lt : k < length fs = ltb-true k (length fs) at in
        (slot_below_is fs name ∙ ap (λ c. if c then k + 1 else 0) at ∙ ap (λ j. j + 1) same, subst (λ j. j < length fs) same lt)
    by false at e = cc

pub has_slot : (fs : List Feature) (name : List ℕ) → not (slot fs name == 0) ≡ has_feature_named fs name
has_slot fs name = by (slot fs name == 0) refl (has_feature_named fs name) refl
  where
    by : (b : Bool) → (slot fs name == 0) ≡ b → (h : Bool) → has_feature_named fs name ≡ h → not b ≡ h
    by true is true there = absurd (there_some fs name there (eqb-true (slot fs name) 0 is))
    by true is false there = refl
    by false is true there = refl
    by false is false there = absurd (false≢true (sym there ∙ some_there fs name (λ zero_is. false≢true (sym is ∙ ap (λ k. k == 0) zero_is))))

-- entries
abbrev at : DependencyKind → List ℕ → Entry → Bool
at kind name e = bytes_eq (table_key kind name) (table_key e.kind e.key)

abbrev Ascend : List Entry → Type 0
Ascend es = IsStrictlySortedBy (slice_cmp nat_cmp) (map (λ (e : Entry). table_key e.kind e.key) es)

or_false : (b : Bool) → (b || false) ≡ b
or_false true = refl
or_false false = refl

-- an entry of a name stands in one of the two tables
in_one : (name key : List ℕ) (kind : DependencyKind) → (bytes_eq (table_key Normal name) (table_key kind key) || bytes_eq (table_key Build name) (table_key kind key)) ≡ bytes_eq name key
in_one name key Normal = or_false (bytes_eq name key)
in_one name key Build = refl

not_both : (name key : List ℕ) (kind : DependencyKind) → bytes_eq (table_key Normal name) (table_key kind key) ≡ true → bytes_eq (table_key Build name) (table_key kind key) ≡ true → ⊥
not_both name key Normal one two = false≢true two
not_both name key Build one two = false≢true one

not_before_itself : (a : List ℕ) → slice_cmp nat_cmp a a ≡ Less → ⊥
not_before_itself a less = let e : slice_cmp nat_cmp a a ≡ Equal = tied_itself nat_list_cmp_total a in cc

build_is_later : (name : List ℕ) → slice_cmp nat_cmp (table_key Build name) (table_key Normal name) ≡ Less → ⊥
build_is_later name less = cc

module _ {B : Type 0} (g : ℕ → Entry → B) (none : B) (name : List ℕ) where
  -- none of the name stands behind what is no less
  none_behind : (a : List ℕ) (kind : DependencyKind) (n : ℕ) (es : List Entry) → AllByRecursion (λ y. slice_cmp nat_cmp a y ≡ Less) (map (λ (e : Entry). table_key e.kind e.key) es)
      → (slice_cmp nat_cmp a (table_key kind name) ≡ Less → ⊥) → first_of (at kind name) g none n es ≡ none
  none_behind a kind n [] all not_less = refl
  none_behind a kind n (e ∷ es) all not_less = by (at kind name e) refl (none_behind a kind (n + 1) es all.1 not_less)
    where
      by : (b : Bool) → at kind name e ≡ b → first_of (at kind name) g none (n + 1) es ≡ none → (if b then g n e else first_of (at kind name) g none (n + 1) es) ≡ none
      by true is rest = absurd (not_less (subst (λ k. slice_cmp nat_cmp a k ≡ Less) (sym (same_name (table_key kind name) (table_key e.kind e.key) is)) all.0))
      by false is rest = rest

  -- and so behind one of the name
  behind : (here kind : DependencyKind) (n : ℕ) (e : Entry) (es : List Entry) → at here name e ≡ true → (slice_cmp nat_cmp (table_key here name) (table_key kind name) ≡ Less → ⊥)
      → AllByRecursion (λ y. slice_cmp nat_cmp (table_key e.kind e.key) y ≡ Less) (map (λ (e : Entry). table_key e.kind e.key) es) → first_of (at kind name) g none n es ≡ none
  behind here kind n e es is not_less all =
      let same : table_key here name ≡ table_key e.kind e.key = same_name (table_key here name) (table_key e.kind e.key) is in
      none_behind (table_key e.kind e.key) kind n es all (λ less. not_less (subst (λ k. slice_cmp nat_cmp k (table_key kind name) ≡ Less) (sym same) less))

module _ {B : Type 0} (g : ℕ → Entry → List B) (name : List ℕ) (nothing_else : (n : ℕ) (e : Entry) → bytes_eq name e.key ≡ false → g n e ≡ []) where
  abbrev from : DependencyKind → ℕ → List Entry → List B
  from kind n es = first_of (at kind name) g [] n es

  all_from : (n : ℕ) (es : List Entry) → Ascend es → placed g n es ≡ from Normal n es ++ from Build n es
  unfolding IsStrictlySortedBy
  all_from n [] up = refl
  all_from n (e ∷ es) up = by (at Normal name e) (at Build name e) refl refl (all_from (n + 1) es up.1)
    where
      by : (b c : Bool) → at Normal name e ≡ b → at Build name e ≡ c → placed g (n + 1) es ≡ from Normal (n + 1) es ++ from Build (n + 1) es
          → g n e ++ placed g (n + 1) es ≡ (if b then g n e else from Normal (n + 1) es) ++ (if c then g n e else from Build (n + 1) es)
      by true true one two rest = absurd (not_both name e.key e.kind one two)
      by true false one two rest =
          ap (λ xs. g n e ++ xs) (rest ∙ ap (λ xs. xs ++ from Build (n + 1) es) (behind g [] name Normal Normal (n + 1) e es one (not_before_itself (table_key Normal name)) up.0))
      by false true one two rest =
          let no_normal : from Normal (n + 1) es ≡ [] = behind g [] name Build Normal (n + 1) e es two (build_is_later name) up.0 in
          let no_build : from Build (n + 1) es ≡ [] = behind g [] name Build Build (n + 1) e es two (not_before_itself (table_key Build name)) up.0 in
          ap (λ xs. g n e ++ xs) (rest ∙ ap (λ xs. xs ++ from Build (n + 1) es) no_normal ∙ no_build) ∙ append-nil (g n e) ∙ sym (ap (λ xs. xs ++ g n e) no_normal)
      by false false one two rest =
          let other : bytes_eq name e.key ≡ false = sym (in_one name e.key e.kind) ∙ ap (λ b. b || at Build name e) one ∙ two in
          ap (λ xs. xs ++ placed g (n + 1) es) (nothing_else n e other) ∙ rest

  pub placed_found : (es : List Entry) → Ascend es → placed g 0 es ≡ found g [] es (position (at Normal name) es) ++ found g [] es (position (at Build name) es)
  placed_found es up =
      all_from 0 es up ∙ sym (ap (λ xs. xs ++ found g [] es (position (at Build name) es)) (found_first (at Normal name) g [] es) ∙ ap (λ xs. from Normal 0 es ++ xs) (found_first (at Build name) g [] es))

pub placed_none : {B : Type 0} (g : ℕ → Entry → List B) (n : ℕ) (es : List Entry) → ((m : ℕ) (e : Entry) → g m e ≡ []) → placed g n es ≡ []
placed_none g n [] none = refl
placed_none g n (e ∷ es) none = ap (λ xs. xs ++ placed g (n + 1) es) (none n e) ∙ placed_none g (n + 1) es none

shuffled : (b c s t : Bool) → ((b || c) || (s || t)) ≡ ((b || s) || (c || t))
shuffled true c s t = refl
shuffled false true true t = refl
shuffled false true false t = refl
shuffled false false s t = refl

module _ (name : List ℕ) where
  any_split : (es : List Entry) → list_any (λ (e : Entry). bytes_eq name e.key) es ≡ (list_any (at Normal name) es || list_any (at Build name) es)
  any_split [] = refl
  any_split (e ∷ es) =
      ap (λ b. b || list_any (λ (e : Entry). bytes_eq name e.key) es) (sym (in_one name e.key e.kind)) ∙ ap (λ b. (at Normal name e || at Build name e) || b) (any_split es)
      ∙ shuffled (at Normal name e) (at Build name e) (list_any (at Normal name) es) (list_any (at Build name) es)

  pub entry_found : (es : List Entry) → (is_some (position (at Normal name) es) || is_some (position (at Build name) es)) ≡ list_any (λ (e : Entry). bytes_eq name e.key) es
  entry_found es =
      ap (λ b. b || is_some (position (at Build name) es)) (any_found (at Normal name) es) ∙ ap (λ b. list_any (at Normal name) es || b) (any_found (at Build name) es) ∙ sym (any_split es)

  abbrev optional_in : DependencyKind → ℕ → List Entry → Bool
  optional_in kind n es = first_of (at kind name) is_optional false n es

  abbrev any_optional : List Entry → Bool
  any_optional es = list_any (λ (e : Entry). bytes_eq name e.key && e.optional) es

  optional_from : (n : ℕ) (es : List Entry) → Ascend es → any_optional es ≡ (optional_in Normal n es || optional_in Build n es)
  unfolding IsStrictlySortedBy
  optional_from n [] up = refl
  optional_from n (e ∷ es) up =
      ap (λ b. (b && e.optional) || any_optional es) (sym (in_one name e.key e.kind)) ∙ by (at Normal name e) (at Build name e) refl refl (optional_from (n + 1) es up.1)
    where
      by : (b c : Bool) → at Normal name e ≡ b → at Build name e ≡ c → any_optional es ≡ (optional_in Normal (n + 1) es || optional_in Build (n + 1) es)
          → (((b || c) && e.optional) || any_optional es) ≡ ((if b then e.optional else optional_in Normal (n + 1) es) || (if c then e.optional else optional_in Build (n + 1) es))
      by true true one two rest = absurd (not_both name e.key e.kind one two)
      by true false one two rest =
          ap (λ b. e.optional || b) (rest ∙ ap (λ b. b || optional_in Build (n + 1) es) (behind is_optional false name Normal Normal (n + 1) e es one (not_before_itself (table_key Normal name)) up.0))
      by false true one two rest =
          let no_normal : optional_in Normal (n + 1) es ≡ false = behind is_optional false name Build Normal (n + 1) e es two (build_is_later name) up.0 in
          let no_build : optional_in Build (n + 1) es ≡ false = behind is_optional false name Build Build (n + 1) e es two (not_before_itself (table_key Build name)) up.0 in
          ap (λ b. e.optional || b) (rest ∙ ap (λ b. b || optional_in Build (n + 1) es) no_normal ∙ no_build) ∙ or_false e.optional ∙ sym (ap (λ b. b || e.optional) no_normal)
      by false false one two rest = rest

  pub optional_found : (es : List Entry) → Ascend es
      → (found is_optional false es (position (at Normal name) es) || found is_optional false es (position (at Build name) es)) ≡ list_any (λ (e : Entry). bytes_eq name e.key && e.optional) es
  optional_found es up =
      ap (λ b. b || found is_optional false es (position (at Build name) es)) (found_first (at Normal name) is_optional false es) ∙ ap (λ b. optional_in Normal 0 es || b) (found_first (at Build name) is_optional false es)
      ∙ sym (optional_from 0 es up)

  -- in the words of the calls that look for an entry
  pub entry_first : (es : List Entry) (one : Option ℕ) (r : Bool) → one ≡ position (at Normal name) es → r ≡ is_some one → r ≡ true → r ≡ list_any (λ (e : Entry). bytes_eq name e.key) es
  entry_first es one r at_one is there = there ∙ sym (ap (λ b. b || is_some (position (at Build name) es)) (sym (is ∙ ap is_some at_one) ∙ there)) ∙ entry_found es

  pub entry_second : (es : List Entry) (one two : Option ℕ) (r s : Bool) → one ≡ position (at Normal name) es → r ≡ is_some one → r ≡ false → two ≡ position (at Build name) es → s ≡ is_some two
      → s ≡ list_any (λ (e : Entry). bytes_eq name e.key) es
  entry_second es one two r s at_one is not_there at_two also =
      also ∙ ap is_some at_two ∙ sym (ap (λ b. b || is_some (position (at Build name) es)) (sym (is ∙ ap is_some at_one) ∙ not_there)) ∙ entry_found es

  -- of the indices that were found in both tables
  pub entry_indices : (es : List Entry) (one two : Option ℕ) → one ≡ position (at Normal name) es → two ≡ position (at Build name) es → list_any (λ (e : Entry). bytes_eq name e.key) es ≡ (is_some one || is_some two)
  entry_indices es one two at_one at_two = sym (ap (λ o. is_some o || is_some two) at_one ∙ ap (λ o. is_some (position (at Normal name) es) || is_some o) at_two ∙ entry_found es)

  pub optional_indices : (es : List Entry) → Ascend es → (one two : Option ℕ) → one ≡ position (at Normal name) es → two ≡ position (at Build name) es
      → list_any (λ (e : Entry). bytes_eq name e.key && e.optional) es ≡ (found is_optional false es one || found is_optional false es two)
  optional_indices es up one two at_one at_two =
      sym (ap (λ o. found is_optional false es o || found is_optional false es two) at_one ∙ ap (λ o. found is_optional false es (position (at Normal name) es) || found is_optional false es o) at_two ∙ optional_found es up)

-- the rules of an item
else_nothing : {B : Type 0} (b : Bool) (xs : List B) → b ≡ false → (if b then xs else []) ≡ []
else_nothing b xs is = ap (λ c. if c then xs else []) is

module _ (ps : List Package) (bs : List ℕ) (p : ℕ) (fs : List Feature) (k : ℕ) where
  other_item : (s : Side) (item : FeatureItem) (name : List ℕ) → entry_named item ≡ Some name → (n : ℕ) (e : Entry) → bytes_eq name e.key ≡ false → item_rules ps bs s p fs k item n e ≡ []
  other_item s (Own g) name named n e other = refl
  other_item s (Dependency dependency) name named n e other = let same : dependency ≡ name = cc in else_nothing (bytes_eq dependency e.key) _ (ap (λ d. bytes_eq d e.key) same ∙ other)
  other_item s (Of dependency g) name named n e other = let same : dependency ≡ name = cc in else_nothing (bytes_eq dependency e.key) _ (ap (λ d. bytes_eq d e.key) same ∙ other)
  other_item s (OfEnabled dependency g) name named n e other = let same : dependency ≡ name = cc in else_nothing (bytes_eq dependency e.key) _ (ap (λ d. bytes_eq d e.key) same ∙ other)

  own_item : (s : Side) (item : FeatureItem) → None ≡ entry_named item → (n : ℕ) (e : Entry) → item_rules ps bs s p fs k item n e ≡ []
  own_item s (Own g) none n e = refl
  own_item s _ none n e = cc

  others : (item : FeatureItem) (name : List ℕ) → entry_named item ≡ Some name → (n : ℕ) (e : Entry) → bytes_eq name e.key ≡ false → both_item_rules ps bs p fs k item n e ≡ []
  others item name named n e other = ap (λ xs. xs ++ item_rules ps bs Host p fs k item n e) (other_item Target item name named n e other) ∙ other_item Host item name named n e other

  owns : (item : FeatureItem) → None ≡ entry_named item → (n : ℕ) (e : Entry) → both_item_rules ps bs p fs k item n e ≡ []
  owns item none n e = ap (λ xs. xs ++ item_rules ps bs Host p fs k item n e) (own_item Target item none n e) ∙ own_item Host item none n e

  pub named_added : (item : FeatureItem) (name : List ℕ) (es : List Entry) (rules one two : List Rule) (normal build : Option ℕ) → entry_named item ≡ Some name → Ascend es
      → normal ≡ position (at Normal name) es → one ≡ rules ++ found (both_item_rules ps bs p fs k item) [] es normal
      → build ≡ position (at Build name) es → two ≡ one ++ found (both_item_rules ps bs p fs k item) [] es build
      → two ≡ rules ++ placed (both_item_rules ps bs p fs k item) 0 es
  named_added item name es rules one two normal build named up at_normal first at_build second =
      let g : ℕ → Entry → List Rule = both_item_rules ps bs p fs k item in
      second ∙ ap (λ xs. xs ++ found g [] es build) first ∙ append_assoc rules (found g [] es normal) (found g [] es build)
      ∙ ap (λ i. rules ++ (found g [] es i ++ found g [] es build)) at_normal ∙ ap (λ i. rules ++ (found g [] es (position (at Normal name) es) ++ found g [] es i)) at_build
      ∙ sym (ap (λ xs. rules ++ xs) (placed_found g name (others item name named) es up))

  pub own_added : (item : FeatureItem) (es : List Entry) (rules own new : List Rule) → None ≡ entry_named item → new ≡ rules ++ own → new ≡ rules ++ (own ++ placed (both_item_rules ps bs p fs k item) 0 es)
  own_added item es rules own new none added =
      added ∙ sym (ap (λ xs. rules ++ xs) (ap (λ ys. own ++ ys) (placed_none (both_item_rules ps bs p fs k item) 0 es (owns item none)) ∙ append-nil own))

  pub both_added : (item : FeatureItem) (es : List Entry) (rules own one new : List Rule) → one ≡ rules ++ own → new ≡ one ++ placed (both_item_rules ps bs p fs k item) 0 es
      → new ≡ rules ++ (own ++ placed (both_item_rules ps bs p fs k item) 0 es)
  both_added item es rules own one new first second =
      second ∙ ap (λ xs. xs ++ placed (both_item_rules ps bs p fs k item) 0 es) first ∙ append_assoc rules own (placed (both_item_rules ps bs p fs k item) 0 es)
