-- A binary that is found has the source that one written without a path would have.
use Rattle.std.proofs.Common.{◌≡◌, ◌≢◌, ◌∙◌, ◌⊎◌, inl, inr, ◌&&◌, ◌||◌, ◌==◌, ℕ, suc, arith, Bool, true, false, not, cond, if◌then◌else◌, codes, is_some, length, List, [], ◌∷◌, ◌++◌, Contains, Option, Some, None, unwrap_or, refl, sym, ap, subst}
use Rattle.std.proofs.lemmas.Bool.{false≢true}
use Rattle.std.proofs.lemmas.Bool.Decides.{nat_tests}
use Rattle.std.proofs.lemmas.List.Elements.{Contains-append_left, Contains-append_right}
use Rattle.std.proofs.lemmas.Slice.Eq.{bytes_eq-Decides}
use Rattle.std.specs.FinMap.{get, retain_keys}
use Rattle.std.specs.List.{cons_option, filter, filter_map, list_all, list_any}
use Rattle.std.specs.Str.{bytes_eq}
use Rattle.pb_graph.proofs.Membership.{none, head, tail, cases}
use Rattle.pb_manifest_types.specs.Features.{parted}
use Rattle.pb_manifest_types.specs.Letters as letters
use Rattle.pb_manifest_types.proofs.Parting.{parted_none, parted_some}
use Rattle.pb_workspace_types.proofs.NamesInPaths.{no_dot, unlike}
use Rattle.pb_workspace_types.specs.declared.package.Binary.{Binary}
use Rattle.pb_place_types.specs.Paths.{below, inside, is_below, is_name, is_path, is_relative, parts_of, slashed}
use Rattle.pb_place_types.specs.World.{World, is_same_path, listed, FilesHavePaths}
use Rattle.pb_place_types.proofs.MapLemmas.{among_keys, get-kept, same_bytes}
use Rattle.pb_place_types.proofs.PathLemmas.{and_left, and_right, below_is_path, slashed_parts}
use Rattle.pb_place_types.proofs.TakenApart.{found_inside, inside_is_relative, joins_again}
use Rattle.pb_place_types.proofs.Within.{goes_below, one_byte}
use Rattle.pb_workspace_package.specs.Between.{names_in, is_word}
use Rattle.pb_workspace_package.specs.Binaries.{binary_source, first_some, flat_source, looked_for, looked_in_bin, main_source, nested_source}
use Rattle.pb_workspace_package.specs.FoundBinaries.{bin_folder, binary_at, flat_name, found_at, found_binaries, main_binary, name_inside, nested_name, stem_in}
use Rattle.pb_workspace_package.specs.Laws.{FoundAsLookedFor}
use Rattle.pb_workspace_package.specs.Sources.{has_own_file, own_source}
use Rattle.pb_workspace_package.proofs.BinPaths.{cut_after}
use Rattle.pb_workspace_package.proofs.Listed.{below_twice}

-- an element of two lists that stand one after the other: in the first, and then all of the second come later, or in the second
split : {A : Type 0} (xs ys before later : List A) (b : A) → xs ++ ys ≡ before ++ b ∷ later → (Contains xs b × ((y : A) → Contains ys y → Contains later y)) ⊎ ((rest : List A) × (ys ≡ rest ++ b ∷ later))
split [] ys before later b e = inr (before, e)
split (x ∷ xs) ys [] later b e =
    let here : x ≡ b = cc in
    let more : xs ++ ys ≡ later = cc in
    inl (subst (λ z. Contains (x ∷ xs) z) here (head x xs), λ y there. subst (λ l. Contains l y) more (Contains-append_right xs ys y there))
split (x ∷ xs) ys (z ∷ before) later b e =
    let more : xs ++ ys ≡ before ++ b ∷ later = cc in
    elim (split xs ys before later b more) [ inl first ↦ inl (tail x xs b first.0, first.1) | inr second ↦ inr second ]

-- what is made of some, where something is made
made_only : {A B : Type 0} (f : A → Option B) (xs : List A) (y : B) → Contains (filter_map f xs) y → (x : A) × Contains xs x × (f x ≡ Some y)
made_only f [] y is = absurd (none y is)
made_only {A} {B} f (x ∷ xs) y is = by (f x) refl is (made_only f xs y)
  where
    by : (o : Option B) → f x ≡ o → Contains (cons_option o (filter_map f xs)) y → (Contains (filter_map f xs) y → (z : A) × Contains xs z × (f z ≡ Some y)) → (z : A) × Contains (x ∷ xs) z × (f z ≡ Some y)
    by None at h rest = let r = rest h in (r.0, tail x xs r.0 r.1, r.2)
    by (Some v) at h rest = elim (cases v (filter_map f xs) y h) [
      | inl here ↦ (x, head x xs, at ∙ ap (λ q. Some q) here)
      | inr there ↦ (let r = rest there in (r.0, tail x xs r.0 r.1, r.2))
    ]

made_each : {A B : Type 0} (f : A → Option B) (xs : List A) (x : A) (y : B) → Contains xs x → f x ≡ Some y → Contains (filter_map f xs) y
made_each f [] x y is at = absurd (none x is)
made_each {A} {B} f (w ∷ xs) x y is at = elim (cases w xs x is) [
  | inl here ↦ subst (λ o. Contains (cons_option o (filter_map f xs)) y) (sym (ap f here ∙ at)) (head y (filter_map f xs))
  | inr there ↦ by (f w) (made_each f xs x y there at)
]
  where
    by : (o : Option B) → Contains (filter_map f xs) y → Contains (cons_option o (filter_map f xs)) y
    by None rest = rest
    by (Some v) rest = tail v (filter_map f xs) y rest

-- a file is listed in a folder where it lies below it and is there
any_there : (xs : List (List ℕ)) (q : List ℕ) → Contains xs q → list_any (is_same_path q) xs ≡ true
any_there [] q is = absurd (none q is)
any_there (x ∷ xs) q is = elim (cases x xs q is) [
  | inl here ↦ ap (λ b. b || list_any (is_same_path q) xs) (sym (same_bytes x q) ∙ (bytes_eq-Decides x q).1 here)
  | inr there ↦ second (is_same_path q x) _ (any_there xs q there)
]
  where
    second : (a b : Bool) → b ≡ true → a || b ≡ true
    second true b h = refl
    second false b h = h

there_any : (xs : List (List ℕ)) (q : List ℕ) → list_any (is_same_path q) xs ≡ true → Contains xs q
there_any [] q is = cc
there_any (x ∷ xs) q is = by (is_same_path q x) refl is (there_any xs q)
  where
    by : (b : Bool) → is_same_path q x ≡ b → b || list_any (is_same_path q) xs ≡ true → (list_any (is_same_path q) xs ≡ true → Contains xs q) → Contains (x ∷ xs) q
    by true at h rest = subst (Contains (x ∷ xs)) ((bytes_eq-Decides x q).0 (same_bytes x q ∙ at)) (head x xs)
    by false at h rest = tail x xs q (rest h)

both_some : (b : Bool) (o : Option (List ℕ)) → is_some (cond b o None) ≡ true → (b ≡ true) × (is_some o ≡ true)
both_some true o is = (refl, is)
both_some false o is = cc

some_both : (b : Bool) (o : Option (List ℕ)) → b ≡ true → is_some o ≡ true → is_some (cond b o None) ≡ true
some_both true o on is = is
some_both false o on is = cc

listed_only : (base q : List ℕ) (w : World) → Contains (listed base w) q → (is_below base q ≡ true) × (is_some (get w.files q) ≡ true)
listed_only base q w is = both_some (is_below base q) (get w.files q) (ap is_some (sym (get-kept w.files (is_below base) q)) ∙ sym (among_keys (retain_keys w.files (is_below base)) q) ∙ any_there _ q is)

listed_each : (base q : List ℕ) (w : World) → is_below base q ≡ true → is_some (get w.files q) ≡ true → Contains (listed base w) q
listed_each base q w lies there = there_any _ q (among_keys (retain_keys w.files (is_below base)) q ∙ ap is_some (get-kept w.files (is_below base) q) ∙ some_both (is_below base q) (get w.files q) lies there)

-- a text with a byte is what stands before its first one, and what stands after it
first_mark : (mark : ℕ) (text : List ℕ) → list_any (λ b. b == mark) text ≡ true → (x : List ℕ) × (y : List ℕ) × (text ≡ x ++ mark ∷ y) × (list_any (λ b. b == mark) x ≡ false)
first_mark mark [] is = cc
first_mark mark (b ∷ text) is = by (b == mark) refl is (first_mark mark text)
  where
    by : (t : Bool) → b == mark ≡ t → t || list_any (λ c. c == mark) text ≡ true → (list_any (λ c. c == mark) text ≡ true → (x : List ℕ) × (y : List ℕ) × (text ≡ x ++ mark ∷ y) × (list_any (λ c. c == mark) x ≡ false)) → (x : List ℕ) × (y : List ℕ) × (b ∷ text ≡ x ++ mark ∷ y) × (list_any (λ c. c == mark) x ≡ false)
    by true at h rest = ([], text, ap (λ c. c ∷ text) (one_byte b mark at), refl)
    by false at h rest = let r = rest h in (b ∷ r.0, r.1, ap (λ t. b ∷ t) r.2, ap (λ t. t || list_any (λ c. c == mark) r.0) at ∙ r.3)

parted_joins : (mark : ℕ) (text part rest : List ℕ) → parted mark text ≡ Some (part, rest) → text ≡ part ++ mark ∷ rest
parted_joins mark text part rest at = by (list_any (λ b. b == mark) text) refl
  where
    by : (t : Bool) → list_any (λ b. b == mark) text ≡ t → text ≡ part ++ mark ∷ rest
    by false is = let no : ◌≡◌ {A = Option (List ℕ × List ℕ)} None (Some (part, rest)) = sym (parted_none mark text is) ∙ at in cc
    by true is =
        let r = first_mark mark text is in
        let same : ◌≡◌ {A = Option (List ℕ × List ℕ)} (Some (r.0, r.1)) (Some (part, rest)) = sym (ap (parted mark) r.2 ∙ parted_some mark r.0 r.1 r.3) ∙ at in
        let pair : (r.0, r.1) ≡ (part, rest) = cc in
        let one : r.0 ≡ part = ap (λ (p : List ℕ × List ℕ). p.0) pair in
        let two : r.1 ≡ rest = ap (λ (p : List ℕ × List ℕ). p.1) pair in
        r.2 ∙ ap (λ x. x ++ mark ∷ r.1) one ∙ ap (λ y. part ++ mark ∷ y) two

-- a relative path has its parts as names
some_byte : (n : ℕ) → suc n == 0 ≡ false
some_byte n = grind (arith, nat_tests)

words_stay : (parts : List (List ℕ)) → list_all is_name parts ≡ true → filter is_word parts ≡ parts
words_stay [] all = refl
words_stay ([] ∷ parts) all = cc
words_stay ((b ∷ part) ∷ parts) all = ap (λ t. cond (not t) ((b ∷ part) ∷ filter is_word parts) (filter is_word parts)) (some_byte (length part)) ∙ ap (λ ps. (b ∷ part) ∷ ps) (words_stay parts (and_right _ _ all))

parts_named : (relative : List ℕ) → is_relative relative ≡ true → names_in relative ≡ parts_of relative
parts_named relative is = words_stay (parts_of relative) is

append_none : (xs : List ℕ) → xs ++ [] ≡ xs
append_none [] = refl
append_none (x ∷ xs) = ap (λ ys. x ∷ ys) (append_none xs)

spelled_one : (text file : List ℕ) → parts_of text ≡ file ∷ [] → text ≡ file
spelled_one text file is =
    let whole : 47 ∷ text ≡ 47 ∷ (file ++ []) = sym (slashed_parts text) ∙ ap slashed is in
    let same : text ≡ file ++ [] = cc in
    same ∙ append_none file

spelled_two : (text name file : List ℕ) → parts_of text ≡ name ∷ file ∷ [] → text ≡ name ++ 47 ∷ file
spelled_two text name file is =
    let whole : 47 ∷ text ≡ 47 ∷ (name ++ 47 ∷ (file ++ [])) = sym (slashed_parts text) ∙ ap slashed is in
    let same : text ≡ name ++ 47 ∷ (file ++ []) = cc in
    same ∙ ap (λ t. name ++ 47 ∷ t) (append_none file)

-- `NAME.rs` and `NAME/main.rs`
flat_text : (relative : List ℕ) (names : List (List ℕ)) (n : List ℕ) → parts_of relative ≡ names → flat_name names ≡ Some n → relative ≡ n ++ codes ".rs"
flat_text relative [] n are is = cc
flat_text relative (file ∷ []) n are is = by (parted 46 file) refl is
  where
    by : (o : Option (List ℕ × List ℕ)) → parted 46 file ≡ o → stem_in o ≡ Some n → relative ≡ n ++ codes ".rs"
    by None at h = cc
    by (Some (part, rest)) at h = on (letters.is_name part) (bytes_eq rest (codes "rs")) refl h
      where
        on : (a b : Bool) → bytes_eq rest (codes "rs") ≡ b → (if a && b then Some part else None) ≡ Some n → relative ≡ n ++ codes ".rs"
        on true true ends g =
            let same : part ≡ n = cc in
            spelled_one relative file are ∙ parted_joins 46 file part rest at ∙ ap (λ e. part ++ 46 ∷ e) ((bytes_eq-Decides rest (codes "rs")).0 ends) ∙ ap (λ p. p ++ codes ".rs") same
        on true false ends g = cc
        on false b ends g = cc
flat_text relative (first ∷ second ∷ more) n are is = cc

nested_text : (relative : List ℕ) (names : List (List ℕ)) (n : List ℕ) → parts_of relative ≡ names → nested_name names ≡ Some n → (relative ≡ n ++ codes "/main.rs") × (letters.is_name n ≡ true)
nested_text relative [] n are is = cc
nested_text relative (file ∷ []) n are is = cc
nested_text relative (name ∷ file ∷ []) n are is = on (letters.is_name name) (bytes_eq file (codes "main.rs")) refl refl is
  where
    on : (a b : Bool) → letters.is_name name ≡ a → bytes_eq file (codes "main.rs") ≡ b → (if a && b then Some name else None) ≡ Some n → (relative ≡ n ++ codes "/main.rs") × (letters.is_name n ≡ true)
    on true true named ends g =
        let same : name ≡ n = cc in
        (spelled_two relative name file are ∙ ap (λ e. name ++ 47 ∷ e) ((bytes_eq-Decides file (codes "main.rs")).0 ends) ∙ ap (λ p. p ++ codes "/main.rs") same, ap letters.is_name (sym same) ∙ named)
    on true false named ends g = cc
    on false b named ends g = cc
nested_text relative (first ∷ second ∷ third ∷ more) n are is = cc

no_dot_in : (name : List ℕ) → list_all letters.is_name_byte name ≡ true → list_any (λ b. b == 46) name ≡ false
no_dot_in [] all = refl
no_dot_in (b ∷ name) all = ap (λ t. t || list_any (λ c. c == 46) name) (unlike 46 b no_dot (and_left _ _ all)) ∙ no_dot_in name (and_right _ _ all)

flat_again : (name : List ℕ) → letters.is_name name ≡ true → flat_name (names_in (name ++ codes ".rs")) ≡ Some name
unfolding letters.is_name
flat_again [] is = absurd (false≢true is)
flat_again (b ∷ name) is =
    let all = and_right _ _ is in
    ap (λ ps. flat_name (filter is_word ps)) (cut_after (b ∷ name) (codes ".rs") (codes ".rs") [] all refl)
    ∙ ap (λ t. flat_name (cond (not t) ((b ∷ (name ++ codes ".rs")) ∷ []) [])) (some_byte (length (name ++ codes ".rs")))
    ∙ ap stem_in (parted_some 46 (b ∷ name) (codes "rs") (no_dot_in (b ∷ name) all))
    ∙ ap (λ t. if t && true then Some (b ∷ name) else None) is

-- what a path in `src/bin` gives
module _ (folder : List ℕ) (sources : World) (owner : List ℕ) (at : is_path folder ≡ true) (files : FilesHavePaths sources) where
  abbrev bin : List ℕ
  bin = bin_folder folder

  bin_at : is_path bin ≡ true
  bin_at = below_is_path folder (codes "src/bin") bin at refl refl

  -- it is the path of NAME, and a file
  record IsFound (source : List ℕ → List ℕ) (b : Binary) : Type 0 where
    path : b.source ≡ below folder (source b.name)
    there : is_some (get sources.files b.source) ≡ true

  lies : (q rest : List ℕ) → inside bin q ≡ Some rest → (relative : List ℕ) → rest ≡ relative → q ≡ below bin relative
  lies q rest is relative same = sym (joins_again bin q rest is) ∙ ap (below bin) same

  is_at : (q : List ℕ) → is_some (get sources.files q) ≡ true → is_path q ≡ true
  is_at q some = by (get sources.files q) refl some
    where
      by : (o : Option (List ℕ)) → get sources.files q ≡ o → is_some o ≡ true → is_path q ≡ true
      by None none_there h = cc
      by (Some text) there h = files q text there

  flat_found : (b : Binary) → Contains (filter_map (binary_at false bin) (listed bin sources)) b → IsFound flat_source b
  flat_found b is =
      let (q, among, made) = made_only (binary_at false bin) (listed bin sources) b is in
      let (beneath, there) = listed_only bin q sources among in
      by q there (inside bin q) refl made
    where
      by : (q : List ℕ) → is_some (get sources.files q) ≡ true → (o : Option (List ℕ)) → inside bin q ≡ o → found_at q (name_inside false o) ≡ Some b → IsFound flat_source b
      by q there None is h = cc
      by q there (Some rest) is h = on (flat_name (names_in rest)) refl h
        where
          on : (o : Option (List ℕ)) → flat_name (names_in rest) ≡ o → found_at q o ≡ Some b → IsFound flat_source b
          on None named g = cc
          on (Some n) named g =
              let made : record { name = n; source = q; required_features = [] } ≡ b = cc in
              let relative = inside_is_relative bin q rest bin_at (is_at q there) is in
              let text = flat_text rest (parts_of rest) n refl (ap flat_name (sym (parts_named rest relative)) ∙ named) in
              subst (IsFound flat_source) made (record { path = lies q rest is (n ++ codes ".rs") text ∙ sym (below_twice folder (codes "rc/bin") (n ++ codes ".rs") 115); there = there })

  nested_found : (b : Binary) → Contains (filter_map (binary_at true bin) (listed bin sources)) b → IsFound nested_source b × (letters.is_name b.name ≡ true)
  nested_found b is =
      let (q, among, made) = made_only (binary_at true bin) (listed bin sources) b is in
      let (beneath, there) = listed_only bin q sources among in
      by q there (inside bin q) refl made
    where
      by : (q : List ℕ) → is_some (get sources.files q) ≡ true → (o : Option (List ℕ)) → inside bin q ≡ o → found_at q (name_inside true o) ≡ Some b → IsFound nested_source b × (letters.is_name b.name ≡ true)
      by q there None is h = cc
      by q there (Some rest) is h = on (nested_name (names_in rest)) refl h
        where
          on : (o : Option (List ℕ)) → nested_name (names_in rest) ≡ o → found_at q o ≡ Some b → IsFound nested_source b × (letters.is_name b.name ≡ true)
          on None named g = cc
          on (Some n) named g =
              let made : record { name = n; source = q; required_features = [] } ≡ b = cc in
              let relative = inside_is_relative bin q rest bin_at (is_at q there) is in
              let text = nested_text rest (parts_of rest) n refl (ap nested_name (sym (parts_named rest relative)) ∙ named) in
              subst (λ (x : Binary). IsFound nested_source x × (letters.is_name x.name ≡ true)) made
              (record { path = lies q rest is (n ++ codes "/main.rs") text.0 ∙ sym (below_twice folder (codes "rc/bin") (n ++ codes "/main.rs") 115); there = there }, text.1)

  -- a file NAME.rs is found
  flat_there : (name : List ℕ) → letters.is_name name ≡ true → has_own_file folder sources (flat_source name) ≡ true → Contains (filter_map (binary_at false bin) (listed bin sources)) (record { name = name; source = below folder (flat_source name); required_features = [] })
  flat_there name named there =
      let path : List ℕ = below folder (flat_source name) in
      let deep : path ≡ below bin (name ++ codes ".rs") = below_twice folder (codes "rc/bin") (name ++ codes ".rs") 115 in
      let beneath : is_below bin path ≡ true = ap (is_below bin) deep ∙ goes_below bin (name ++ codes ".rs") (some_text name) in
      made_each (binary_at false bin) (listed bin sources) path _ (listed_each bin path sources beneath there)
      (ap (λ o. found_at path (name_inside false o)) (ap (inside bin) deep ∙ found_inside bin (name ++ codes ".rs") (some_text name)) ∙ ap (found_at path) (flat_again name named))
    where
      some_text : (name : List ℕ) → name ++ codes ".rs" ≢ []
      some_text [] = λ none. cc
      some_text (b ∷ name) = λ none. cc

  -- what is looked for
  own_there : (name : List ℕ) (path : List ℕ) → path ≡ below folder name → is_some (get sources.files path) ≡ true → own_source folder sources name ≡ Some path
  own_there name path is there = ap (λ b. if b then Some (below folder name) else None) (ap (λ q. is_some (get sources.files q)) (sym is) ∙ there) ∙ ap (λ q. Some q) (sym is)

  -- one in `src/bin` is what is looked for, unless it is named as the package and `src/main.rs` is there
  in_bin : (name path : List ℕ) (t : Bool) → looked_in_bin folder sources name ≡ Some path → (t ≡ true → own_source folder sources main_source ≡ None) → path ≡ looked_for folder sources t name
  in_bin name path true found absent = sym (ap (λ o. unwrap_or (first_some o (looked_in_bin folder sources name)) (below folder main_source)) (absent refl) ∙ ap (λ o. unwrap_or o (below folder main_source)) found)
  in_bin name path false found absent = sym (ap (λ o. unwrap_or o (below folder (flat_source name))) found)

  -- `src/main.rs` is not there, where no later binary has the package's name
  no_main : (later : List Binary) (b : Binary) → ((y : Binary) → Contains (main_binary owner (own_source folder sources main_source)) y → Contains later y) → ((other : Binary) → Contains later other → other.name ≢ b.name) → bytes_eq b.name owner ≡ true → own_source folder sources main_source ≡ None
  no_main later b comes last is = by (own_source folder sources main_source) refl comes
    where
      by : (o : Option (List ℕ)) → own_source folder sources main_source ≡ o → ((y : Binary) → Contains (main_binary owner o) y → Contains later y) → own_source folder sources main_source ≡ None
      by None there more = there
      by (Some path) there more = absurd (last _ (more (record { name = owner; source = path; required_features = [] }) (head _ [])) (sym ((bytes_eq-Decides b.name owner).0 is)))

  main_only : (o : Option (List ℕ)) (rest later : List Binary) (b : Binary) → own_source folder sources main_source ≡ o → main_binary owner o ≡ rest ++ b ∷ later → b.source ≡ looked_for folder sources (bytes_eq b.name owner) b.name
  main_only None [] later b there is = cc
  main_only None (x ∷ rest) later b there is = cc
  main_only (Some path) [] later b there is =
      let same : record { name = owner; source = path; required_features = [] } ≡ b = cc in
      subst (λ (x : Binary). x.source ≡ looked_for folder sources (bytes_eq x.name owner) x.name) same
      (sym (ap (λ t. looked_for folder sources t owner) ((bytes_eq-Decides owner owner).1 refl) ∙ ap (λ o. unwrap_or (first_some o (looked_in_bin folder sources owner)) (below folder main_source)) there))
  main_only (Some path) (x ∷ []) later b there is = cc
  main_only (Some path) (x ∷ y ∷ rest) later b there is = cc

  abbrev nested : List Binary
  nested = filter_map (binary_at true bin) (listed bin sources)

  abbrev flat : List Binary
  flat = filter_map (binary_at false bin) (listed bin sources)

  abbrev main : List Binary
  main = main_binary owner (own_source folder sources main_source)

  whole : (before later : List Binary) (b : Binary) → found_binaries folder sources owner ≡ before ++ b ∷ later → ((other : Binary) → Contains later other → other.name ≢ b.name) → b.source ≡ binary_source folder sources owner b.name None
  whole before later b is last =
      elim (split nested (flat ++ main) before later b is) [
        | inl first ↦ from_nested first.0 first.1
        | inr second ↦ elim (split flat main second.0 later b second.1) [
          | inl one ↦ from_flat one.0 one.1
          | inr two ↦ main_only (own_source folder sources main_source) two.0 later b refl two.1
        ]
      ]
    where
      from_flat : Contains flat b → ((y : Binary) → Contains main y → Contains later y) → b.source ≡ looked_for folder sources (bytes_eq b.name owner) b.name
      from_flat among comes =
          let found = flat_found b among in
          in_bin b.name b.source (bytes_eq b.name owner) (ap (λ o. first_some o (own_source folder sources (nested_source b.name))) (own_there (flat_source b.name) b.source found.path found.there)) (no_main later b comes last)

      from_nested : Contains nested b → ((y : Binary) → Contains (flat ++ main) y → Contains later y) → b.source ≡ looked_for folder sources (bytes_eq b.name owner) b.name
      from_nested among comes =
          let (found, named) = nested_found b among in
          in_bin b.name b.source (bytes_eq b.name owner) (ap (λ o. first_some o (own_source folder sources (nested_source b.name))) (no_flat named) ∙ own_there (nested_source b.name) b.source found.path found.there)
          (no_main later b (λ y there. comes y (Contains-append_right flat main y there)) last)
        where
          no_flat : letters.is_name b.name ≡ true → own_source folder sources (flat_source b.name) ≡ None
          no_flat named = by (has_own_file folder sources (flat_source b.name)) refl
            where
              by : (t : Bool) → has_own_file folder sources (flat_source b.name) ≡ t → (if t then Some (below folder (flat_source b.name)) else None) ≡ None
              by false absent = refl
              by true there = absurd (last _ (comes _ (Contains-append_left flat main _ (flat_there b.name named there))) refl)

pub found_as_looked_for : FoundAsLookedFor
found_as_looked_for folder sources owner before later b at files is last = whole folder sources owner at files before later b is last
