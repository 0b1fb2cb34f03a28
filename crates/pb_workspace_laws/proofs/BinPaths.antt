-- Which paths in `src/bin` give which binaries.
use Rattle.std.proofs.Common.{◌≡◌, ◌≢◌, ◌∙◌, ◌&&◌, ◌==◌, ◌+◌, ℕ, suc, arith, Bool, true, false, not, cond, if◌then◌else◌, codes, List, [], ◌∷◌, ◌++◌, length, drop, Contains, Option, Some, None, is_some, refl, sym, ap, subst, append_assoc}
use Rattle.std.proofs.lemmas.Bool.{false≢true}
use Rattle.std.proofs.lemmas.Bool.Decides.{nat_tests}
use Rattle.std.proofs.lemmas.List.{append-nil}
use Rattle.std.proofs.lemmas.Slice.Eq.{bytes_eq-Decides}
use Rattle.std.specs.FinMap as finite
use Rattle.std.specs.List.{filter, filter_map, list_all, list_any}
use Rattle.std.specs.Str.{bytes_eq}
use Rattle.pb_graph.proofs.Membership.{to_kept, from_kept}
use Rattle.pb_manifest_types.specs.Features.{parted}
use Rattle.pb_manifest_types.specs.Letters as letters
use Rattle.pb_manifest_types.proofs.Parting.{parted_around}
use Rattle.pb_manifest_types.proofs.Parting.{parted_some}
use Rattle.pb_workspace_types.proofs.NamesInPaths.{no_slash, no_dot, without}
use Rattle.pb_workspace_types.specs.declared.package.Binary.{Binary}
use Rattle.pb_place_types.proofs.PathLemmas.{and_right, parts_joined, slashed_parts}
use Rattle.pb_place_types.proofs.TakenApart.{joins_again, found_inside, parts_lone}
use Rattle.pb_place_types.specs.Paths.{below, stem, inside, is_below, is_name, is_path, is_relative, parts_of, slashed}
use Rattle.pb_place_types.specs.World.{World, listed, FilesHavePaths}
use Rattle.pb_workspace_package.specs.Between.{names_in, is_word}
use Rattle.pb_workspace_package.specs.FoundBinaries.{stem_in, flat_name, nested_name, name_by, name_inside, found_at, binary_at, bin_folder}
use Rattle.pb_workspace.proofs.FoldersListed.{listed_each, listed_only}
use Rattle.pb_workspace_laws.specs.Files.{is_file}

-- the folder `src/bin`
bin_stem : (folder : List ℕ) → stem (bin_folder folder) ≡ bin_folder folder
bin_stem folder = by (stem folder)
  where
    deeper : (s : List ℕ) → bytes_eq (s ++ 47 ∷ codes "src/bin") [] ≡ false
    deeper [] = refl
    deeper (y ∷ s) = refl

    neither : (a b : Bool) → b ≡ false → (a && b) ≡ false
    neither true b h = h
    neither false b h = refl

    by : (s : List ℕ) → stem (s ++ 47 ∷ codes "src/bin") ≡ s ++ 47 ∷ codes "src/bin"
    by [] = refl
    by (x ∷ s) = ap (λ b. cond b [] (x ∷ s ++ 47 ∷ codes "src/bin")) (neither (x == 47) (bytes_eq (s ++ 47 ∷ codes "src/bin") []) (deeper s))

-- what lies in it lies in the package's folder
in_folder : (folder rest : List ℕ) → below (bin_folder folder) rest ≡ below folder (codes "src/bin/" ++ rest)
in_folder folder rest = ap (λ s. s ++ 47 ∷ rest) (bin_stem folder) ∙ append_assoc (stem folder) (47 ∷ codes "src/bin") (47 ∷ rest)

is_inside : (folder path rest : List ℕ) → inside folder path ≡ Some rest → is_below folder path ≡ true
is_inside folder path rest h = by (is_below folder path) h
  where
    by : (b : Bool) → (if b then Some (drop (length (stem folder) + 1) path) else None) ≡ Some rest → b ≡ true
    by true h = refl
    by false h = cc

-- a part that is not empty
some_word : (n : ℕ) → (suc n == 0) ≡ false
some_word n = grind (arith, nat_tests)

keeps_word : (c : ℕ) (part : List ℕ) (rest : List (List ℕ)) → filter is_word ((c ∷ part) ∷ rest) ≡ (c ∷ part) ∷ filter is_word rest
keeps_word c part rest = ap (λ b. cond (not b) ((c ∷ part) ∷ filter is_word rest) (filter is_word rest)) (some_word (length part))

-- names of a relative path
all_words : (parts : List (List ℕ)) → list_all is_name parts ≡ true → filter is_word parts ≡ parts
all_words [] all = refl
all_words ([] ∷ parts) all = absurd (false≢true all)
all_words ((c ∷ part) ∷ parts) all = keeps_word c part parts ∙ ap (λ rest. (c ∷ part) ∷ rest) (all_words parts (and_right _ _ all))

right_of : (xs ys : List (List ℕ)) → list_all is_name (xs ++ ys) ≡ true → list_all is_name ys ≡ true
right_of [] ys all = all
right_of (x ∷ xs) ys all = right_of xs ys (and_right _ _ all)

relative_after : (a rest : List ℕ) → is_relative (a ++ 47 ∷ rest) ≡ true → is_relative rest ≡ true
relative_after a rest h = right_of (parts_of a) (parts_of rest) (ap (list_all is_name) (sym (parts_joined a rest)) ∙ h)

-- what stands in a path behind a folder and a slash is relative
behind : (s rest : List ℕ) → is_path (s ++ 47 ∷ rest) ≡ true → rest ≢ [] → is_relative rest ≡ true
behind [] [] h some = absurd (some refl)
behind [] (c ∷ rest) h some = h
behind (x ∷ []) rest h some = relative_after [] rest (and_right _ _ h)
behind (x ∷ y ∷ s) rest h some = relative_after (y ∷ s) rest (and_right _ _ h)

not_empty : (rest : List ℕ) → codes "src/bin/" ++ rest ≢ []
not_empty rest h = cc

deep : (folder rest : List ℕ) → is_path (below folder (codes "src/bin/" ++ rest)) ≡ true → is_relative rest ≡ true
deep folder rest h = relative_after (codes "src/bin") rest (behind (stem folder) (codes "src/bin/" ++ rest) h (not_empty rest))

rejoined : (rest : List ℕ) (parts : List (List ℕ)) → parts_of rest ≡ parts → 47 ∷ rest ≡ slashed parts
rejoined rest parts is = sym (slashed_parts rest) ∙ ap slashed is

abbrev tail_of : List ℕ → List ℕ
tail_of [] = []
tail_of (x ∷ xs) = xs

-- a name with an ending
flat_end : (name : List ℕ) → letters.is_name name ≡ true → names_in (name ++ codes ".rs") ≡ (name ++ codes ".rs") ∷ []
unfolding letters.is_name
flat_end [] is = absurd (false≢true is)
flat_end (c ∷ name) is = ap (filter is_word) (parts_lone (c ∷ name ++ codes ".rs") (without 47 no_slash (c ∷ name) (codes ".rs") (and_right _ _ is) refl)) ∙ keeps_word c (name ++ codes ".rs") []

nested_end : (name : List ℕ) → letters.is_name name ≡ true → names_in (name ++ codes "/main.rs") ≡ name ∷ codes "main.rs" ∷ []
unfolding letters.is_name
nested_end [] is = absurd (false≢true is)
nested_end (c ∷ name) is =
    let lone : list_any (λ b. b == 47) (c ∷ name) ≡ false = ap (list_any (λ b. b == 47)) (sym (append-nil (c ∷ name))) ∙ without 47 no_slash (c ∷ name) [] (and_right _ _ is) refl in
    ap (filter is_word) (parts_joined (c ∷ name) (codes "main.rs") ∙ ap (λ ps. ps ++ parts_of (codes "main.rs")) (parts_lone (c ∷ name) lone)) ∙ keeps_word c name (codes "main.rs" ∷ [])

both_on : (a b : Bool) → a ≡ true → b ≡ true → (a && b) ≡ true
both_on a b p q = ap (λ x. x && b) p ∙ q

flat_named : (name : List ℕ) → letters.is_name name ≡ true → flat_name (names_in (name ++ codes ".rs")) ≡ Some name
unfolding letters.is_name
flat_named name is =
    let dotless : list_any (λ b. b == 46) name ≡ false = ap (list_any (λ b. b == 46)) (sym (append-nil name)) ∙ without 46 no_dot name [] (and_right _ _ is) refl in
    ap flat_name (flat_end name is) ∙ ap stem_in (parted_some 46 name (codes "rs") dotless)
    ∙ ap (λ b. if b then Some name else None) (both_on (letters.is_name name) (bytes_eq (codes "rs") (codes "rs")) is refl)

nested_named : (name : List ℕ) → letters.is_name name ≡ true → nested_name (names_in (name ++ codes "/main.rs")) ≡ Some name
nested_named name is = ap nested_name (nested_end name is) ∙ ap (λ b. if b then Some name else None) (both_on (letters.is_name name) (bytes_eq (codes "main.rs") (codes "main.rs")) is refl)

-- the ending of a path in `src/bin`
abbrev pub ending : Bool → List ℕ
ending true = codes "/main.rs"
ending false = codes ".rs"

abbrev pub path_in : Bool → List ℕ → List ℕ
path_in nested name = codes "src/bin/" ++ (name ++ ending nested)

named_so : (nested : Bool) (name : List ℕ) → letters.is_name name ≡ true → name_by nested (names_in (name ++ ending nested)) ≡ Some name
named_so true name is = nested_named name is
named_so false name is = flat_named name is

some_end : (nested : Bool) (name : List ℕ) → name ++ ending nested ≢ []
some_end true [] h = cc
some_end false [] h = cc
some_end nested (x ∷ name) h = cc

-- a binary that is found at a path of `src/bin`
pub record IsFoundIn (sources : World) (folder : List ℕ) (nested : Bool) (b : Binary) : Type 0 where
  pub letters_are : letters.is_name b.name ≡ true
  pub file : is_file sources folder (path_in nested b.name) ≡ true
  pub source : b.source ≡ below folder (path_in nested b.name)
  pub features : b.required_features ≡ []

abbrev pub list_in : World → List ℕ → Bool → List Binary
list_in sources folder nested = filter_map (binary_at nested (bin_folder folder)) (listed (bin_folder folder) sources)

pub found_to : (sources : World) (folder : List ℕ) (nested : Bool) (b : Binary) → IsFoundIn sources folder nested b → Contains (list_in sources folder nested) b
found_to sources folder nested b is =
    let rest = b.name ++ ending nested in
    let at : below (bin_folder folder) rest ≡ below folder (path_in nested b.name) = in_folder folder rest in
    let in_it : inside (bin_folder folder) (below folder (path_in nested b.name)) ≡ Some rest = ap (inside (bin_folder folder)) (sym at) ∙ found_inside (bin_folder folder) rest (some_end nested b.name) in
    let gives : binary_at nested (bin_folder folder) (below folder (path_in nested b.name)) ≡ Some record { name = b.name; source = below folder (path_in nested b.name); required_features = [] } =
    ap (λ o. found_at (below folder (path_in nested b.name)) (name_inside nested o)) in_it ∙ ap (found_at (below folder (path_in nested b.name))) (named_so nested b.name is.letters_are) in
    let same : record { name = b.name; source = below folder (path_in nested b.name); required_features = [] } ≡ b = λ i. record { name = b.name; source = sym is.source i; required_features = sym is.features i } in
    to_kept (binary_at nested (bin_folder folder)) (listed (bin_folder folder) sources) (below folder (path_in nested b.name)) b
    (listed_each sources (bin_folder folder) (below folder (path_in nested b.name)) (is_inside (bin_folder folder) _ rest in_it) is.file) (gives ∙ ap (λ x. Some x) same)

-- the names of what is found give its path
says_flat : (rest name : List ℕ) (names : List (List ℕ)) → 47 ∷ rest ≡ slashed names → flat_name names ≡ Some name → (letters.is_name name ≡ true) × (rest ≡ name ++ codes ".rs")
says_flat rest name [] whole h = cc
says_flat rest name (file ∷ []) whole h = by (parted 46 file) refl h
  where
    with_end : (before after : List ℕ) (a b : Bool) → parted 46 file ≡ Some (before, after) → letters.is_name before ≡ a → bytes_eq after (codes "rs") ≡ b → (if a && b then Some before else None) ≡ Some name
        → (letters.is_name name ≡ true) × (rest ≡ name ++ codes ".rs")
    with_end before after true true at named end h =
        let same : before ≡ name = cc in
        let text : rest ≡ file = ap tail_of whole ∙ append-nil file in
        (ap letters.is_name (sym same) ∙ named, text ∙ parted_around 46 file before after at ∙ (λ i. same i ++ 46 ∷ (bytes_eq-Decides after (codes "rs")).0 end i))
    with_end before after true false at named end h = cc
    with_end before after false b at named end h = cc

    by : (o : Option (List ℕ × List ℕ)) → parted 46 file ≡ o → stem_in o ≡ Some name → (letters.is_name name ≡ true) × (rest ≡ name ++ codes ".rs")
    by None at h = cc
    by (Some p) at h = with_end p.0 p.1 (letters.is_name p.0) (bytes_eq p.1 (codes "rs")) at refl refl h
says_flat rest name (first ∷ second ∷ more) whole h = cc

says_nested : (rest name : List ℕ) (names : List (List ℕ)) → 47 ∷ rest ≡ slashed names → nested_name names ≡ Some name → (letters.is_name name ≡ true) × (rest ≡ name ++ codes "/main.rs")
says_nested rest name [] whole h = cc
says_nested rest name (file ∷ []) whole h = cc
says_nested rest name (own ∷ file ∷ []) whole h = by (letters.is_name own) (bytes_eq file (codes "main.rs")) refl refl h
  where
    by : (a b : Bool) → letters.is_name own ≡ a → bytes_eq file (codes "main.rs") ≡ b → (if a && b then Some own else None) ≡ Some name → (letters.is_name name ≡ true) × (rest ≡ name ++ codes "/main.rs")
    by true true named end h =
        let same : own ≡ name = cc in
        let text : rest ≡ own ++ 47 ∷ file = ap tail_of whole ∙ ap (λ t. own ++ 47 ∷ t) (append-nil file) in
        (ap letters.is_name (sym same) ∙ named, text ∙ (λ i. same i ++ 47 ∷ (bytes_eq-Decides file (codes "main.rs")).0 end i))
    by true false named end h = cc
    by false b named end h = cc
says_nested rest name (first ∷ second ∷ third ∷ more) whole h = cc

says_path : (nested : Bool) (rest name : List ℕ) (names : List (List ℕ)) → 47 ∷ rest ≡ slashed names → name_by nested names ≡ Some name → (letters.is_name name ≡ true) × (rest ≡ name ++ ending nested)
says_path true rest name names whole h = says_nested rest name names whole h
says_path false rest name names whole h = says_flat rest name names whole h

pub found_from : (sources : World) (folder : List ℕ) (nested : Bool) (b : Binary) → FilesHavePaths sources → Contains (list_in sources folder nested) b → IsFoundIn sources folder nested b
found_from sources folder nested b paths among =
    let k = from_kept (binary_at nested (bin_folder folder)) (listed (bin_folder folder) sources) b among in
    by k.0 (listed_only sources (bin_folder folder) k.0 k.1).1 (inside (bin_folder folder) k.0) refl k.2
  where
    some_path : (path : List ℕ) (found : Option (List ℕ)) → finite.get sources.files path ≡ found → is_some found ≡ true → is_path path ≡ true
    some_path path None at h = cc
    some_path path (Some bytes) at h = paths path bytes at

    named : (path rest : List ℕ) (name : Option (List ℕ)) → is_some (finite.get sources.files path) ≡ true → inside (bin_folder folder) path ≡ Some rest → name_by nested (names_in rest) ≡ name → found_at path name ≡ Some b → IsFoundIn sources folder nested b
    named path rest None file at is h = cc
    named path rest (Some name) file at is h =
        let here : below folder (codes "src/bin/" ++ rest) ≡ path = sym (in_folder folder rest) ∙ joins_again (bin_folder folder) path rest at in
        let relative : is_relative rest ≡ true = deep folder rest (ap is_path here ∙ some_path path (finite.get sources.files path) refl file) in
        let words : names_in rest ≡ parts_of rest = all_words (parts_of rest) relative in
        let s = says_path nested rest name (names_in rest) (rejoined rest (names_in rest) (sym words)) is in
        let same : record { name = name; source = path; required_features = [] } ≡ b = cc (h) in
        let path_same : path ≡ below folder (path_in nested name) = sym here ∙ ap (λ r. below folder (codes "src/bin/" ++ r)) s.1 in
        subst (IsFoundIn sources folder nested) same (record { letters_are = s.0; file = ap (λ p. is_some (finite.get sources.files p)) (sym path_same) ∙ file; source = path_same; features = refl })

    by : (path : List ℕ) → is_some (finite.get sources.files path) ≡ true → (o : Option (List ℕ)) → inside (bin_folder folder) path ≡ o → found_at path (name_inside nested o) ≡ Some b → IsFoundIn sources folder nested b
    by path file None at h = cc
    by path file (Some rest) at h = named path rest (name_by nested (names_in rest)) file at refl h
