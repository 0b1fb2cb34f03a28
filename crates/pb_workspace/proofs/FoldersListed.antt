-- Which files, and which folders, the listings of a folder have.
use Rattle.std.proofs.Common.{◌≡◌, ◌≢◌, ◌⊎◌, inl, inr, ◌∙◌, ◌++◌, ◌∷◌, ◌==◌, ◌||◌, ◌<◌, [], ℕ, Bool, true, false, cond, length, List, map, Contains, Option, Some, None, is_some, fold, refl, sym, ap, subst, arith}
use Rattle.std.proofs.lemmas.Bool.{false≢true}
use Rattle.std.proofs.lemmas.List.Elements.{Contains-append_left, Contains-append_right, Contains-append_cases}
use Rattle.std.proofs.lemmas.Slice.Eq.{bytes_eq-Decides}
use Rattle.std.specs.FinMap as finite
use Rattle.std.specs.List.{AllByRecursion, list_all, list_any}
use Rattle.std.specs.Option.{option_and_then, option_map}
use Rattle.pb_graph.proofs.Membership.{none, single, head, tail, cases}
use Rattle.pb_place_types.proofs.MapLemmas.{among_keys, get-kept, same_bytes}
use Rattle.pb_place_types.proofs.PathLemmas.{and_left, and_right, parts_joined, parts_some}
use Rattle.pb_place_types.proofs.TakenApart.{found_inside, joins_again, parts_lone}
use Rattle.pb_place_types.proofs.Towards.{begins, plain_parts}
use Rattle.pb_place_types.specs.Paths.{below, inside, is_below, is_name, is_path, is_relative, last_of, parts_of, stem}
use Rattle.pb_place_types.specs.World.{FilesHavePaths, World, first_folder, folder_towards, has_file, is_last, is_same_path, listed, listed_folders, with_new}
use Rattle.pb_workspace.proofs.FoldersPut.{Path}
use Rattle.pb_workspace.proofs.NamesOfPaths.{IsWhole}
use Rattle.pb_workspace.proofs.WholeWorkspace.{map_each, map_only}

-- files

any_there : (q : Path) (xs : List Path) → list_any (is_same_path q) xs ≡ true → Contains xs q
any_there q [] h = cc
any_there q (x ∷ xs) h = by (is_same_path q x) refl h (λ on. any_there q xs on)
  where
    by : (b : Bool) → is_same_path q x ≡ b → b || list_any (is_same_path q) xs ≡ true → (list_any (is_same_path q) xs ≡ true → Contains xs q) → Contains (x ∷ xs) q
    by true at h rest = subst (Contains (x ∷ xs)) ((bytes_eq-Decides x q).0 (same_bytes x q ∙ at)) (head x xs)
    by false at h rest = tail x xs q (rest h)

there_any : (q : Path) (xs : List Path) → Contains xs q → list_any (is_same_path q) xs ≡ true
there_any q [] h = absurd (none q h)
there_any q (x ∷ xs) h = elim (cases x xs q h) [
  | inl here ↦ ap (λ b. b || list_any (is_same_path q) xs) (sym (same_bytes x q) ∙ (bytes_eq-Decides x q).1 here)
  | inr later ↦ or_on (is_same_path q x) _ (there_any q xs later)
]
  where
    or_on : (a b : Bool) → b ≡ true → a || b ≡ true
    or_on true b on = refl
    or_on false b on = on

module _ (sources : World) (folder : Path) where
  listed_any : (q : Path) → list_any (is_same_path q) (listed folder sources) ≡ is_some (cond (is_below folder q) (finite.get sources.files q) None)
  listed_any q = among_keys (finite.retain_keys sources.files (is_below folder)) q ∙ ap is_some (get-kept sources.files (is_below folder) q)

  pub listed_each : (q : Path) → is_below folder q ≡ true → has_file q sources ≡ true → Contains (listed folder sources) q
  listed_each q in_it there = any_there q (listed folder sources) (listed_any q ∙ ap (λ b. is_some (cond b (finite.get sources.files q) None)) in_it ∙ there)

  pub listed_only : (q : Path) → Contains (listed folder sources) q → (is_below folder q ≡ true) × (has_file q sources ≡ true)
  listed_only q is = by (is_below folder q) refl (sym (listed_any q) ∙ there_any q (listed folder sources) is)
    where
      by : (b : Bool) → is_below folder q ≡ b → is_some (cond b (finite.get sources.files q) None) ≡ true → (is_below folder q ≡ true) × (has_file q sources ≡ true)
      by true at h = (at, h)
      by false at h = absurd (false≢true h)

-- folders, each once in a row

ends_in : (first : Path) (paths : List Path) → Contains (first ∷ paths) (last_of first paths)
ends_in first [] = head first []
ends_in first (next ∷ paths) = tail first (next ∷ paths) (last_of next paths) (ends_in next paths)

last_there : (x : Path) (folders : List Path) → is_last x folders ≡ true → Contains folders x
last_there x [] is = absurd (false≢true is)
last_there x (first ∷ paths) is = subst (Contains (first ∷ paths)) (sym ((bytes_eq-Decides x (last_of first paths)).0 is)) (ends_in first paths)

old_there : (folders : List Path) (o : Option Path) (x : Path) → Contains folders x → Contains (with_new folders o) x
old_there folders None x there = there
old_there folders (Some y) x there = by (is_last y folders)
  where
    by : (b : Bool) → Contains (cond b folders (folders ++ y ∷ [])) x
    by true = there
    by false = Contains-append_left folders (y ∷ []) x there

new_there : (folders : List Path) (x : Path) → Contains (with_new folders (Some x)) x
new_there folders x = by (is_last x folders) refl
  where
    by : (b : Bool) → is_last x folders ≡ b → Contains (cond b folders (folders ++ x ∷ [])) x
    by true at = last_there x folders at
    by false at = Contains-append_right folders (x ∷ []) x (head x [])

new_only : (folders : List Path) (o : Option Path) (x : Path) → Contains (with_new folders o) x → Contains folders x ⊎ (o ≡ Some x)
new_only folders None x there = inl there
new_only folders (Some y) x there = by (is_last y folders) there
  where
    by : (b : Bool) → Contains (cond b folders (folders ++ y ∷ [])) x → Contains folders x ⊎ (Some y ≡ Some x)
    by true h = inl h
    by false h = elim (Contains-append_cases folders (y ∷ []) x h) [ inl old ↦ inl old | inr new ↦ inr (ap (λ z. Some z) (single y x new)) ]

folded_old : (os : List (Option Path)) (made : List Path) (x : Path) → Contains made x → Contains (fold with_new made os) x
folded_old [] made x there = there
folded_old (o ∷ os) made x there = folded_old os (with_new made o) x (old_there made o x there)

folded_each : (os : List (Option Path)) (made : List Path) (x : Path) → Contains os (Some x) → Contains (fold with_new made os) x
folded_each [] made x is = absurd (none (Some x) is)
folded_each (o ∷ os) made x is = elim (cases o os (Some x) is) [
  | inl here ↦ folded_old os (with_new made o) x (subst (λ p. Contains (with_new made p) x) (sym here) (new_there made x))
  | inr later ↦ folded_each os (with_new made o) x later
]

folded_only : (os : List (Option Path)) (made : List Path) (x : Path) → Contains (fold with_new made os) x → Contains made x ⊎ Contains os (Some x)
folded_only [] made x is = inl is
folded_only (o ∷ os) made x is = elim (folded_only os (with_new made o) x is) [
  | inl now ↦ elim (new_only made o x now) [ inl old ↦ inl old | inr new ↦ inr (subst (Contains (o ∷ os)) new (head o os)) ]
  | inr later ↦ inr (tail o os (Some x) later)
]

-- the folder through which a path leads

first_of_more : (name : List ℕ) (parts : List (List ℕ)) → 0 < length parts → first_folder (name ∷ parts) ≡ Some name
first_of_more name [] some = absurd (omega arith)
first_of_more name (next ∷ parts) some = refl

longer : (name rest : List ℕ) → name ++ 47 ∷ rest ≢ []
longer [] rest same = cc
longer (b ∷ name) rest same = cc

pub leads_through : (folder name rest : List ℕ) → IsWhole name → folder_towards folder (below folder (name ++ 47 ∷ rest)) ≡ Some (below folder name)
leads_through folder name rest whole =
    ap (option_and_then (λ r. option_map (below folder) (first_folder (parts_of r)))) (found_inside folder (name ++ 47 ∷ rest) (longer name rest))
    ∙ ap (λ parts. option_map (below folder) (first_folder parts)) (parts_joined name rest ∙ ap (λ ps. ps ++ parts_of rest) (parts_lone name whole))
    ∙ ap (option_map (below folder)) (first_of_more name (parts_of rest) (parts_some rest))

all_right : (xs ys : List (List ℕ)) → list_all is_name (xs ++ ys) ≡ true → list_all is_name ys ≡ true
all_right [] ys all = all
all_right (x ∷ xs) ys all = all_right xs ys (and_right _ _ all)

-- what follows a stem in a path is a relative path
after_stem : (s : List ℕ) (c : ℕ) (rest : List ℕ) → is_path (s ++ 47 ∷ c ∷ rest) ≡ true → is_relative (c ∷ rest) ≡ true
after_stem [] c rest is = is
after_stem (b ∷ []) c rest is = all_right ([] ∷ []) (parts_of (c ∷ rest)) (and_right _ _ is)
after_stem (b ∷ d ∷ s) c rest is = all_right (parts_of (d ∷ s)) (parts_of (c ∷ rest)) (ap (list_all is_name) (sym (parts_joined (d ∷ s) (c ∷ rest))) ∙ and_right _ _ is)

-- a name through which a path of the sources leads
pub record Through (sources : World) (folder found : Path) : Type 0 where
  pub name : List ℕ
  pub named : is_name name ≡ true
  pub whole : IsWhole name
  pub is : below folder name ≡ found

module _ (sources : World) (paths : FilesHavePaths sources) (folder found : Path) where
  pub file_path : (q : Path) (o : Option (List ℕ)) → finite.get sources.files q ≡ o → is_some o ≡ true → is_path q ≡ true
  file_path q None at some = absurd (false≢true some)
  file_path q (Some bytes) at some = paths q bytes at

  through_parts : (rest : List ℕ) → is_relative rest ≡ true → (o : Option (List ℕ)) → first_folder (parts_of rest) ≡ o → option_map (below folder) o ≡ Some found → Through sources folder found
  through_parts rest relative None at is = cc
  through_parts rest relative (Some name) at is =
      let (names, are) = begins (parts_of rest) name (sym at) in
      record {
        name = name;
        named = first_named name names (ap (list_all is_name) are ∙ relative);
        whole = (subst (AllByRecursion (λ p. list_any (λ b. b == 47) p ≡ false)) (sym are) (plain_parts rest)).0;
        is = cc;
      }
    where
      first_named : (name : List ℕ) (names : List (List ℕ)) → list_all is_name (name ∷ names) ≡ true → is_name name ≡ true
      first_named name names all = and_left _ _ all

  through_rest : (q : Path) → is_path q ≡ true → (o : Option (List ℕ)) → inside folder q ≡ o → option_and_then (λ r. option_map (below folder) (first_folder (parts_of r))) o ≡ Some found → Through sources folder found
  through_rest q path None at is = cc
  through_rest q path (Some []) at is = cc
  through_rest q path (Some (c ∷ rest)) at is =
      through_parts (c ∷ rest) (after_stem (stem folder) c rest (ap is_path (joins_again folder q (c ∷ rest) at) ∙ path)) (first_folder (parts_of (c ∷ rest))) refl is

  -- the folders directly in a folder that are listed
  pub folders_only : Contains (listed_folders folder sources) found → Through sources folder found
  folders_only there = elim (folded_only (map (folder_towards folder) (listed folder sources)) [] found there) [
    | inl nothing ↦ absurd (none found nothing)
    | inr leads ↦
        let (q, among, is) = map_only (folder_towards folder) (listed folder sources) (Some found) leads in
        let (at, file) = listed_only sources folder q among in
        through_rest q (file_path q (finite.get sources.files q) refl file) (inside folder q) refl is
  ]

pub folders_each : (sources : World) (folder name rest : List ℕ) → IsWhole name → is_below folder (below folder (name ++ 47 ∷ rest)) ≡ true → has_file (below folder (name ++ 47 ∷ rest)) sources ≡ true
    → Contains (listed_folders folder sources) (below folder name)
folders_each sources folder name rest whole in_it file =
    folded_each (map (folder_towards folder) (listed folder sources)) [] (below folder name)
    (subst (Contains (map (folder_towards folder) (listed folder sources))) (leads_through folder name rest whole)
    (map_each (folder_towards folder) (listed folder sources) (below folder (name ++ 47 ∷ rest)) (listed_each sources folder (below folder (name ++ 47 ∷ rest)) in_it file)))
