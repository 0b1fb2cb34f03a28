-- Paths taken apart and joined again.
use Rattle.std.proofs.Common.{◌≡◌, ◌≢◌, ◌==◌, ◌&&◌, ◌||◌, ◌∙◌, ◌+◌, ◌-◌, ◌<◌, ◌≤◌, ℕ, zero, suc, Bool, true, false, cond, List, [], ◌∷◌, ◌++◌, codes, length, take, drop, get_or, Option, Some, None, MatchOption, refl, sym, ap, subst, arith, inl, inr, append_assoc, length-append, take-append-drop, lit<, Bor}
use Rattle.std.proofs.lemmas.Bool.{cases_Bool, false≢true}
use Rattle.std.proofs.lemmas.List.{append-nil}
use Rattle.std.proofs.Math.Seq.{take-append_seam}
use Rattle.std.proofs.lemmas.Str.Pattern.{NoCharPasses-char, drop_at_char}
use Rattle.std.specs.List.{list_any, list_all, onto_first, AllByRecursion}
use Rattle.std.specs.Option.{option_copied}
use Rattle.std.specs.Str.Pattern.{RFindsChar, SplitsAroundMatch}
use Rattle.std.specs.Str.{bytes_eq, IsUtf8}
use Rattle.std.proofs.lemmas.Str.{lead_after_ascii}
use Rattle.std.proofs.lemmas.Slice.Eq.{bytes_eq-Decides}
use Rattle.pb_place_types.specs.Paths.{stem, below, is_name, is_relative, is_path, parts_of, names_of, slashed, path_of, folder_of, leads_below, is_below, inside, last_of, last_part}
use Rattle.pb_place_types.specs.Private.{after_slash}
use Rattle.pb_place_types.specs.Within.{JoinsAgain, FoundInside, InsideIsRelative, EndsWithLastPart, LastPartIsName, LiesInFolder}
use Rattle.pb_place_types.proofs.PathLemmas.{IsPlain, and_left, and_right, parts_joined, parts_plain, parts_some, path_clean, walk_names, slashed_parts}
use Rattle.pb_place_types.proofs.Within.{leads_rest, leads_to, leads_longer, one_byte}

-- what follows a stem and a slash
drop_after : (s rest : List ℕ) (n : ℕ) → n ≡ length s + 1 → drop n (s ++ 47 ∷ rest) ≡ rest
drop_after s rest zero is = absurd (omega arith)
drop_after [] rest (suc n) is = let none : n ≡ 0 = omega arith in ap (λ k. drop k rest) none
drop_after (a ∷ s) rest (suc n) is = drop_after s rest n (omega arith)

pub drop_stem : (s path rest : List ℕ) → path ≡ s ++ 47 ∷ rest → drop (length s + 1) path ≡ rest
drop_stem s path rest is = ap (drop (length s + 1)) is ∙ drop_after s rest (length s + 1) refl

all_right : (xs ys : List (List ℕ)) → list_all is_name (xs ++ ys) ≡ true → list_all is_name ys ≡ true
all_right [] ys all = all
all_right (x ∷ xs) ys all = all_right xs ys (and_right _ _ all)

-- at the place after the stem stands a slash
leads_slash : (s path : List ℕ) → leads_below s path ≡ true → get_or path (length s) 0 ≡ 47
unfolding leads_below
leads_slash [] [] h = absurd (false≢true h)
leads_slash [] (b ∷ []) h = absurd (false≢true h)
leads_slash [] (b ∷ c ∷ rest) h = one_byte b 47 h
leads_slash (a ∷ s) [] h = absurd (false≢true h)
leads_slash (a ∷ s) (b ∷ path) h = leads_slash s path (and_right _ _ h)

-- so the text may be cut after it
pub cut_after : (s path : List ℕ) → IsUtf8 path → leads_below s path ≡ true
    → (length s + 1 ≤ length path) × (length s + 1 < length path → 128 ≤ get_or path (length s + 1) 0 → 192 ≤ get_or path (length s + 1) 0)
cut_after s path text h =
    let long : length s + 1 < length path = leads_longer s path h in
    let slash : get_or path (length s) 0 ≡ 47 = leads_slash s path h in
    (omega arith, lead_after_ascii path (length s) text (omega arith))

-- what stands after a folder in a path is relative
relative_deep : (folder path rest : List ℕ) → is_path folder ≡ true → is_path path ≡ true → bytes_eq folder (codes "/") ≡ false → path ≡ folder ++ 47 ∷ rest → is_relative rest ≡ true
relative_deep [] path rest folder_is path_is deep is = absurd (false≢true folder_is)
relative_deep (b ∷ []) path rest folder_is path_is deep is = absurd (false≢true (sym deep ∙ (bytes_eq-Decides (b ∷ []) (codes "/")).1 (ap (λ n. n ∷ []) (one_byte b 47 folder_is))))
relative_deep (b ∷ c ∷ folder) path rest folder_is path_is deep is =
    let whole : is_path (b ∷ c ∷ (folder ++ 47 ∷ rest)) ≡ true = ap is_path (sym is) ∙ path_is in
    all_right (parts_of (c ∷ folder)) (parts_of rest) (ap (list_all is_name) (sym (parts_joined (c ∷ folder) rest)) ∙ and_right _ _ whole)

relative_rest : (folder path rest : List ℕ) (c : ℕ) → is_path folder ≡ true → is_path path ≡ true → path ≡ stem folder ++ 47 ∷ c ∷ rest → is_relative (c ∷ rest) ≡ true
relative_rest folder path rest c folder_is path_is is = elim (cases_Bool (bytes_eq folder (codes "/"))) [
  | inl root ↦
      let top : path ≡ 47 ∷ c ∷ rest = is ∙ ap (λ b. cond b [] folder ++ 47 ∷ c ∷ rest) root in
      ap is_path (sym top) ∙ path_is
  | inr deep ↦ relative_deep folder path (c ∷ rest) folder_is path_is deep (is ∙ ap (λ b. cond b [] folder ++ 47 ∷ c ∷ rest) deep)
]

pub rest_is_relative : (folder path rest : List ℕ) → is_path folder ≡ true → is_path path ≡ true → is_below folder path ≡ true → rest ≡ drop (length (stem folder) + 1) path → is_relative rest ≡ true
unfolding is_below
rest_is_relative folder path rest folder_is path_is at is =
    let (c, more, whole) = leads_rest (stem folder) path at in
    ap is_relative (is ∙ drop_stem (stem folder) path (c ∷ more) whole) ∙ relative_rest folder path more c folder_is path_is whole

pub inside_found : (folder path rest : List ℕ) → is_below folder path ≡ true → rest ≡ drop (length (stem folder) + 1) path → Some rest ≡ inside folder path
inside_found folder path rest at is = ap (λ r. Some r) is ∙ sym (ap (λ b. cond b (Some (drop (length (stem folder) + 1) path)) None) at)

pub inside_none : (folder path : List ℕ) → is_below folder path ≡ false → None ≡ inside folder path
inside_none folder path at = sym (ap (λ b. cond b (Some (drop (length (stem folder) + 1) path)) None) at)

pub ruleset inside_laws = (rest_is_relative, inside_found, inside_none)

-- what is found inside
record Found (folder path rest : List ℕ) : Type 0 where
  at : is_below folder path ≡ true
  is : rest ≡ drop (length (stem folder) + 1) path

found : (folder path rest : List ℕ) → inside folder path ≡ Some rest → Found folder path rest
found folder path rest some = elim (cases_Bool (is_below folder path)) [
  | inl at ↦
      let same : Some rest ≡ Some (drop (length (stem folder) + 1) path) = sym some ∙ sym (inside_found folder path _ at refl) in
      record { at = at; is = cc }
  | inr out ↦ let none : None ≡ Some rest = inside_none folder path out ∙ some in cc
]

pub joins_again : JoinsAgain
unfolding is_below
joins_again folder path rest some =
    let f = found folder path rest some in
    let (c, more, whole) = leads_rest (stem folder) path f.at in
    ap (below folder) (f.is ∙ drop_stem (stem folder) path (c ∷ more) whole) ∙ sym whole

pub found_inside : FoundInside
unfolding is_below
found_inside folder [] some = absurd (some refl)
found_inside folder (c ∷ rest) some = sym (inside_found folder (below folder (c ∷ rest)) (c ∷ rest) (leads_to (stem folder) rest c) (sym (drop_stem (stem folder) (below folder (c ∷ rest)) (c ∷ rest) refl)))

pub inside_is_relative : InsideIsRelative
inside_is_relative folder path rest folder_is path_is some = let f = found folder path rest some in rest_is_relative folder path rest folder_is path_is f.at f.is

-- no byte is this one
abbrev Lacks : ℕ → List ℕ → Type 0
Lacks c text = (i : ℕ) → i < length text → get_or text i 0 ≢ c

-- parts that are all names, and one that is none
pub names_end : (text : List ℕ) (parts : List (List ℕ)) → parts ≡ parts_of text → list_all is_name parts ≡ true → true ≡ is_relative text
names_end text parts are all = sym (ap (list_all is_name) (sym are) ∙ all)

none_at : (parts : List (List ℕ)) (i : ℕ) (part : List ℕ) → i < length parts → part ≡ get_or parts i part → is_name part ≡ false → list_all is_name parts ≡ false
none_at [] i part within is named = absurd (omega arith)
none_at (first ∷ parts) zero part within is named = ap (λ p. is_name p && list_all is_name parts) (sym is) ∙ ap (λ b. b && list_all is_name parts) named
none_at (first ∷ parts) (suc i) part within is named = neither (is_name first) (list_all is_name parts) (none_at parts i part (omega arith) is named)
  where
    neither : (a b : Bool) → b ≡ false → a && b ≡ false
    neither true b h = h
    neither false b h = refl

pub name_fails : (text : List ℕ) (i : ℕ) (part : List ℕ) → i < length (parts_of text) → part ≡ get_or (parts_of text) i part → is_name part ≡ false → false ≡ is_relative text
name_fails text i part within is named = sym (none_at (parts_of text) i part within is named)

-- a text without a slash is its only part
pub parts_lone : (name : List ℕ) → list_any (λ b. b == 47) name ≡ false → parts_of name ≡ name ∷ []
parts_lone [] plain = refl
parts_lone (x ∷ name) plain = ap (λ b. cond b ([] ∷ parts_of name) (onto_first x (parts_of name))) (or_left _ _ plain) ∙ ap (onto_first x) (parts_lone name (or_right _ _ plain))
  where
    or_left : (a b : Bool) → a || b ≡ false → a ≡ false
    or_left true b h = h
    or_left false b h = refl

    or_right : (a b : Bool) → a || b ≡ false → b ≡ false
    or_right true b h = absurd (false≢true (sym h))
    or_right false b h = h

last_append : (first last : List ℕ) (texts : List (List ℕ)) → last_of first (texts ++ last ∷ []) ≡ last
last_append first last [] = refl
last_append first last (text ∷ texts) = last_append text last texts

lacks_any : (text : List ℕ) → Lacks 47 text → list_any (λ b. b == 47) text ≡ false
lacks_any [] lacks = refl
lacks_any (x ∷ text) lacks = elim (cases_Bool (x == 47)) [
  | inl slash ↦ absurd (lacks 0 (omega arith) (one_byte x 47 slash))
  | inr other ↦ ap (λ b. b || list_any (λ b. b == 47) text) other ∙ lacks_any text (λ i within at. lacks (suc i) (omega arith) at)
]

last_after : (text front last : List ℕ) → text ≡ front ++ 47 ∷ last → list_any (λ b. b == 47) last ≡ false → last_part text ≡ last
last_after text front last is plain = ap last_part is ∙ ap (last_of []) (parts_joined front last ∙ ap (λ ps. parts_of front ++ ps) (parts_lone last plain)) ∙ last_append [] last (parts_of front)

-- the clause of a split at the last slash
pub last_part-splits : (text : List ℕ) (r : Option (Bor (List ℕ) × Bor (List ℕ))) → MatchOption r (RFindsChar 47 text None) (λ x. SplitsAroundMatch (RFindsChar 47) text x.0.now x.1.now)
    → MatchOption r (last_part text ≡ text) (λ x. last_part text ≡ x.1.now)
last_part-splits text None lacks = ap (last_of []) (parts_lone text (lacks_any text (λ i within. NoCharPasses-char 47 text i lacks (lit< tt) within)))
last_part-splits text (Some x) splits =
    let i = splits.0 in
    let j = splits.1 in
    let finds : RFindsChar 47 text (Some (i, j)) = splits.2 in
    let whole : text ≡ take i text ++ 47 ∷ drop j text = sym (take-append-drop i text) ∙ ap (λ rest. take i text ++ rest) (drop_at_char 47 text i j finds.1 (lit< tt)) in
    last_after text (take i text) (drop j text) whole (lacks_any (drop j text) (λ k within. NoCharPasses-char 47 (drop j text) k finds.0 (lit< tt) within)) ∙ sym splits.4

-- the clause of a slash taken off the front
pub after_slash-strips : (text : List ℕ) (r : Option (Bor (List ℕ))) → MatchOption r ((rest : List ℕ) → text ≢ 47 ∷ rest) (λ x. text ≡ 47 ∷ x.now) → option_copied r ≡ after_slash text
after_slash-strips text (Some x) is = sym (ap after_slash is)
after_slash-strips [] None lacks = refl
after_slash-strips (b ∷ text) None lacks = elim (cases_Bool (b == 47)) [
  | inl slash ↦ absurd (lacks text (ap (λ n. n ∷ text) (one_byte b 47 slash)))
  | inr other ↦ sym (ap (λ t. cond t (Some text) None) other)
]

-- a path is a slash, and then nothing or a relative path
path_cut : (text rest : List ℕ) → text ≡ 47 ∷ rest → is_path text ≡ bytes_eq rest [] || is_relative rest
path_cut text [] is = ap is_path is
path_cut text (c ∷ rest) is = ap is_path is

pub path_some : (text rest : List ℕ) → Some rest ≡ after_slash text → is_path text ≡ bytes_eq rest [] || is_relative rest
path_some [] rest is = cc
path_some (b ∷ text) rest is = elim (cases_Bool (b == 47)) [
  | inl slash ↦
      let same : Some rest ≡ Some text = is ∙ ap (λ t. cond t (Some text) None) slash in
      let one : rest ≡ text = cc in
      path_cut (b ∷ text) rest (ap (λ n. n ∷ text) (one_byte b 47 slash) ∙ ap (λ t. 47 ∷ t) (sym one))
  | inr other ↦ let none : Some rest ≡ None = is ∙ ap (λ t. cond t (Some text) None) other in cc
]

pub path_none : (text : List ℕ) → None ≡ after_slash text → is_path text ≡ false
path_none [] is = refl
path_none (b ∷ []) is = elim (cases_Bool (b == 47)) [
  | inl slash ↦ let none : None ≡ Some [] = is ∙ ap (λ t. cond t (Some []) None) slash in cc
  | inr other ↦ other
]
path_none (b ∷ c ∷ text) is = elim (cases_Bool (b == 47)) [
  | inl slash ↦ let none : None ≡ Some (c ∷ text) = is ∙ ap (λ t. cond t (Some (c ∷ text)) None) slash in cc
  | inr other ↦ ap (λ t. t && is_relative (c ∷ text)) other
]

pub ruleset cut_laws = (path_some, path_none)

-- names and their last
record Ending (names : List (List ℕ)) : Type 0 where
  before : List (List ℕ)
  last : List ℕ
  is : names ≡ before ++ last ∷ []

ending : (names : List (List ℕ)) → 0 < length names → Ending names
ending [] some = absurd (omega arith)
ending (name ∷ []) some = record { before = []; last = name; is = refl }
ending (name ∷ next ∷ names) some =
    let rest = ending (next ∷ names) (omega arith) in
    record { before = name ∷ rest.before; last = rest.last; is = ap (λ ns. name ∷ ns) rest.is }

slashed_last : (names : List (List ℕ)) (last : List ℕ) → slashed (names ++ last ∷ []) ≡ slashed names ++ 47 ∷ last
slashed_last [] last = ap (λ t. 47 ∷ t) (append-nil last)
slashed_last (name ∷ names) last = ap (λ t. 47 ∷ name ++ t) (slashed_last names last) ∙ ap (λ t. 47 ∷ t) (sym (append_assoc name (slashed names) (47 ∷ last)))

all_left : (xs ys : List (List ℕ)) → list_all is_name (xs ++ ys) ≡ true → list_all is_name xs ≡ true
all_left [] ys all = refl
all_left (x ∷ xs) ys all = ap (λ b. b && list_all is_name xs) (and_left _ _ all) ∙ all_left xs ys (and_right _ _ all)

-- the stem of a folder of names
stem_of_names : (names : List (List ℕ)) → list_all is_name names ≡ true → stem (path_of names) ≡ slashed names
stem_of_names [] all = refl
stem_of_names ([] ∷ names) all = absurd (false≢true all)
stem_of_names ((c ∷ name) ∷ names) all = refl

take_before : (before : List (List ℕ)) (last : List ℕ) → take (length (before ++ last ∷ []) - 1) (before ++ last ∷ []) ≡ before
take_before before last =
    let long : length (before ++ last ∷ []) ≡ length before + 1 = length-append before (last ∷ []) in
    let shorter : length (before ++ last ∷ []) - 1 ≡ length before = omega (arith, long) in
    ap (λ n. take n (before ++ last ∷ [])) shorter ∙ take-append_seam before (last ∷ [])

-- a path by its folder and its last part
record Parted (path : List ℕ) : Type 0 where
  names : List (List ℕ)
  last : List ℕ
  is : path ≡ slashed names ++ 47 ∷ last
  folder : stem (folder_of path) ≡ slashed names
  ends : last_part path ≡ last
  named : is_name last ≡ true

parted : (c : ℕ) (rest : List ℕ) → is_relative (c ∷ rest) ≡ true → Parted (47 ∷ c ∷ rest)
parted c rest named =
    let parts = parts_of (c ∷ rest) in
    let e = ending parts (parts_some (c ∷ rest)) in
    let whole : list_all is_name (e.before ++ e.last ∷ []) ≡ true = ap (list_all is_name) (sym e.is) ∙ named in
    let names : names_of (47 ∷ c ∷ rest) ≡ e.before ++ e.last ∷ [] = walk_names [] parts named ∙ e.is in
    record {
      names = e.before;
      last = e.last;
      is = sym (slashed_parts (c ∷ rest)) ∙ ap slashed e.is ∙ slashed_last e.before e.last;
      folder =
          ap (λ ns. stem (path_of (take (length ns - 1) ns))) names ∙ ap (λ ns. stem (path_of ns)) (take_before e.before e.last) ∙ stem_of_names e.before (all_left e.before (e.last ∷ []) whole);
      ends = ap (last_of []) e.is ∙ last_append [] e.last e.before;
      named = and_left _ _ (all_right e.before (e.last ∷ []) whole);
    }

parted_path : (path : List ℕ) → is_path path ≡ true → path ≢ codes "/" → Parted path
parted_path [] is deep = absurd (false≢true is)
parted_path (b ∷ []) is deep = absurd (deep (ap (λ n. n ∷ []) (one_byte b 47 is)))
parted_path (b ∷ c ∷ rest) is deep = subst (λ n. Parted (n ∷ c ∷ rest)) (sym (one_byte b 47 (and_left _ _ is))) (parted c rest (and_right _ _ is))

pub ends_with_last_part : EndsWithLastPart
ends_with_last_part path is deep =
    let p = parted_path path is deep in
    ap (λ s. s ++ 47 ∷ last_part path) p.folder ∙ ap (λ l. slashed p.names ++ 47 ∷ l) p.ends ∙ sym p.is

last_plain : (names : List (List ℕ)) (text : List ℕ) → IsPlain text → AllByRecursion IsPlain names → IsPlain (last_of text names)
last_plain [] text plain all = plain
last_plain (name ∷ names) text plain all = last_plain names name all.0 all.1

pub last_part_is_name : LastPartIsName
last_part_is_name path is deep =
    let p = parted_path path is deep in
    let plain : IsPlain (last_part path) = last_plain (parts_of path) [] (record { whole = refl; clean = refl }) (parts_plain path (path_clean path is)) in
    (ap is_name p.ends ∙ p.named, plain.whole)

some_name : (folder name path : List ℕ) → is_name name ≡ true → below folder name ≡ path → is_below folder path ≡ true
unfolding is_below
some_name folder [] path named is = absurd (false≢true named)
some_name folder (c ∷ rest) path named is = subst (λ p. leads_below (stem folder) p ≡ true) is (leads_to (stem folder) rest c)

pub lies_in_folder : LiesInFolder
lies_in_folder path is deep = some_name (folder_of path) (last_part path) path (last_part_is_name path is deep).0 (ends_with_last_part path is deep)
