-- The folder through which a path leads, and the last of some paths.
use Rattle.std.proofs.Common.{◌≡◌, ◌∙◌, ◌==◌, ◌||◌, ◌&&◌, ◌-◌, ◌<◌, ◌≤◌, ℕ, suc, Bool, true, false, cond, List, [], ◌∷◌, length, map, Option, Some, None, refl, sym, ap, subst, arith}
use Rattle.std.specs.List.{list_all, list_any, onto_first, slice_get, slice_index_or, AllByRecursion}
use Rattle.std.specs.Option.{option_map, option_and_then}
use Rattle.std.specs.Str.{bytes_eq}
use Rattle.pb_place_types.specs.Paths.{below, inside, is_name, is_relative, last_of, parts_of}
use Rattle.pb_place_types.specs.World.{first_folder, folder_towards, is_last}
use Rattle.pb_place_types.proofs.PathLemmas.{and_left}
use Rattle.pb_place_types.proofs.TakenApart.{parts_lone}

-- no part has a slash
onto_plain : (x : ℕ) (parts : List (List ℕ)) → x == 47 ≡ false → AllByRecursion (λ p. list_any (λ b. b == 47) p ≡ false) parts → AllByRecursion (λ p. list_any (λ b. b == 47) p ≡ false) (onto_first x parts)
onto_plain x [] other all = (ap (λ b. b || false) other, tt)
onto_plain x (part ∷ parts) other all = (ap (λ b. b || list_any (λ b. b == 47) part) other ∙ all.0, all.1)

split_plain : (b : Bool) (x : ℕ) (parts : List (List ℕ)) → x == 47 ≡ b → AllByRecursion (λ p. list_any (λ b. b == 47) p ≡ false) parts → AllByRecursion (λ p. list_any (λ b. b == 47) p ≡ false) (cond b ([] ∷ parts) (onto_first x parts))
split_plain true x parts is all = (refl, all)
split_plain false x parts is all = onto_plain x parts is all

pub plain_parts : (text : List ℕ) → AllByRecursion (λ p. list_any (λ b. b == 47) p ≡ false) (parts_of text)
plain_parts [] = (refl, tt)
plain_parts (x ∷ text) = split_plain (x == 47) x (parts_of text) refl (plain_parts text)

-- so the first of the parts of a relative path is a relative path itself
first_relative : (part : List ℕ) (parts : List (List ℕ)) → list_any (λ b. b == 47) part ≡ false → list_all is_name (part ∷ parts) ≡ true → is_relative part ≡ true
first_relative part parts plain all = ap (list_all is_name) (parts_lone part plain) ∙ ap (λ b. b && true) (and_left _ _ all)

pub name_is_relative : (text name : List ℕ) (names : List (List ℕ)) → is_relative text ≡ true → name ∷ names ≡ parts_of text → is_relative name ≡ true
name_is_relative text name names relative are =
    first_relative name names (subst (AllByRecursion (λ p. list_any (λ b. b == 47) p ≡ false)) (sym are) (plain_parts text)).0 (ap (list_all is_name) are ∙ relative)

-- what was found
pub towards_none : (folder path : List ℕ) → None ≡ inside folder path → None ≡ folder_towards folder path
towards_none folder path none = ap (option_and_then (λ rest. option_map (below folder) (first_folder (parts_of rest)))) none

pub towards_found : (folder path rest : List ℕ) (parts : List (List ℕ)) (found : Option (List ℕ)) → Some rest ≡ inside folder path → parts ≡ parts_of rest → found ≡ option_map (below folder) (first_folder parts) → found ≡ folder_towards folder path
towards_found folder path rest parts found some are is =
    is ∙ ap (λ ps. option_map (below folder) (first_folder ps)) are ∙ ap (option_and_then (λ rest. option_map (below folder) (first_folder (parts_of rest)))) some

-- the last
get_last : (first : List ℕ) (texts : List (List ℕ)) (text : List ℕ) → Some text ≡ slice_get (first ∷ texts) (length texts) → text ≡ last_of first texts
get_last first [] text is = cc
get_last first (next ∷ texts) text is = get_last next texts text is

pub last_found : (path text : List ℕ) (texts : List (List ℕ)) → Some text ≡ slice_get texts (length texts - 1) → bytes_eq path text ≡ is_last path texts
last_found path text [] is = cc
last_found path text (first ∷ texts) is = let one : suc (length texts) - 1 ≡ length texts = omega arith in ap (bytes_eq path) (get_last first texts text (is ∙ ap (slice_get (first ∷ texts)) one))

none_there : (first : List ℕ) (texts : List (List ℕ)) → None ≡ slice_get (first ∷ texts) (length texts) → ⊥
none_there first [] is = cc
none_there first (next ∷ texts) is = none_there next texts is

pub none_last : (path : List ℕ) (texts : List (List ℕ)) → None ≡ slice_get texts (length texts - 1) → false ≡ is_last path texts
none_last path [] is = refl
none_last path (first ∷ texts) is = let one : suc (length texts) - 1 ≡ length texts = omega arith in absurd (none_there first texts (is ∙ ap (slice_get (first ∷ texts)) one))

pub first_of_two : {A : Type 0} (f : A → List ℕ) (xs : List A) (d : A) → 2 ≤ length xs → Some (f (slice_index_or xs 0 d)) ≡ first_folder (map f xs)
first_of_two f [] d two = absurd (omega arith)
first_of_two f (x ∷ []) d two = absurd (omega arith)
first_of_two f (x ∷ y ∷ xs) d two = refl

pub none_of_one : {A : Type 0} (f : A → List ℕ) (xs : List A) → length xs < 2 → None ≡ first_folder (map f xs)
none_of_one f [] one = refl
none_of_one f (x ∷ []) one = refl
none_of_one f (x ∷ y ∷ xs) one = absurd (omega arith)

-- the parts that have a first folder begin with it
pub begins : (parts : List (List ℕ)) (name : List ℕ) → Some name ≡ first_folder parts → (names : List (List ℕ)) × (name ∷ names ≡ parts)
begins [] name is = cc
begins (part ∷ []) name is = cc
begins (part ∷ next ∷ parts) name is = let same : name ≡ part = cc in (next ∷ parts, ap (λ n. n ∷ next ∷ parts) same)
