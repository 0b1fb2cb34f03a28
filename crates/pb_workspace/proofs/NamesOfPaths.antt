-- The names of a path, and the parts of a text, are names.
use Rattle.std.proofs.Common.{◌≡◌, ◌∙◌, ◌∷◌, ◌&&◌, ◌||◌, ◌==◌, ◌<◌, [], ℕ, zero, suc, Bool, true, false, not, cond, length, List, get_or, map, refl, sym, ap, subst, arith}
use Rattle.std.proofs.lemmas.Bool.Decides.{Decides-eqb, nat_tests}
use Rattle.std.specs.List.{AllByRecursion, filter, list_all, list_any}
use Rattle.pb_place_types.proofs.PathLemmas.{IsPlain, and_left, and_right, parts_plain, parts_some, path_clean, slashed_parts}
use Rattle.pb_place_types.proofs.TakenApart.{parts_lone}
use Rattle.pb_place_types.specs.Paths.{has_byte_0, is_name, is_path, is_relative, leads_up, parts_of, path_of, slashed, stays}
use Rattle.pb_manifest_types.specs.Letters.{has_zero}
use Rattle.pb_workspace_package.specs.Between.{names_in, is_word}

abbrev pub IsWhole : List ℕ → Type 0
IsWhole name = list_any (λ b. b == 47) name ≡ false

-- names of files and folders, without a slash
pub record AreNames (names : List (List ℕ)) : Type 0 where
  pub named : list_all is_name names ≡ true
  pub whole : AllByRecursion IsWhole names

no_zero : (n : ℕ) → (suc n == 0) ≡ false
no_zero n = grind (arith, nat_tests)

filled : (name : List ℕ) → is_name name ≡ true → is_word name ≡ true
filled [] is = absurd (cc)
filled (b ∷ name) is = ap not (no_zero (length name))

pub all_words : (names : List (List ℕ)) → list_all is_name names ≡ true → filter is_word names ≡ names
all_words [] all = refl
all_words (name ∷ names) all = ap (λ b. cond b (name ∷ filter is_word names) (filter is_word names)) (filled name (and_left _ _ all)) ∙ ap (λ rest. name ∷ rest) (all_words names (and_right _ _ all))

all_whole : (parts : List (List ℕ)) → AllByRecursion IsPlain parts → AllByRecursion IsWhole parts
all_whole [] all = tt
all_whole (part ∷ parts) all = (all.0.whole, all_whole parts all.1)

some_path : (parts : List (List ℕ)) → 0 < length parts → path_of parts ≡ slashed parts
some_path [] some = absurd (omega arith)
some_path (part ∷ parts) some = refl

or_right : (a b : Bool) → a || b ≡ false → b ≡ false
or_right true b h = absurd (cc)
or_right false b h = h

-- a path is told by its names
pub path_named : (path : List ℕ) → is_path path ≡ true → (path ≡ path_of (names_in path)) × AreNames (names_in path)
path_named [] is = absurd (cc)
path_named (b ∷ []) is = subst (λ n. (n ∷ [] ≡ path_of (names_in (n ∷ []))) × AreNames (names_in (n ∷ []))) (sym ((Decides-eqb b 47).0 is)) (refl, record { named = refl; whole = tt })
path_named (b ∷ c ∷ rest) is =
    subst (λ n. (n ∷ c ∷ rest ≡ path_of (names_in (n ∷ c ∷ rest))) × AreNames (names_in (n ∷ c ∷ rest))) (sym ((Decides-eqb b 47).0 (and_left _ _ is))) (by (and_right _ _ is) (path_clean (b ∷ c ∷ rest) is))
  where
    by : list_all is_name (parts_of (c ∷ rest)) ≡ true → has_byte_0 (b ∷ c ∷ rest) ≡ false → (47 ∷ c ∷ rest ≡ path_of (names_in (47 ∷ c ∷ rest))) × AreNames (names_in (47 ∷ c ∷ rest))
    by named clean =
        let words = all_words (parts_of (c ∷ rest)) named in (
          sym (slashed_parts (c ∷ rest)) ∙ sym (some_path (parts_of (c ∷ rest)) (parts_some (c ∷ rest))) ∙ ap path_of (sym words),
          subst AreNames (sym words) (record { named = named; whole = all_whole (parts_of (c ∷ rest)) (parts_plain (c ∷ rest) (or_right (b == 0) (has_byte_0 (c ∷ rest)) clean)) }),
        )

-- a name without a slash is a path inside a folder
lone_name : (name : List ℕ) → IsWhole name → is_name name ≡ true → is_relative name ≡ true
lone_name name whole named = ap (list_all is_name) (parts_lone name whole) ∙ ap (λ b. b && true) named

all_relative : (names : List (List ℕ)) → list_all is_name names ≡ true → AllByRecursion IsWhole names → list_all is_relative names ≡ true
all_relative [] named whole = refl
all_relative (name ∷ names) named whole = ap (λ b. b && list_all is_relative names) (lone_name name whole.0 (and_left _ _ named)) ∙ all_relative names (and_right _ _ named) whole.1

pub names_are_relative : (path : List ℕ) → is_path path ≡ true → list_all is_relative (names_in path) ≡ true
names_are_relative path is = let are = (path_named path is).1 in all_relative (names_in path) are.named are.whole

-- a part of a text without byte 0 stays, leads up, or is a name
abbrev pub leads_on : List ℕ → Bool
leads_on part = stays part || (leads_up part || is_relative part)

part_leads_on : (part : List ℕ) → IsPlain part → leads_on part ≡ true
part_leads_on part plain = ap (λ ps. stays part || (leads_up part || list_all is_name ps)) (parts_lone part plain.whole) ∙ ap (λ b. stays part || (leads_up part || (not (stays part || leads_up part || b) && true))) plain.clean ∙ by (stays part) (leads_up part)
  where
    by : (s u : Bool) → s || (u || (not (s || u || false) && true)) ≡ true
    by true u = refl
    by false true = refl
    by false false = refl

all_lead_on : (parts : List (List ℕ)) → AllByRecursion IsPlain parts → list_all leads_on parts ≡ true
all_lead_on [] all = refl
all_lead_on (part ∷ parts) all = ap (λ b. b && list_all leads_on parts) (part_leads_on part all.0) ∙ all_lead_on parts all.1

pub parts_lead_on : (text : List ℕ) → has_zero text ≡ false → list_all leads_on (parts_of text) ≡ true
unfolding has_zero
parts_lead_on text clean = all_lead_on (parts_of text) (parts_plain text clean)

-- what holds of all of some holds of the one at an index
pub one_of_all : {A : Type 0} (f : A → List ℕ) (p : List ℕ → Bool) (xs : List A) (i : ℕ) (x : A) → list_all p (map f xs) ≡ true → i < length xs → p (f (get_or xs i x)) ≡ true
one_of_all f p [] i x all lt = absurd (omega arith)
one_of_all f p (y ∷ ys) zero x all lt = and_left _ _ all
one_of_all f p (y ∷ ys) (suc i) x all lt = one_of_all f p ys i x (and_right _ _ all) (omega arith)
