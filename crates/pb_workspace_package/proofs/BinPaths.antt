-- The paths of binaries inside `src/bin` are relative ones.
use Rattle.std.proofs.Common.{◌≡◌, ◌&&◌, ◌||◌, ℕ, true, false, not, cond, List, [], ◌∷◌, ◌++◌, codes, refl, ap, ◌∙◌}
use Rattle.std.proofs.lemmas.Bool.{false≢true}
use Rattle.std.specs.List.{list_all, onto_first}
use Rattle.std.specs.Str.{bytes_eq}
use Rattle.pb_manifest_types.specs.Letters as letters
use Rattle.pb_place_types.specs.Paths.{parts_of, stays, leads_up, is_name, is_relative}
use Rattle.pb_place_types.proofs.PathLemmas.{and_left, and_right}
use Rattle.pb_workspace_types.proofs.NamesInPaths.{either, leads_on, no_dot, no_slash, no_zero, unlike, without}

-- a name with an ending, cut at slashes, has its first cut in the ending
pub cut_after : (name ending first : List ℕ) (rest : List (List ℕ)) → list_all letters.is_name_byte name ≡ true → parts_of ending ≡ first ∷ rest → parts_of (name ++ ending) ≡ (name ++ first) ∷ rest
cut_after [] ending first rest all is = is
cut_after (b ∷ name) ending first rest all is =
    ap (λ t. cond t ([] ∷ parts_of (name ++ ending)) (onto_first b (parts_of (name ++ ending)))) (unlike 47 b no_slash (and_left _ _ all))
    ∙ ap (onto_first b) (cut_after name ending first rest (and_right _ _ all) is)

-- a name of a package's letters is one of a folder
plain : (b : ℕ) (name rest : List ℕ) → list_all letters.is_name_byte (b ∷ name) ≡ true → stays (b ∷ rest) || leads_up (b ∷ rest) ≡ false
plain b name rest all =
    let other = unlike 46 b no_dot (and_left _ _ all) in
    ap (λ t. (t && bytes_eq rest []) || (t && bytes_eq rest (codes "."))) other

append_none : (xs : List ℕ) → xs ++ [] ≡ xs
append_none [] = refl
append_none (x ∷ xs) = ap (λ ys. x ∷ ys) (append_none xs)

pub flat_is_relative : (name : List ℕ) → letters.is_name name ≡ true → is_relative (name ++ codes ".rs") ≡ true
unfolding letters.is_name
flat_is_relative [] is = absurd (false≢true is)
flat_is_relative (b ∷ name) is =
    let all = and_right _ _ is in
    let whole = cut_after (b ∷ name) (codes ".rs") (codes ".rs") [] all refl in
    let clean = without 0 no_zero (b ∷ name) (codes ".rs") all refl in
    ap (list_all is_name) whole ∙ ap (λ t. not t && true) (either (stays (b ∷ name ++ codes ".rs") || leads_up (b ∷ name ++ codes ".rs")) _ (leads_on b name (codes "rs") refl) clean)

pub nested_is_relative : (name : List ℕ) → letters.is_name name ≡ true → is_relative (name ++ codes "/main.rs") ≡ true
unfolding letters.is_name
nested_is_relative [] is = absurd (false≢true is)
nested_is_relative (b ∷ name) is =
    let all = and_right _ _ is in
    let whole = cut_after (b ∷ name) (codes "/main.rs") [] (codes "main.rs" ∷ []) all refl in
    let clean = without 0 no_zero (b ∷ name) [] all refl in
    ap (list_all is_name) whole ∙ ap (λ t. not t && true) (either (stays (b ∷ name ++ []) || leads_up (b ∷ name ++ [])) _ (plain b name (name ++ []) all) clean)

pub ruleset bin_laws = (flat_is_relative, nested_is_relative)
