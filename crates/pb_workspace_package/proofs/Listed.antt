-- What the listings of a package's folder have is what its folder has.
use Rattle.std.proofs.Common.{◌≡◌, ◌&&◌, ◌||◌, ◌==◌, ◌++◌, ◌∙◌, List, [], ◌∷◌, ℕ, Bool, true, false, cond, codes, None, is_some, refl, sym, ap, append_assoc}
use Rattle.std.proofs.lemmas.Bool.{false≢true}
use Rattle.std.specs.FinMap.{get, keys, retain_keys}
use Rattle.std.specs.List.{list_any}
use Rattle.std.specs.Str.{bytes_eq}
use Rattle.pb_place_types.specs.Paths.{below, is_below, is_relative, stem}
use Rattle.pb_place_types.specs.World.{Map, World, is_same_path}
use Rattle.pb_place_types.proofs.MapLemmas.{among_keys, get-kept, same_bytes, symm}
use Rattle.pb_place_types.proofs.Within.{goes_below}
use Rattle.pb_workspace_package.specs.declared.listings.Listings.{Listings}
use Rattle.pb_workspace_package.specs.FoundBinaries.{bin_folder}
use Rattle.pb_workspace_package.specs.Listings.{AreListingsOf}
use Rattle.pb_workspace_package.specs.Sources.{has_own_file}

any_alike : (p q : List ℕ → Bool) → ((x : List ℕ) → p x ≡ q x) → (xs : List (List ℕ)) → list_any p xs ≡ list_any q xs
any_alike p q same [] = refl
any_alike p q same (x ∷ xs) = ap (λ b. b || list_any p xs) (same x) ∙ ap (λ b. q x || b) (any_alike p q same xs)

-- a path is listed where it passes the test and is there
among-kept : (path : List ℕ) (p : List ℕ → Bool) (m : Map) (xs : List (List ℕ)) → xs ≡ keys (retain_keys m p) → list_any (bytes_eq path) xs ≡ is_some (cond (p path) (get m path) None)
among-kept path p m xs are =
    ap (list_any (bytes_eq path)) are ∙ any_alike (bytes_eq path) (is_same_path path) (λ x. same_bytes path x ∙ symm path x) (keys (retain_keys m p)) ∙ among_keys (retain_keys m p) path ∙ ap is_some (get-kept m p path)

-- a path in `src/bin`
and_false : (b : Bool) → (b && false) ≡ false
and_false true = refl
and_false false = refl

not_empty : (s rest : List ℕ) (c : ℕ) → bytes_eq (s ++ c ∷ rest) [] ≡ false
not_empty [] rest c = refl
not_empty (a ∷ s) rest c = refl

not_root : (s rest : List ℕ) (c : ℕ) → bytes_eq (s ++ 47 ∷ c ∷ rest) (codes "/") ≡ false
not_root [] rest c = refl
not_root (a ∷ s) rest c = ap (λ b. (a == 47) && b) (not_empty s (c ∷ rest) 47) ∙ and_false (a == 47)

pub below_twice : (folder first rest : List ℕ) (c : ℕ) → below folder ((c ∷ first) ++ 47 ∷ rest) ≡ below (below folder (c ∷ first)) rest
below_twice folder first rest c =
    sym (append_assoc (stem folder) (47 ∷ c ∷ first) (47 ∷ rest)) ∙ sym (ap (λ b. cond b [] (below folder (c ∷ first)) ++ 47 ∷ rest) (not_root (stem folder) first c))

pub in_bin : (folder rest : List ℕ) → below (bin_folder folder) rest ≡ below folder (codes "src/bin/" ++ rest)
in_bin folder rest = sym (below_twice folder (codes "rc/bin") rest 115)

pub ruleset bin_laws = (in_bin)

is_inside : (folder rest : List ℕ) → is_relative rest ≡ true → is_below (bin_folder folder) (below folder (codes "src/bin/" ++ rest)) ≡ true
is_inside folder [] named = absurd (false≢true named)
is_inside folder (c ∷ rest) named = ap (is_below (bin_folder folder)) (below_twice folder (codes "rc/bin") (c ∷ rest) 115) ∙ goes_below (bin_folder folder) (c ∷ rest) (λ none. cc)

-- it is listed where it is there
pub bin-listed : (folder rest path : List ℕ) (sources : World) (l : Listings) → AreListingsOf folder sources l → is_relative rest ≡ true → path ≡ below folder (codes "src/bin/" ++ rest)
    → list_any (bytes_eq path) l.in_bin ≡ has_own_file folder sources (codes "src/bin/" ++ rest)
bin-listed folder rest path sources l are named is =
    ap (λ p. list_any (bytes_eq p) l.in_bin) is
    ∙ among-kept (below folder (codes "src/bin/" ++ rest)) (is_below (bin_folder folder)) sources.files l.in_bin are.in_bin
    ∙ ap (λ b. is_some (cond b (get sources.files (below folder (codes "src/bin/" ++ rest))) None)) (is_inside folder rest named)
