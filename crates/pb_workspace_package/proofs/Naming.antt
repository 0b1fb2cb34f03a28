-- The names of what is found and made: each has its letters.
use Rattle.std.proofs.Common.{◌≡◌, ℕ, not, List, [], ◌∷◌, ◌++◌, length, map, Bool, true, false, ◌&&◌, ◌||◌, ◌==◌, Option, Some, None, IfSome, refl, sym, ap, ◌∙◌, subst, if◌then◌else◌, codes}
use Rattle.std.proofs.lemmas.Bool.{and_parts}
use Rattle.std.proofs.lemmas.List.{length-map}
use Rattle.std.specs.List.{AllByRecursion, cons_option, filter_map, list_all}
use Rattle.std.specs.Str.{bytes_eq}
use Rattle.pb_place_types.specs.Paths.{inside}
use Rattle.pb_manifest_types.specs.Features.{parted}
use Rattle.pb_manifest_types.specs.Letters.{is_name, is_name_byte, is_crate_name, is_crate_name_byte, is_alphanumeric, underscored, underscored_byte}
use Rattle.pb_manifest_types.specs.Library.{library_name, named_or}
use Rattle.pb_manifest_types.specs.declared.target.Library.{Library as WrittenLibrary}
use Rattle.pb_workspace_types.specs.declared.package.Binary.{Binary}
use Rattle.pb_workspace_package.specs.Between.{names_in}
use Rattle.pb_workspace_package.specs.Drafted.{IsBinaryNamed, IsWrittenLibrary}
use Rattle.pb_workspace_package.specs.FoundBinaries.{stem_in, flat_name, nested_name, name_by, name_inside, found_at, binary_at, main_binary}

abbrev Named : List ℕ → Type 0
Named name = is_name name ≡ true

stem_named : (parts : Option (List ℕ × List ℕ)) → IfSome (stem_in parts) Named
stem_named None = tt
stem_named (Some p) = by (is_name p.0) (bytes_eq p.1 (codes "rs")) refl
  where
    by : (a b : Bool) → is_name p.0 ≡ a → IfSome (if a && b then Some p.0 else None) Named
    by true true at = at
    by true false at = tt
    by false b at = tt

flat_named : (names : List (List ℕ)) → IfSome (flat_name names) Named
flat_named [] = tt
flat_named (file ∷ []) = stem_named (parted 46 file)
flat_named (first ∷ second ∷ more) = tt

nested_named : (names : List (List ℕ)) → IfSome (nested_name names) Named
nested_named [] = tt
nested_named (file ∷ []) = tt
nested_named (name ∷ file ∷ []) = by (is_name name) (bytes_eq file (codes "main.rs")) refl
  where
    by : (a b : Bool) → is_name name ≡ a → IfSome (if a && b then Some name else None) Named
    by true true at = at
    by true false at = tt
    by false b at = tt
nested_named (first ∷ second ∷ third ∷ more) = tt

by_named : (nested : Bool) (names : List (List ℕ)) → IfSome (name_by nested names) Named
by_named true names = nested_named names
by_named false names = flat_named names

inside_named : (nested : Bool) (relative : Option (List ℕ)) → IfSome (name_inside nested relative) Named
inside_named nested None = tt
inside_named nested (Some relative) = by_named nested (names_in relative)

at_named : (path : List ℕ) (name : Option (List ℕ)) → IfSome name Named → IfSome (found_at path name) IsBinaryNamed
at_named path None is = tt
at_named path (Some name) is = is

binary_named : (nested : Bool) (bin path : List ℕ) → IfSome (binary_at nested bin path) IsBinaryNamed
binary_named nested bin path = at_named path (name_inside nested (inside bin path)) (inside_named nested (inside bin path))

some_all : {A B : Type 0} (P : B → Type 0) (f : A → Option B) → ((x : A) → IfSome (f x) P) → (xs : List A) → AllByRecursion P (filter_map f xs)
some_all P f each [] = tt
some_all {A} {B} P f each (x ∷ xs) = by (f x) (each x) (some_all P f each xs)
  where
    by : (o : Option B) → IfSome o P → AllByRecursion P (filter_map f xs) → AllByRecursion P (cons_option o (filter_map f xs))
    by None is rest = rest
    by (Some y) is rest = (is, rest)

pub both_all : {A : Type 0} (P : A → Type 0) (xs ys : List A) → AllByRecursion P xs → AllByRecursion P ys → AllByRecursion P (xs ++ ys)
both_all P [] ys one two = two
both_all P (x ∷ xs) ys one two = (one.0, both_all P xs ys one.1 two)

main_named : (name : List ℕ) (path : Option (List ℕ)) → Named name → AllByRecursion IsBinaryNamed (main_binary name path)
main_named name None is = tt
main_named name (Some path) is = (is, tt)

pub found_named : (bin name : List ℕ) (paths : List (List ℕ)) (main : Option (List ℕ)) (found : List Binary) → is_name name ≡ true
    → found ≡ filter_map (binary_at true bin) paths ++ (filter_map (binary_at false bin) paths ++ main_binary name main) → AllByRecursion IsBinaryNamed found
found_named bin name paths main found is same = subst (AllByRecursion IsBinaryNamed) (sym same)
    (both_all IsBinaryNamed _ _ (some_all IsBinaryNamed (binary_at true bin) (binary_named true bin) paths)
    (both_all IsBinaryNamed _ _ (some_all IsBinaryNamed (binary_at false bin) (binary_named false bin) paths) (main_named name main is)))

-- a byte of a package's name, `_` for `-`, is one of a crate's
byte_named : (b : ℕ) → is_name_byte b ≡ true → is_crate_name_byte (underscored_byte b) ≡ true
unfolding is_name_byte is_crate_name_byte
byte_named b is = by (b == 45) (is_alphanumeric b) (b == 95) refl refl refl is
  where
    by : (d a u : Bool) → b == 45 ≡ d → is_alphanumeric b ≡ a → b == 95 ≡ u → a || d || u ≡ true → is_crate_name_byte (if d then 95 else b) ≡ true
    by true a u dash letter under h = refl
    by false true u dash letter under h = ap (λ x. x || b == 95) letter
    by false false true dash letter under h = ap (λ x. x || b == 95) letter ∙ under
    by false false false dash letter under h = cc

bytes_named : (name : List ℕ) → list_all is_name_byte name ≡ true → list_all is_crate_name_byte (map underscored_byte name) ≡ true
bytes_named [] is = refl
bytes_named (b ∷ name) is = let h = and_parts (is_name_byte b) (list_all is_name_byte name) is in
    ap (λ x. x && list_all is_crate_name_byte (map underscored_byte name)) (byte_named b h.0) ∙ bytes_named name h.1

both_true : (a b : Bool) → a ≡ true → b ≡ true → (a && b) ≡ true
both_true a b p q = ap (λ x. x && b) p ∙ q

crate_named : (name : List ℕ) → is_name name ≡ true → is_crate_name (underscored name) ≡ true
unfolding is_name is_crate_name underscored
crate_named name is =
    let h = and_parts (not (length name == 0)) (list_all is_name_byte name) is in
    both_true _ _ (ap (λ n. not (n == 0)) (length-map name underscored_byte) ∙ h.0) (bytes_named name h.1)

pub library_named : (name : List ℕ) (written : Option WrittenLibrary) (made : List ℕ) → is_name name ≡ true → IfSome written IsWrittenLibrary → made ≡ library_name name written → is_crate_name made ≡ true
library_named name None made is w same = ap is_crate_name same ∙ crate_named name is
library_named name (Some l) made is w same = ap is_crate_name same ∙ by l.name w
  where
    by : (o : Option (List ℕ)) → IfSome o (λ n. is_crate_name n ≡ true) → is_crate_name (named_or o (underscored name)) ≡ true
    by None h = crate_named name is
    by (Some n) h = h

pub ruleset library_laws = (library_named)
