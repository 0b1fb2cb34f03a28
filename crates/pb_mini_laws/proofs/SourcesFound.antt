-- The sources of a package have normalised absolute paths, where its folder and the files of the world have them.
use Rattle.std.proofs.Common.{◌≡◌, ◌∙◌, ◌||◌, ℕ, Bool, true, false, cond, if◌then◌else◌, codes, is_some, List, [], ◌∷◌, map, Option, Some, None, IfSome, unwrap_or, refl, sym, ap}
use Rattle.std.specs.FinMap.{get, retain_keys}
use Rattle.std.specs.List.{AllByRecursion, filter_map, cons_option, list_any}
use Rattle.std.specs.Str.{bytes_eq}
use Rattle.std.proofs.lemmas.Slice.Eq.{bytes_eq-Decides}
use Rattle.pb_manifest_types.specs.Letters.{is_name}
use Rattle.pb_manifest_types.specs.Library.{library_name}
use Rattle.pb_manifest.specs.Promises.{IsBinary, IsBuild, IsLibrary, IsPath}
use Rattle.pb_manifest_types.specs.declared.package.Build.{Build}
use Rattle.pb_manifest_types.specs.declared.package.Build.TheVariants as build
use Rattle.pb_manifest_types.specs.declared.target.Binary.{Binary as WrittenBinary}
use Rattle.pb_manifest_types.specs.declared.target.CrateType.TheVariants.{Lib}
use Rattle.pb_manifest_types.specs.declared.target.Library.{Library as WrittenLibrary}
use Rattle.pb_workspace_types.specs.declared.package.Binary.{Binary}
use Rattle.pb_workspace_types.specs.declared.package.Library.{Library}
use Rattle.pb_place_types.specs.Paths.{below, inside, is_below, is_path, is_relative}
use Rattle.pb_place_types.specs.World.{World, is_same_path, listed, FilesHavePaths}
use Rattle.pb_place_types.proofs.MapLemmas.{among_keys, get-kept, same_bytes}
use Rattle.pb_place_types.proofs.Within.{or_second}
use Rattle.pb_workspace_package.specs.Binaries.{binaries_of, binary_of, binary_source, first_some, flat_source, looked_for, looked_in_bin, main_source, nested_source, with_binaries, written_binary}
use Rattle.pb_workspace_package.specs.FoundBinaries.{bin_folder, binary_at, found_at, found_binaries, main_binary, name_inside}
use Rattle.pb_workspace_package.specs.Settling.{discovered}
use Rattle.pb_workspace_package.specs.Sorted.{with_entry}
use Rattle.pb_workspace_package.specs.Sources.{has_own_file, library_of, library_source, own_source, script_of}
use Rattle.pb_workspace_package.proofs.BinPaths.{flat_is_relative, nested_is_relative}
use Rattle.pb_workspace_package.proofs.Naming.{both_all}
use Rattle.pb_workspace_package.proofs.Puttings.{all_map, with_entry_all}
use Rattle.pb_mini_laws.proofs.PathsSaid.{below_is, resolved_is}

abbrev pub At : List ℕ → Type 0
At path = is_path path ≡ true

abbrev pub IsSourced : Binary → Type 0
IsSourced binary = is_path binary.source ≡ true

-- what holds of each text that is among some holds of all of them
all_among : (P : List ℕ → Type 0) (xs : List (List ℕ)) → ((q : List ℕ) → list_any (is_same_path q) xs ≡ true → P q) → AllByRecursion P xs
all_among P [] each = tt
all_among P (x ∷ xs) each = (each x (ap (λ b. b || list_any (is_same_path x) xs) (sym (same_bytes x x) ∙ (bytes_eq-Decides x x).1 refl)), all_among P xs (λ q there. each q (or_second _ _ there)))

-- the files that are listed are files
pub listed_at : (sources : World) (base : List ℕ) → FilesHavePaths sources → AllByRecursion At (listed base sources)
listed_at sources base files = all_among At (listed base sources) (λ q among.
    by q (is_below base q) (get sources.files q) refl (ap is_some (sym (get-kept sources.files (is_below base) q)) ∙ sym (among_keys (retain_keys sources.files (is_below base)) q) ∙ among))
  where
    by : (q : List ℕ) (b : Bool) (o : Option (List ℕ)) → get sources.files q ≡ o → is_some (cond b o None) ≡ true → At q
    by q true (Some text) at some = files q text at
    by q true None at some = cc
    by q false o at some = cc

some_all : {A B : Type 0} (P : B → Type 0) (Q : A → Type 0) (f : A → Option B) → ((x : A) → Q x → IfSome (f x) P) → (xs : List A) → AllByRecursion Q xs → AllByRecursion P (filter_map f xs)
some_all P Q f each [] all = tt
some_all {A} {B} P Q f each (x ∷ xs) all = by (f x) (each x all.0) (some_all P Q f each xs all.1)
  where
    by : (o : Option B) → IfSome o P → AllByRecursion P (filter_map f xs) → AllByRecursion P (cons_option o (filter_map f xs))
    by None is rest = rest
    by (Some y) is rest = (is, rest)

-- the first of two, and one of them in any case
first_is : (a b : Option (List ℕ)) → IfSome a At → IfSome b At → IfSome (first_some a b) At
first_is None b one two = two
first_is (Some x) b one two = one

or_is : (a : Option (List ℕ)) (x : List ℕ) → IfSome a At → At x → At (unwrap_or a x)
or_is None x one two = two
or_is (Some y) x one two = one

module _ (folder : List ℕ) (sources : World) (is : is_path folder ≡ true) (files : FilesHavePaths sources) where
  own_is : (name : List ℕ) → is_relative name ≡ true → IfSome (own_source folder sources name) At
  own_is name named = by (has_own_file folder sources name)
    where
      by : (b : Bool) → IfSome (if b then Some (below folder name) else None) At
      by true = below_is folder name is named
      by false = tt

  pub library_at : (name : List ℕ) (l : Option WrittenLibrary) → IfSome l IsLibrary → IfSome (library_of folder sources name l) (λ x. At x.source)
  library_at name None promised = by (has_own_file folder sources (codes "src/lib.rs"))
    where
      by : (b : Bool) → IfSome (if b then Some record { name = library_name name None; crate_types = Lib ∷ []; source = below folder (codes "src/lib.rs") } else None) (λ (x : Library). At x.source)
      by true = below_is folder (codes "src/lib.rs") is refl
      by false = tt
  library_at name (Some l) promised = by l.path promised.path
    where
      by : (path : Option (List ℕ)) → IfSome path IsPath → At (library_source folder path)
      by None clean = below_is folder (codes "src/lib.rs") is refl
      by (Some text) clean = resolved_is folder text is clean

  pub script_at : (b : Build) → IsBuild b → IfSome (script_of folder sources b) At
  script_at build.Discovered promised = own_is (codes "build.rs") refl
  script_at build.Standard promised = below_is folder (codes "build.rs") is refl
  script_at build.Never promised = tt
  script_at (build.At path) promised = resolved_is folder path is promised

  in_bin : (name : List ℕ) → is_name name ≡ true → IfSome (looked_in_bin folder sources name) At
  in_bin name named = first_is _ _ (own_is (flat_source name) (flat_is_relative name named)) (own_is (nested_source name) (nested_is_relative name named))

  looked_at : (b : Bool) (name : List ℕ) → is_name name ≡ true → At (looked_for folder sources b name)
  looked_at true name named = or_is _ _ (first_is _ _ (own_is main_source refl) (in_bin name named)) (below_is folder main_source is refl)
  looked_at false name named = or_is _ _ (in_bin name named) (below_is folder (flat_source name) is (flat_is_relative name named))

  written_at : (owner : List ℕ) (b : WrittenBinary) → IsBinary b → IsSourced (written_binary folder sources owner b)
  written_at owner b promised = by b.path promised.path
    where
      by : (path : Option (List ℕ)) → IfSome path IsPath → At (binary_source folder sources owner b.name path)
      by None clean = looked_at (bytes_eq b.name owner) b.name promised.name
      by (Some text) clean = resolved_is folder text is clean

  all_written : (owner : List ℕ) (bs : List WrittenBinary) → AllByRecursion IsBinary bs → AllByRecursion (λ b. IsSourced (written_binary folder sources owner b)) bs
  all_written owner [] all = tt
  all_written owner (b ∷ bs) all = (written_at owner b all.0, all_written owner bs all.1)

  binary_is : (nested : Bool) (bin path : List ℕ) → At path → IfSome (binary_at nested bin path) IsSourced
  binary_is nested bin path at = by (name_inside nested (inside bin path))
    where
      by : (o : Option (List ℕ)) → IfSome (found_at path o) IsSourced
      by None = tt
      by (Some name) = at

  main_is : (name : List ℕ) (o : Option (List ℕ)) → IfSome o At → AllByRecursion IsSourced (main_binary name o)
  main_is name None at = tt
  main_is name (Some path) at = (at, tt)

  found_is : (name : List ℕ) → AllByRecursion IsSourced (found_binaries folder sources name)
  found_is name =
      let there = listed_at sources (bin_folder folder) files in
      both_all IsSourced _ _ (some_all IsSourced At (binary_at true (bin_folder folder)) (binary_is true (bin_folder folder)) (listed (bin_folder folder) sources) there)
      (both_all IsSourced _ _ (some_all IsSourced At (binary_at false (bin_folder folder)) (binary_is false (bin_folder folder)) (listed (bin_folder folder) sources) there)
      (main_is name (own_source folder sources main_source) (own_is main_source refl)))

  discovered_is : (name : List ℕ) (b : Bool) → AllByRecursion IsSourced (discovered folder sources name b)
  discovered_is name true = found_is name
  discovered_is name false = tt

  abbrev AtEntry : List ℕ × Binary → Type 0
  AtEntry e = IsSourced e.1

  with_is : (es : List (List ℕ × Binary)) (bs : List Binary) → AllByRecursion AtEntry es → AllByRecursion IsSourced bs → AllByRecursion AtEntry (with_binaries es bs)
  with_is es [] all more = all
  with_is es (b ∷ bs) all more = with_is (with_entry es b.name b) bs (with_entry_all AtEntry es b.name b all more.0) more.1

  pub binaries_at : (name : List ℕ) (b : Bool) (bs : List WrittenBinary) → AllByRecursion IsBinary bs → AllByRecursion IsSourced (binaries_of (discovered folder sources name b) (map (written_binary folder sources name) bs))
  binaries_at name b bs promised =
      all_map IsSourced binary_of _ (with_is _ (map (written_binary folder sources name) bs) (with_is [] (discovered folder sources name b) tt (discovered_is name b))
      (all_map IsSourced (written_binary folder sources name) bs (all_written name bs promised)))
