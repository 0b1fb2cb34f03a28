-- Which binaries are found in a package's folder (The Cargo Book, Cargo Targets). `sources` is the
-- world without the files at or below the target folder.
use Rattle.std.specs.Prelude.{ℕ, Bool, true, false, ◌&&◌, if◌then◌else◌, codes, List, [], ◌∷◌, ◌++◌, Option, Some, None}
use Rattle.std.specs.List.{filter_map}
use Rattle.std.specs.Str.{bytes_eq}
use Rattle.pb_data.specs.Ascii.{dot}
use Rattle.pb_place_types.specs.Paths.{below, inside}
use Rattle.pb_place_types.specs.World.{World, listed}
use Rattle.pb_manifest_types.specs.Features.{parted}
use Rattle.pb_manifest_types.specs.Letters.{is_name}
use Rattle.pb_workspace_types.specs.declared.package.Binary.{Binary}
use Rattle.pb_workspace_package.specs.Between.{names_in}
use Rattle.pb_workspace_package.specs.Binaries.{main_source}
use Rattle.pb_workspace_package.specs.Sources.{own_source}

-- NAME if the file is `NAME.rs` and NAME has the letters of a package's name
abbrev pub stem_in : Option (List ℕ × List ℕ) → Option (List ℕ)
stem_in None = None
stem_in (Some parts) = if is_name parts.0 && bytes_eq parts.1 (codes "rs") then Some parts.0 else None

-- NAME if the path inside `src/bin` is `NAME.rs`
abbrev pub flat_name : List (List ℕ) → Option (List ℕ)
flat_name [] = None
flat_name (file ∷ []) = stem_in (parted dot file)
flat_name (first ∷ second ∷ more) = None

-- NAME if the path inside `src/bin` is `NAME/main.rs`
abbrev pub nested_name : List (List ℕ) → Option (List ℕ)
nested_name [] = None
nested_name (file ∷ []) = None
nested_name (name ∷ file ∷ []) = if is_name name && bytes_eq file (codes "main.rs") then Some name else None
nested_name (first ∷ second ∷ third ∷ more) = None

abbrev pub name_by : Bool → List (List ℕ) → Option (List ℕ)
name_by true names = nested_name names
name_by false names = flat_name names

-- NAME for a path inside `src/bin` that has the requested form
abbrev pub name_inside : Bool → Option (List ℕ) → Option (List ℕ)
name_inside nested None = None
name_inside nested (Some relative) = name_by nested (names_in relative)

-- the binary whose source has this path, if the path yields a name
abbrev pub found_at : List ℕ → Option (List ℕ) → Option Binary
found_at path None = None
found_at path (Some name) = Some record { name = name; source = path; required_features = [] }

-- the binary whose source has this path below the folder `src/bin`, if the path has the requested
-- form
abbrev pub binary_at : Bool → List ℕ → List ℕ → Option Binary
binary_at nested bin path = found_at path (name_inside nested (inside bin path))

-- the binary with the source `src/main.rs`, if this file exists; the binary has the package's name
abbrev pub main_binary : List ℕ → Option (List ℕ) → List Binary
main_binary name None = []
main_binary name (Some path) = record { name = name; source = path; required_features = [] } ∷ []

abbrev pub bin_folder : List ℕ → List ℕ
bin_folder folder = below folder (codes "src/bin")

-- The binaries that are found, in this order: `src/bin/NAME/main.rs`, `src/bin/NAME.rs`,
-- `src/main.rs`. If two binaries have the same name, the later one counts.
abbrev pub found_binaries : List ℕ → World → List ℕ → List Binary
found_binaries folder sources name =
    filter_map (binary_at true (bin_folder folder)) (listed (bin_folder folder) sources)
    ++ (filter_map (binary_at false (bin_folder folder)) (listed (bin_folder folder) sources)
    ++ main_binary name (own_source folder sources main_source))
