-- Which binaries a package has (The Cargo Book, Cargo Targets). `sources` is the world without the
-- files at or below the target folder.
use Rattle.std.specs.Prelude.{ℕ, Bool, if◌then◌else◌, codes, List, [], ◌∷◌, ◌++◌, map, Option, Some, None, unwrap_or}
use Rattle.std.specs.Str.{bytes_eq}
use Rattle.pb_place_types.specs.Paths.{below}
use Rattle.pb_place_types.specs.World.{World}
use Rattle.pb_manifest_types.specs.declared.target.Binary.{Binary as WrittenBinary}
use Rattle.pb_workspace_types.specs.declared.package.Binary.{Binary}
use Rattle.pb_workspace_package.specs.Sorted.{with_entry}
use Rattle.pb_workspace_package.specs.Sources.{own_source, resolved}

-- `src/main.rs`, which is one of the three paths that the source of a binary may have; the next two
-- definitions are the other two paths
abbrev pub main_source : List ℕ
main_source = codes "src/main.rs"

abbrev pub flat_source : List ℕ → List ℕ
flat_source name = codes "src/bin/" ++ (name ++ codes ".rs")

abbrev pub nested_source : List ℕ → List ℕ
nested_source name = codes "src/bin/" ++ (name ++ codes "/main.rs")

-- the first option if it has a value, and otherwise the second
abbrev pub first_some : {A : Type 0} → Option A → Option A → Option A
first_some None second = second
first_some (Some x) second = Some x

-- the first of `src/bin/NAME.rs` and `src/bin/NAME/main.rs` that is a file of the sources, if one
-- of the two is
abbrev pub looked_in_bin : List ℕ → World → List ℕ → Option (List ℕ)
looked_in_bin folder sources name = first_some (own_source folder sources (flat_source name)) (own_source folder sources (nested_source name))

-- The source of a `[[bin]]` without a written path. It is one of these paths: `src/main.rs`, if the
-- binary has the package's name, and the two paths in `src/bin`. The first path with a file counts,
-- or the first path if none has a file.
abbrev pub looked_for : List ℕ → World → Bool → List ℕ → List ℕ
looked_for folder sources is_packages name =
    if is_packages then unwrap_or (first_some (own_source folder sources main_source) (looked_in_bin folder sources name)) (below folder main_source)
    else unwrap_or (looked_in_bin folder sources name) (below folder (flat_source name))

-- the source of a `[[bin]]`: the written path, or, without a written path, the path that
-- `looked_for` finds
abbrev pub binary_source : List ℕ → World → List ℕ → List ℕ → Option (List ℕ) → List ℕ
binary_source folder sources package_name name (Some path) = resolved folder path
binary_source folder sources package_name name None = looked_for folder sources (bytes_eq name package_name) name

-- the binary that a `[[bin]]` describes
abbrev pub written_binary : List ℕ → World → List ℕ → WrittenBinary → Binary
written_binary folder sources package_name b = record {
  name = b.name;
  source = binary_source folder sources package_name b.name b.path;
  required_features = b.required_features;
}

-- The entries, to which these binaries are added one by one. The result is in byte order of the
-- names. A later binary replaces an earlier binary of the same name.
abbrev pub with_binaries : List (List ℕ × Binary) → List Binary → List (List ℕ × Binary)
with_binaries entries [] = entries
with_binaries entries (b ∷ bs) = with_binaries (with_entry entries b.name b) bs

-- the binary of an entry, with the entry's name
abbrev pub binary_of : List ℕ × Binary → Binary
binary_of entry = record { name = entry.0; source = entry.1.source; required_features = entry.1.required_features }

-- The binaries of a package: the found binaries and the binaries that the manifest writes. If
-- several found binaries have the same name, the last one counts. A written binary replaces a found
-- binary of the same name.
abbrev pub binaries_of : List Binary → List Binary → List Binary
binaries_of found written = map binary_of (with_binaries (with_binaries [] found) written)
