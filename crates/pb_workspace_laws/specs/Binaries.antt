-- Which binaries a package has (The Cargo Book, Cargo Targets). `sources` is the world without the
-- files at or below the target folder.
use Rattle.std.specs.Prelude.{◌≡◌, ◌≢◌, ◌↔◌, ℕ, true, if◌then◌else◌, codes, List, [], ◌∷◌, ◌++◌, map, Option, Some, Contains, get_or, unwrap_or}
use Rattle.std.specs.Option.{option_map_or}
use Rattle.std.specs.Str.{bytes_eq}
use Rattle.pb_manifest_types.specs.Letters.{is_name}
use Rattle.pb_manifest_types.specs.declared.manifest.Manifest.{Manifest}
use Rattle.pb_manifest_types.specs.declared.package.Package.{Package as Written}
use Rattle.pb_manifest_types.specs.declared.target.Binary.{Binary as WrittenBinary}
use Rattle.pb_workspace_types.specs.Settled.{IsAscending}
use Rattle.pb_workspace_types.specs.declared.package.Binary.{Binary}
use Rattle.pb_workspace_types.specs.declared.package.Package.{Package}
use Rattle.pb_place_types.specs.Paths.{below}
use Rattle.pb_place_types.specs.World.{World}
use Rattle.pb_workspace_package.specs.Sources.{resolved}
use Rattle.pb_workspace_laws.specs.Files.{first_file}

-- the two paths in `src/bin` at which the source of a binary may be: `src/bin/NAME.rs` and
-- `src/bin/NAME/main.rs`
abbrev pub in_bin : List ℕ → List (List ℕ)
in_bin name = (codes "src/bin/" ++ (name ++ codes ".rs")) ∷ (codes "src/bin/" ++ (name ++ codes "/main.rs")) ∷ []

-- The paths at which the builder looks for a binary's source, in order. `src/main.rs` is the first
-- if the binary has its package's name. The two paths in `src/bin` follow.
abbrev pub source_paths : List ℕ → List ℕ → List (List ℕ)
source_paths package_name name = if bytes_eq name package_name then codes "src/main.rs" ∷ in_bin name else in_bin name

-- The source of a `[[bin]]`: its written path, or the first of these names that is a file. If no
-- file has one of these names, the source is the first name.
abbrev pub source_of : World → List ℕ → List (List ℕ) → Option (List ℕ) → List ℕ
source_of sources folder names path = option_map_or (resolved folder) path (below folder (unwrap_or (first_file sources folder names) (get_or names 0 [])))

-- A binary is either written as a `[[bin]]`, or found. A found binary counts unless `autobins =
-- false` is written, or a `[[bin]]` has the same name.
pub data IsBinary (sources : World) (folder : List ℕ) (m : Manifest) (w : Written) (b : Binary) : Type 0 where
  written : (t : WrittenBinary) (table : Contains m.binaries t) (name : b.name ≡ t.name) (source : b.source ≡ source_of sources folder (source_paths w.name t.name) t.path) (features : b.required_features ≡ t.required_features)
      → IsBinary sources folder m w b
  found : (wanted : w.autobins ≡ true) (letters : is_name b.name ≡ true) (unwritten : (t : WrittenBinary) → Contains m.binaries t → t.name ≢ b.name) (relative : List ℕ) (first : first_file sources folder (source_paths w.name b.name) ≡ Some relative)
      (source : b.source ≡ below folder relative) (features : b.required_features ≡ []) → IsBinary sources folder m w b

-- the package has the binaries that its manifest `m` and its `[package]` table `w` describe
pub record HasBinaries (sources : World) (m : Manifest) (w : Written) (p : Package) : Type 0 where
  pub order : IsAscending (map (λ (b : Binary). b.name) p.binaries)
  pub are : (b : Binary) → Contains p.binaries b ↔ IsBinary sources p.folder m w b
