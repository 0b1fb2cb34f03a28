-- What a package that was read contains, in the terms of The Cargo Book (Manifest Format, Cargo
-- Targets, Build Scripts, Features, Specifying Dependencies, Workspaces). `sources` is the world
-- without the files at or below the target folder.
use Rattle.std.specs.Prelude.{◌≡◌, ◌≢◌, ◌↔◌, ℕ, Bool, true, not, ◌||◌, codes, List, [], ◌∷◌, ◌++◌, map, Option, Some, None, IfSome, Contains, slice_get, unwrap_or}
use Rattle.std.specs.List.{AllZip, join_by}
use Rattle.std.specs.Option.{option_map, option_map_or}
use Rattle.std.specs.Result.{result_ok}
use Rattle.std.specs.Str.{bytes_eq}
use Rattle.pb_directive.specs.Metadata.{underscored}
use Rattle.pb_manifest_types.specs.Versions.{matches}
use Rattle.pb_manifest_types.specs.declared.dependency.Dependency.{Dependency}
use Rattle.pb_manifest_types.specs.declared.dependency.PathSource.{PathSource}
use Rattle.pb_manifest_types.specs.declared.dependency.Source.TheVariants as source
use Rattle.pb_manifest_types.specs.declared.dependency.WorkspaceDependency.{WorkspaceDependency}
use Rattle.pb_manifest_types.specs.declared.dependency.WorkspaceSource.TheVariants as shared
use Rattle.pb_manifest_types.specs.declared.feature.Feature.{Feature}
use Rattle.pb_manifest_types.specs.declared.feature.FeatureItem.TheVariants as item
use Rattle.pb_manifest_types.specs.declared.inherited.Inheritable.{Inheritable}
use Rattle.pb_manifest_types.specs.declared.inherited.Inheritable.TheVariants as text
use Rattle.pb_manifest_types.specs.declared.inherited.Inherited.{Inherited}
use Rattle.pb_manifest_types.specs.declared.inherited.Inherited.TheVariants as key
use Rattle.pb_manifest_types.specs.declared.manifest.Manifest.{Manifest}
use Rattle.pb_manifest_types.specs.declared.package.Build.{Build}
use Rattle.pb_manifest_types.specs.declared.package.Build.TheVariants as build
use Rattle.pb_manifest_types.specs.declared.package.Readme.{Readme}
use Rattle.pb_manifest_types.specs.declared.package.Readme.TheVariants as readme
use Rattle.pb_manifest_types.specs.declared.package.Package.{Package as Written}
use Rattle.pb_manifest_types.specs.declared.target.CrateType.{CrateType}
use Rattle.pb_manifest_types.specs.declared.target.CrateType.TheVariants.{Lib}
use Rattle.pb_manifest_types.specs.declared.target.Library.{Library as WrittenLibrary}
use Rattle.pb_workspace_types.specs.Settled.{IsAscending}
use Rattle.pb_workspace_types.specs.declared.package.DependencyKind.{DependencyKind}
use Rattle.pb_workspace_types.specs.declared.package.DependencyKind.TheVariants.{Normal, Build as ForScript}
use Rattle.pb_workspace_types.specs.declared.package.Entry.{Entry}
use Rattle.pb_workspace_types.specs.declared.package.Library.{Library}
use Rattle.pb_workspace_types.specs.declared.package.Package.{Package}
use Rattle.pb_workspace_types.specs.declared.workspace.Workspace.{Workspace}
use Rattle.pb_place_types.specs.Paths.{below, joined}
use Rattle.pb_place_types.specs.World.{World}
use Rattle.pb_workspace_package.specs.Sources.{resolved}
use Rattle.pb_workspace_package.specs.Between.{text_between}
use Rattle.pb_workspace_package.specs.declared.settling.Given.{Given}
use Rattle.pb_workspace_laws.specs.Files.{first_file, first_path}

-- Keys.

-- The value is the value that the package writes. If the package says `KEY.workspace = true`, it is
-- the value of the package's workspace.
abbrev pub IsOwnOrTaken : {A : Type 0} → Inherited A → Option A → A → Type 0
IsOwnOrTaken (key.Written x) given value = value ≡ x
IsOwnOrTaken key.Workspace given value = given ≡ Some value

-- The text is made from the value that the package writes, or from the workspace's value. If there
-- is no value, the text is `none`.
abbrev pub IsText : {A : Type 0} → (A → List ℕ) → (A → List ℕ) → List ℕ → Inheritable A → Option A → List ℕ → Type 0
IsText {A} own taken none (text.Written x) given value = value ≡ own x
IsText {A} own taken none text.Workspace given value = (x : A) × (given ≡ Some x) × (value ≡ taken x)
IsText {A} own taken none text.Absent given value = value ≡ none

abbrev pub IsPlainText : Inheritable (List ℕ) → Option (List ℕ) → List ℕ → Type 0
IsPlainText = IsText (λ x. x) (λ x. x) []

-- the authors as one text, separated by `:`
abbrev pub with_colons : List (List ℕ) → List ℕ
with_colons authors = join_by (λ author. author) (codes ":") authors

-- The path of a text, rewritten so that it starts at the member's folder instead of the root. If
-- the text is not a path, it stays unchanged.
abbrev pub from_member : List ℕ → List ℕ → List ℕ → List ℕ
from_member root folder text = option_map_or (text_between folder) (result_ok (joined root text)) text

-- the path of the README; `true` means `README.md`, and `false` means that there is no README
abbrev pub readme_path : Readme → Option (List ℕ)
readme_path readme.Standard = Some (codes "README.md")
readme_path readme.Never = None
readme_path (readme.At path) = Some path

-- Targets.

-- The build script's path. If `build` is missing, the path is `build.rs`, provided that there is
-- such a file. Otherwise the value of `build` decides: `true`, `false` or a path.
abbrev pub script : World → List ℕ → Build → Option (List ℕ)
script sources folder build.Discovered = first_path sources folder (codes "build.rs" ∷ [])
script sources folder build.Standard = Some (below folder (codes "build.rs"))
script sources folder build.Never = None
script sources folder (build.At path) = Some (resolved folder path)

-- the crate types that are written for a library, or `lib` if no crate type is written
abbrev pub kinds_or_lib : List CrateType → List CrateType
kinds_or_lib [] = Lib ∷ []
kinds_or_lib (kind ∷ kinds) = kind ∷ kinds

-- The library of a package. With `[lib]`, this is the library of the table, whose source is
-- `src/lib.rs` unless a path is written. Without `[lib]` a package has a library only if
-- `src/lib.rs` is a file.
abbrev pub library : World → List ℕ → List ℕ → Option WrittenLibrary → Option Library
library sources folder name (Some l) = Some record { name = unwrap_or l.name (underscored name); crate_types = kinds_or_lib l.crate_types; source = option_map_or (resolved folder) l.path (below folder (codes "src/lib.rs")) }
library sources folder name None = option_map (λ path. record { name = underscored name; crate_types = Lib ∷ []; source = path }) (first_path sources folder (codes "src/lib.rs" ∷ []))

-- Features.

-- A feature is written, or an optional entry makes it. A made feature has the entry's key as its
-- name, and `dep:KEY` as its only item. The entry makes no feature if this item, or a feature with
-- this name, is written.
pub data IsFeature (m : Manifest) (f : Feature) : Type 0 where
  written : (is : Contains m.features f) → IsFeature m f
  made : (d : Dependency) (entry : Contains (m.dependencies ++ m.build_dependencies) d) (optional : d.optional ≡ true) (name : f.name ≡ d.key) (items : f.items ≡ item.Dependency d.key ∷ [])
      (no_item : (g : Feature) → Contains m.features g → Contains g.items (item.Dependency d.key) → ⊥) (no_feature : (g : Feature) → Contains m.features g → g.name ≢ d.key) → IsFeature m f

-- Entries.

-- What a dependency requests. If a dependency has its own path, this path starts at its package's
-- folder. If the dependency inherits the workspace's entry with the same key, the path is the
-- entry's path, and starts at the root folder. An inherited dependency requests the features of
-- both entries, and `default` if one of the two entries does.
pub data RequestsPackage (root folder : List ℕ) (entries : List WorkspaceDependency) (d : Dependency) : List ℕ → PathSource → Bool → List (List ℕ) → Type 0 where
  path : (s : PathSource) (is : d.source ≡ source.Path s) → RequestsPackage root folder entries d (resolved folder s.path) s s.default_features d.features
  workspace : (default : Bool) (is : d.source ≡ source.Workspace default) (w : WorkspaceDependency) (there : Contains entries w) (same : w.key ≡ d.key) (s : PathSource) (has_path : w.source ≡ shared.Path s)
      → RequestsPackage root folder entries d (resolved root s.path) s (s.default_features || default) (w.features ++ d.features)

-- The entry of a dependency leads to the package in the requested folder. This package has a
-- matching version. The package's name is what `package` says, or else the key.
pub record IsEntry (root folder : List ℕ) (entries : List WorkspaceDependency) (ws : Workspace) (kind : DependencyKind) (d : Dependency) (e : Entry) : Type 0 where
  pub key_is : e.key ≡ d.key
  pub kind_is : e.kind ≡ kind
  pub optional : e.optional ≡ d.optional
  pub s : PathSource
  pub found : Package
  pub asks : RequestsPackage root folder entries d found.folder s e.default_features e.features
  pub there : slice_get ws.packages e.to ≡ Some found
  pub name : found.name ≡ unwrap_or s.package e.key
  pub renamed : e.renamed ≡ not (bytes_eq found.name e.key)
  pub version : IfSome s.version (λ requirement. matches requirement found.version ≡ true)

-- The package is the one that the manifest `m` and its `[package]` table `w` describe, in a
-- workspace with this root folder. `given` is what the package may inherit. For each entry of the
-- two tables, in order, the package has exactly one entry.
pub record IsPackageOf (sources : World) (root : List ℕ) (given : Given) (ws : Workspace) (m : Manifest) (w : Written) (p : Package) : Type 0 where
  pub name : p.name ≡ w.name
  pub version : IsOwnOrTaken w.version given.package.version p.version
  pub edition : IsOwnOrTaken w.edition given.package.edition p.edition
  pub authors : IsText with_colons with_colons [] w.authors given.package.authors p.about.authors
  pub description : IsPlainText w.description given.package.description p.about.description
  pub homepage : IsPlainText w.homepage given.package.homepage p.about.homepage
  pub license : IsPlainText w.license given.package.license p.about.license
  pub license_file : IsText (λ path. path) (from_member root p.folder) [] w.license_file given.package.license_file p.about.license_file
  pub readme : IsText (λ readme. unwrap_or (readme_path readme) []) (λ readme. option_map_or (from_member root p.folder) (readme_path readme) [])
      (unwrap_or (first_file sources p.folder (codes "README.md" ∷ codes "README.txt" ∷ codes "README" ∷ [])) []) w.readme given.package.readme p.about.readme
  pub repository : IsPlainText w.repository given.package.repository p.about.repository
  pub rust_version : IsPlainText w.rust_version given.package.rust_version p.about.rust_version
  pub links : p.links ≡ w.links
  pub library_is : p.library ≡ library sources p.folder w.name m.library
  pub script_is : p.script ≡ script sources p.folder w.build
  pub features_order : IsAscending (map (λ (f : Feature). f.name) p.features)
  pub features : (f : Feature) → Contains p.features f ↔ IsFeature m f
  pub entries : AllZip (λ (asked : DependencyKind × Dependency) e. IsEntry root p.folder given.dependencies ws asked.0 asked.1 e)
      (map (λ d. (Normal, d)) m.dependencies ++ map (λ d. (ForScript, d)) m.build_dependencies) p.entries
  pub development : p.development ≡ m.dev_dependencies
