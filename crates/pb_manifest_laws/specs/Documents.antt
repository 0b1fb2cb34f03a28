-- What a whole manifest means, table by table (The Cargo Book, Manifest Format).
use Rattle.std.specs.Prelude.{◌≡◌, ◌≤◌, ℕ, true, is_some, length, codes, List, [], ◌∷◌, Some, None}
use Rattle.std.specs.List.{AllByRecursion}
use Rattle.std.specs.Option.{option_and_then, option_map_or}
use Rattle.std.specs.Str.{is_utf8}
use Rattle.toml.specs.Data.{Members, as_table, get_member}
use Rattle.toml.specs.Parse.{parse_document}
use Rattle.pb_data.specs.Limits.{max_manifest_bytes}
use Rattle.pb_manifest.specs.Values.{keys_of}
use Rattle.pb_manifest_types.specs.declared.manifest.Manifest.{Manifest}
use Rattle.pb_manifest_laws.specs.Dependencies.{IsDependencyEntry}
use Rattle.pb_manifest_laws.specs.Packages.{IsPackageTable, IsLibraryTable, IsBinaryTable, IsFeatureEntry}
use Rattle.pb_manifest_laws.specs.Profiles.{IsProfileEntry}
use Rattle.pb_manifest_laws.specs.Values.{OfTable, IsTableAt, AreTablesAt, AreEntriesAt}
use Rattle.pb_manifest_laws.specs.Workspaces.{IsWorkspaceTable}

-- A document describes this manifest. The document has `[package]` or `[workspace]`, and no table
-- that we do not support.
pub record IsDocument (ms : Members) (m : Manifest) : Type 0 where
  pub unsupported : AllByRecursion (λ key. get_member key ms ≡ None) (codes "patch" ∷ codes "replace" ∷ codes "target" ∷ [])
  pub own : IsTableAt IsPackageTable (get_member (codes "package") ms) m.package
  pub one : get_member (codes "package") ms ≡ None → is_some (get_member (codes "workspace") ms) ≡ true
  pub library : IsTableAt IsLibraryTable (get_member (codes "lib") ms) m.library
  pub binaries : AreTablesAt IsBinaryTable (get_member (codes "bin") ms) m.binaries
  pub dependencies : AreEntriesAt (λ name. OfTable (IsDependencyEntry name)) (get_member (codes "dependencies") ms) m.dependencies
  pub build_dependencies : AreEntriesAt (λ name. OfTable (IsDependencyEntry name)) (get_member (codes "build-dependencies") ms) m.build_dependencies
  pub dev_dependencies : m.dev_dependencies ≡ option_map_or keys_of (option_and_then as_table (get_member (codes "dev-dependencies") ms)) []
  pub features : AreEntriesAt IsFeatureEntry (get_member (codes "features") ms) m.features
  pub profiles : AreEntriesAt (λ name. OfTable (IsProfileEntry name)) (get_member (codes "profile") ms) m.profiles
  pub workspace : IsTableAt IsWorkspaceTable (get_member (codes "workspace") ms) m.workspace

-- Bytes describe this manifest. There are at most 1 MiB of bytes. The bytes are UTF-8, and `toml`
-- reads them as a document that describes the manifest.
pub record AreManifest (bytes : List ℕ) (m : Manifest) : Type 0 where
  pub few : length bytes ≤ max_manifest_bytes
  pub text : is_utf8 bytes ≡ true
  pub document : Members
  pub parsed : parse_document bytes ≡ Some document
  pub says : IsDocument document m
