-- What `[workspace]` and `[workspace.package]` mean, key by key (The Cargo Book, Workspaces).
use Rattle.std.specs.Prelude.{◌≡◌, ℕ, true, codes, List, [], ◌∷◌, Option}
use Rattle.std.specs.List.{AllByRecursion}
use Rattle.toml.specs.Data.{string, Members, get_member}
use Rattle.pb_manifest_types.specs.Versions.{is_version}
use Rattle.pb_manifest_types.specs.declared.manifest.WorkspacePackage.{WorkspacePackage}
use Rattle.pb_manifest_types.specs.declared.manifest.WorkspaceTable.{WorkspaceTable}
use Rattle.pb_manifest_laws.specs.Dependencies.{IsSharedEntry}
use Rattle.pb_manifest_laws.specs.Packages.{edition, readme_value, IsResolver}
use Rattle.pb_manifest_laws.specs.Values.{texts, IsPath, OptionalMeans, HoldsValid, Lists, IsTableAt, AreEntriesAt}

-- the texts that members may inherit, each with its key
abbrev pub shared_texts : WorkspacePackage → List (List ℕ × Option (List ℕ))
shared_texts w = (codes "description", w.description) ∷ (codes "homepage", w.homepage) ∷ (codes "license", w.license) ∷ (codes "license-file", w.license_file)
    ∷ (codes "repository", w.repository) ∷ (codes "rust-version", w.rust_version) ∷ []

-- a table `[workspace.package]` describes these values
pub record IsInheritedTable (ms : Members) (w : WorkspacePackage) : Type 0 where
  pub authors : OptionalMeans texts (get_member (codes "authors") ms) w.authors
  pub edition_is : OptionalMeans edition (get_member (codes "edition") ms) w.edition
  pub readme_is : OptionalMeans readme_value (get_member (codes "readme") ms) w.readme
  pub texts_are : AllByRecursion (λ (row : List ℕ × Option (List ℕ)). OptionalMeans string (get_member row.0 ms) row.1) (shared_texts w)
  pub version : HoldsValid (λ text. is_version text ≡ true) string (get_member (codes "version") ms) w.version

-- a table `[workspace]` describes this workspace
pub record IsWorkspaceTable (ms : Members) (w : WorkspaceTable) : Type 0 where
  pub members : Lists string (get_member (codes "members") ms) w.members
  pub members_are : AllByRecursion IsPath w.members
  pub default_members : HoldsValid (AllByRecursion IsPath) texts (get_member (codes "default-members") ms) w.default_members
  pub exclude : Lists string (get_member (codes "exclude") ms) w.exclude
  pub exclude_are : AllByRecursion IsPath w.exclude
  pub inherited : IsTableAt IsInheritedTable (get_member (codes "package") ms) w.package
  pub dependencies : AreEntriesAt IsSharedEntry (get_member (codes "dependencies") ms) w.dependencies
  pub resolver : IsResolver (get_member (codes "resolver") ms)
