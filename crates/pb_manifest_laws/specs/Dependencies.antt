-- What the entries of `[dependencies]`, `[build-dependencies]` and `[workspace.dependencies]` mean,
-- key by key (The Cargo Book, Specifying Dependencies, Workspaces).
use Rattle.std.specs.Prelude.{◌≡◌, ◌⊎◌, ℕ, Bool, true, false, List, [], ◌∷◌, codes, Option, Some, None}
use Rattle.std.specs.List.{AllByRecursion}
use Rattle.toml.specs.Data.{Data, string, boolean, Members, get_member}
use Rattle.pb_manifest_types.specs.Letters.{is_name}
use Rattle.pb_manifest_types.specs.Versions.{is_requirement}
use Rattle.pb_manifest_types.specs.declared.dependency.Dependency.{Dependency}
use Rattle.pb_manifest_types.specs.declared.dependency.PathSource.{PathSource}
use Rattle.pb_manifest_types.specs.declared.dependency.Source.{Source}
use Rattle.pb_manifest_types.specs.declared.dependency.Source.TheVariants as own
use Rattle.pb_manifest_types.specs.declared.dependency.WorkspaceDependency.{WorkspaceDependency}
use Rattle.pb_manifest_types.specs.declared.dependency.WorkspaceSource.{WorkspaceSource}
use Rattle.pb_manifest_types.specs.declared.dependency.WorkspaceSource.TheVariants as shared
use Rattle.pb_manifest_laws.specs.Values.{IsPath, OptionalMeans, HoldsValid, HoldsOr, Lists, OfTable}

-- An entry's keys name a package at a path. The package's feature `default` is requested unless the
-- entry says `default-features = false`.
pub record IsPathSource (ms : Members) (s : PathSource) : Type 0 where
  pub path : get_member (codes "path") ms ≡ Some (string s.path)
  pub path_is : IsPath s.path
  pub name : OptionalMeans string (get_member (codes "package") ms) s.package
  pub version : HoldsValid (λ text. is_requirement text ≡ true) string (get_member (codes "version") ms) s.version
  pub default_features : HoldsOr true boolean (get_member (codes "default-features") ms) s.default_features

-- The keys `path`, `package` and `version` may be there, but have no effect. Each value must be of
-- the right kind. The value of `version` must be a requirement.
abbrev pub HasIdleKeys : Members → Type 0
HasIdleKeys ms = ((path : Option (List ℕ)) × HoldsValid IsPath string (get_member (codes "path") ms) path) × ((name : Option (List ℕ)) × OptionalMeans string (get_member (codes "package") ms) name)
    × ((version : Option (List ℕ)) × HoldsValid (λ text. is_requirement text ≡ true) string (get_member (codes "version") ms) version)

-- The source of a package's entry is a path, or the workspace if the entry says `workspace = true`.
-- If the source is the workspace, `default-features = true` requests the feature `default`.
abbrev pub IsSource : Members → Source → Type 0
IsSource ms (own.Workspace default) = (get_member (codes "workspace") ms ≡ Some (boolean true)) × HoldsOr false boolean (get_member (codes "default-features") ms) default × HasIdleKeys ms
IsSource ms (own.Path s) = (get_member (codes "workspace") ms ≡ None) × IsPathSource ms s

-- an entry of `[dependencies]` or `[build-dependencies]` describes this dependency; the entry is a
-- table without `git` and `registry`
pub record IsDependencyEntry (name : List ℕ) (ms : Members) (x : Dependency) : Type 0 where
  pub key : x.key ≡ name
  pub letters : is_name name ≡ true
  pub source : IsSource ms x.source
  pub optional : HoldsOr false boolean (get_member (codes "optional") ms) x.optional
  pub features : Lists string (get_member (codes "features") ms) x.features
  pub unsupported : AllByRecursion (λ key. get_member key ms ≡ None) (codes "git" ∷ codes "registry" ∷ [])

-- The source of an entry of `[workspace.dependencies]`. Without a path, or with `git` or
-- `registry`, the source is unsupported. An unsupported source is refused only if a package
-- inherits the entry.
abbrev pub IsSharedSource : Members → WorkspaceSource → Type 0
IsSharedSource ms (shared.Path s) = IsPathSource ms s × (get_member (codes "git") ms ≡ None) × (get_member (codes "registry") ms ≡ None)
IsSharedSource ms shared.Unsupported =
    HasIdleKeys ms × ((default : Option Bool) × OptionalMeans boolean (get_member (codes "default-features") ms) default) × (get_member (codes "git") ms ≡ None → get_member (codes "registry") ms ≡ None → get_member (codes "path") ms ≡ None)

-- an entry of `[workspace.dependencies]` that is a table describes this dependency
pub record IsSharedTable (name : List ℕ) (ms : Members) (x : WorkspaceDependency) : Type 0 where
  pub key : x.key ≡ name
  pub letters : is_name name ≡ true
  pub source : IsSharedSource ms x.source
  pub features : Lists string (get_member (codes "features") ms) x.features
  pub optional : (optional : Option Bool) × OptionalMeans boolean (get_member (codes "optional") ms) optional
  pub taken : (get_member (codes "workspace") ms ≡ None) ⊎ (get_member (codes "workspace") ms ≡ Some (boolean true))

-- an entry of `[workspace.dependencies]` that is only a version describes a dependency without a
-- path
abbrev pub IsSharedVersion : List ℕ → Data → WorkspaceDependency → Type 0
IsSharedVersion name d x = (is_name name ≡ true) × ((text : List ℕ) × (d ≡ string text) × (is_requirement text ≡ true)) × (x ≡ record { key = name; source = shared.Unsupported; features = [] })

abbrev pub IsSharedEntry : List ℕ → Data → WorkspaceDependency → Type 0
IsSharedEntry name d x = OfTable (IsSharedTable name) d x ⊎ IsSharedVersion name d x
