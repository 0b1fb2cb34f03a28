-- What the entries of a package request, and what they inherit from the workspace (The Cargo Book,
-- Specifying Dependencies and Workspaces).
use Rattle.std.specs.Prelude.{ℕ, Bool, false, not, ◌||◌, List, [], ◌∷◌, ◌++◌, Option, Some, None, unwrap_or, Result, Ok, Err}
use Rattle.std.specs.List.{find}
use Rattle.std.specs.Str.{bytes_eq}
use Rattle.pb_data.specs.UnlessOom.{◌>>=◌, some_or}
use Rattle.pb_manifest_types.specs.declared.dependency.Dependency.{Dependency}
use Rattle.pb_manifest_types.specs.declared.dependency.PathSource.{PathSource}
use Rattle.pb_manifest_types.specs.declared.dependency.Source.{Source}
use Rattle.pb_manifest_types.specs.declared.dependency.Source.TheVariants.{Path, Workspace}
use Rattle.pb_manifest_types.specs.declared.dependency.WorkspaceDependency.{WorkspaceDependency}
use Rattle.pb_manifest_types.specs.declared.dependency.WorkspaceSource.{WorkspaceSource}
use Rattle.pb_manifest_types.specs.declared.dependency.WorkspaceSource.TheVariants as shared
use Rattle.pb_manifest_types.specs.declared.fault.ManifestFault.TheVariants.{UnsupportedSource}
use Rattle.pb_workspace_types.specs.declared.fault.LoadFault.{LoadFault}
use Rattle.pb_workspace_types.specs.declared.fault.LoadFault.TheVariants.{Manifest, NoInherited}
use Rattle.pb_workspace_types.specs.declared.package.DependencyKind.{DependencyKind}
use Rattle.pb_workspace_package.specs.declared.wanted.Wanted.{Wanted}
use Rattle.pb_workspace_package.specs.Sources.{resolved}

-- the name at `package` differs from the entry's key
abbrev pub is_renamed : List ℕ → Option (List ℕ) → Bool
is_renamed key None = false
is_renamed key (Some name) = not (bytes_eq name key)

-- what an entry requests; its path starts at the folder `base`
abbrev pub wanted_at : List ℕ → DependencyKind → List ℕ → Bool → Bool → List (List ℕ) → PathSource → Wanted
wanted_at base kind key optional default features source = record {
  key = key;
  kind = kind;
  folder = resolved base source.path;
  name = unwrap_or source.package key;
  version = source.version;
  renamed = is_renamed key source.package;
  optional = optional;
  default_features = default;
  features = features;
}

-- the workspace's entry with this key, if there is one
abbrev pub shared_at : List ℕ → List WorkspaceDependency → Option WorkspaceDependency
shared_at key dependencies = find (λ d. bytes_eq key d.key) dependencies

-- What an entry requests if it inherits a workspace entry. The features of the workspace entry come
-- first, and then the entry's own features. `default` is requested if one of the two entries
-- requests it.
abbrev pub taken_from : List ℕ → List ℕ → DependencyKind → Dependency → Bool → WorkspaceDependency → WorkspaceSource → Result Wanted LoadFault
taken_from root manifest kind d default w (shared.Path source) = Ok (wanted_at root kind d.key d.optional (source.default_features || default) (w.features ++ d.features) source)
taken_from root manifest kind d default w shared.Unsupported = Err (Manifest manifest UnsupportedSource)

-- What an entry of a package requests, given the package's folder and manifest. `given` are the
-- entries of the workspace that the entry may inherit.
abbrev pub wanted_by : List ℕ → List ℕ → List ℕ → List WorkspaceDependency → DependencyKind → Dependency → Source → Result Wanted LoadFault
wanted_by root folder manifest given kind d (Path source) = Ok (wanted_at folder kind d.key d.optional source.default_features d.features source)
wanted_by root folder manifest given kind d (Workspace default) = some_or NoInherited (shared_at d.key given) >>= (λ w. taken_from root manifest kind d default w w.source)

abbrev pub wanted_of : List ℕ → List ℕ → List ℕ → List WorkspaceDependency → DependencyKind → Dependency → Result Wanted LoadFault
wanted_of root folder manifest given kind d = wanted_by root folder manifest given kind d d.source

-- what these entries request, or the first fault
abbrev pub each_wanted : (Dependency → Result Wanted LoadFault) → List Dependency → Result (List Wanted) LoadFault
each_wanted one [] = Ok []
each_wanted one (d ∷ ds) = one d >>= (λ w. each_wanted one ds >>= (λ ws. Ok (w ∷ ws)))
