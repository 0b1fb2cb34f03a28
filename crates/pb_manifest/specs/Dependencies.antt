-- How the tables of dependencies are read (The Cargo Book, Specifying Dependencies and Workspaces).
use Rattle.std.specs.Prelude.{List, [], Bool, true, false, not, ◌&&◌, ◌||◌, if◌then◌else◌, Option, Some, None, Ok, Err, unwrap_or}
use Rattle.toml.specs.Data.{Data, Members, as_str, as_table}
use Rattle.pb_data.specs.UnlessOom.{◌>>=◌}
use Rattle.pb_manifest_types.specs.Letters.{is_name}
use Rattle.pb_manifest_types.specs.Values.{Text, Read}
use Rattle.pb_manifest.specs.Values.{has, value_at, text_at, truth_at, path_at, listed_texts_at, is_true, takes_workspace, entries_at}
use Rattle.pb_manifest_types.specs.Versions.{requirement_in}
use Rattle.pb_manifest.specs.Versions.{requirement_at}
use Rattle.pb_manifest_types.specs.declared.key.Key.{Key}
use Rattle.pb_manifest_types.specs.declared.key.Key.TheVariants as key
use Rattle.pb_manifest_types.specs.declared.fault.ManifestFault.TheVariants.{BadKind, BadName, UnsupportedSource}
use Rattle.pb_manifest_types.specs.declared.dependency.PathSource.{PathSource}
use Rattle.pb_manifest_types.specs.declared.dependency.Source.{Source}
use Rattle.pb_manifest_types.specs.declared.dependency.Source.TheVariants as own
use Rattle.pb_manifest_types.specs.declared.dependency.WorkspaceSource.{WorkspaceSource}
use Rattle.pb_manifest_types.specs.declared.dependency.WorkspaceSource.TheVariants as shared
use Rattle.pb_manifest_types.specs.declared.dependency.Dependency.{Dependency}
use Rattle.pb_manifest_types.specs.declared.dependency.WorkspaceDependency.{WorkspaceDependency}
use Rattle.pb_manifest.specs.declared.entry.FirstKeys.{FirstKeys}
use Rattle.pb_manifest.specs.declared.entry.LastKeys.{LastKeys}

-- a source is refused if it is unsupported
abbrev pub refused_where : Bool → Read (Unit {0})
refused_where true = Err UnsupportedSource
refused_where false = Ok tt

-- the key `workspace` may be missing, but if it is there, its value must be `true`
abbrev pub workspace_in : Option Data → Bool → Read (Unit {0})
workspace_in None taken = Ok tt
workspace_in (Some d) taken = if taken then Ok tt else Err (BadKind key.Workspace)

abbrev pub workspace_at : Members → Read (Unit {0})
workspace_at ms = workspace_in (value_at key.Workspace ms) (takes_workspace ms)

-- The values of `default-features`, `features`, `optional` and `package`. The key `git` is refused,
-- unless `keeps` is true.
abbrev pub first_keys : Bool → Members → Read FirstKeys
first_keys keeps ms =
    truth_at key.DefaultFeatures ms >>= (λ default_features.
    listed_texts_at key.Features ms >>= (λ features.
    refused_where (has key.Git ms && not keeps) >>= (λ git.
    truth_at key.Optional ms >>= (λ optional.
    text_at key.Package ms >>= (λ renamed.
    Ok record { default_features = default_features; features = features; optional = is_true optional; «package» = renamed })))))

-- The value of `version`. The value of `workspace` is checked after `version`.
abbrev pub version_and_workspace : Members → Read (Option Text)
version_and_workspace ms =
    requirement_at ms >>= (λ version.
    workspace_at ms >>= (λ inherited.
    Ok version))

-- The path of a package's own entry. With `workspace = true` a written path has no effect. Without
-- `workspace = true` a path is required.
abbrev pub own_path : Bool → Option Text → Read (Option Text)
own_path true path = Ok None
own_path false None = Err UnsupportedSource
own_path false (Some path) = Ok (Some path)

-- The values of `path` and `version` in a package's own entry. The key `registry` is refused, and
-- the value of `workspace` is checked.
abbrev pub last_keys : Members → Read LastKeys
last_keys ms =
    path_at key.Path ms >>= (λ written.
    own_path (takes_workspace ms) written >>= (λ path.
    refused_where (has key.Registry ms) >>= (λ registry.
    version_and_workspace ms >>= (λ version.
    Ok record { path = path; version = version }))))

-- The path of an entry of `[workspace.dependencies]`, which may have no path. If the entry has
-- `git` or `registry`, a path has no effect.
abbrev pub supported_path : Members → Option Text → Option Text
supported_path ms path = if has key.Git ms || has key.Registry ms then None else path

abbrev pub shared_keys : Members → Read LastKeys
shared_keys ms =
    path_at key.Path ms >>= (λ path.
    version_and_workspace ms >>= (λ version.
    Ok record { path = supported_path ms path; version = version }))

-- The source of a package at a path. The package's feature `default` is requested unless the entry
-- says `default-features = false`.
abbrev pub at_path : Option Bool → Option Text → Option Text → Text → PathSource
at_path default_features renamed version path = record { path = path; «package» = renamed; version = version; default_features = unwrap_or default_features true }

-- the source of a package's own entry: the entry's path if there is one, and otherwise the
-- workspace
abbrev pub source_of : Option Bool → Option Text → Option Text → Option Text → Source
source_of default_features renamed version None = own.Workspace (is_true default_features)
source_of default_features renamed version (Some path) = own.Path (at_path default_features renamed version path)

-- the source of an entry of `[workspace.dependencies]`: the entry's path if there is one; otherwise
-- the source is unsupported
abbrev pub shared_source_of : Option Bool → Option Text → Option Text → Option Text → WorkspaceSource
shared_source_of default_features renamed version None = shared.Unsupported
shared_source_of default_features renamed version (Some path) = shared.Path (at_path default_features renamed version path)

-- a package's own entry that is a table; its keys are read in byte order
abbrev pub dependency_keys : Text → Members → Read Dependency
dependency_keys name ms =
    first_keys false ms >>= (λ a.
    last_keys ms >>= (λ b.
    Ok record { key = name; source = source_of a.default_features a.package b.version b.path; optional = a.optional; features = a.features }))

-- A package's own entry, written as a version or as a table. An entry that is written as a version
-- is refused, because it has no path.
abbrev pub dependency_from : Key → Text → Option Text → Option Members → Read Dependency
dependency_from k name (Some version) found = Err UnsupportedSource
dependency_from k name None (Some ms) = dependency_keys name ms
dependency_from k name None None = Err (BadKind k)

-- An entry of the table at a key. The entry's own key is checked first, and then its content.
unfoldable pub dependency_of : Key → Text → Data → Read Dependency
dependency_of k name d = if is_name name then dependency_from k name (as_str d) (as_table d) else Err BadName

-- the entries of `[dependencies]` or `[build-dependencies]`, read in byte order of their keys
abbrev pub dependencies_at : Key → Members → Read (List Dependency)
dependencies_at k ms = entries_at (dependency_of k) k ms

-- an entry of `[workspace.dependencies]` that is written as a table
abbrev pub shared_dependency_keys : Text → Members → Read WorkspaceDependency
shared_dependency_keys name ms =
    first_keys true ms >>= (λ a.
    shared_keys ms >>= (λ b.
    Ok record { key = name; source = shared_source_of a.default_features a.package b.version b.path; features = a.features }))

-- an entry of `[workspace.dependencies]` that is written as a version
abbrev pub shared_version : Text → Text → Read WorkspaceDependency
shared_version name version = requirement_in version >>= (λ requirement. Ok record { key = name; source = shared.Unsupported; features = [] })

abbrev pub shared_dependency_from : Text → Option Text → Option Members → Read WorkspaceDependency
shared_dependency_from name (Some version) found = shared_version name version
shared_dependency_from name None (Some ms) = shared_dependency_keys name ms
shared_dependency_from name None None = Err (BadKind key.Dependencies)

-- An entry of `[workspace.dependencies]`. The entry's key is checked first, and then its content.
unfoldable pub shared_dependency_of : Text → Data → Read WorkspaceDependency
shared_dependency_of name d = if is_name name then shared_dependency_from name (as_str d) (as_table d) else Err BadName

-- the entries of `[workspace.dependencies]`, read in byte order of their keys
abbrev pub shared_dependencies_at : Members → Read (List WorkspaceDependency)
shared_dependencies_at ms = entries_at shared_dependency_of key.Dependencies ms
