-- Which keys of a table can change the result of reading the table (The Cargo Book, Manifest
-- Format, Workspaces, Specifying Dependencies, Profiles).
use Rattle.std.specs.Prelude.{◌≡◌, List, [], ◌∷◌, map}
use Rattle.std.specs.List.{AllByRecursion}
use Rattle.toml.specs.Data.{Members}
use Rattle.pb_profile_keys.specs.Table.{keys}
use Rattle.pb_manifest_types.specs.Values.{Read}
use Rattle.pb_manifest.specs.Values.{value_at}
use Rattle.pb_manifest_types.specs.declared.key.Key.{Key}
use Rattle.pb_manifest_types.specs.declared.key.Key.TheVariants as key

-- two tables have the same values at these keys
abbrev pub SameAt : List Key → Members → Members → Type 0
SameAt keys ms ns = AllByRecursion (λ k. value_at k ms ≡ value_at k ns) keys

-- Reading a table looks at these keys only. So if two tables have the same values at these keys,
-- reading them has the same result.
abbrev pub DependsOnlyOn : {A : Type 0} → List Key → (Members → Read A) → Type 0
DependsOnlyOn keys read = (ms ns : Members) → SameAt keys ms ns → read ms ≡ read ns

-- the keys of `[package]`
abbrev pub of_package : List Key
of_package =
    key.Authors ∷ key.Autobins ∷ key.Build ∷ key.Description ∷ key.Edition ∷ key.Homepage ∷ key.License ∷ key.LicenseFile ∷ key.Links ∷ key.Name ∷ key.Readme ∷ key.Repository
    ∷ key.Resolver ∷ key.RustVersion ∷ key.Version ∷ []

-- the keys of `[lib]`
abbrev pub of_library : List Key
of_library = key.CrateType ∷ key.Name ∷ key.Path ∷ key.ProcMacro ∷ []

-- the keys of a table `[[bin]]`
abbrev pub of_binary : List Key
of_binary = key.Name ∷ key.Path ∷ key.RequiredFeatures ∷ []

-- the keys of an entry in a table of dependencies
abbrev pub of_dependency : List Key
of_dependency = key.DefaultFeatures ∷ key.Features ∷ key.Git ∷ key.Optional ∷ key.Package ∷ key.Path ∷ key.Registry ∷ key.Version ∷ key.Workspace ∷ []

-- the keys with which a profile or an override sets something
abbrev pub of_settings : List Key
of_settings = map key.OfProfile keys

-- the keys of a profile
abbrev pub of_profile : List Key
of_profile = key.BuildOverride ∷ key.Inherits ∷ key.Package ∷ of_settings

-- the keys of `[workspace]`
abbrev pub of_workspace : List Key
of_workspace = key.DefaultMembers ∷ key.Dependencies ∷ key.Exclude ∷ key.Members ∷ key.Package ∷ key.Resolver ∷ []

-- the keys of `[workspace.package]`
abbrev pub of_inherited : List Key
of_inherited =
    key.Authors ∷ key.Description ∷ key.Edition ∷ key.Homepage ∷ key.License ∷ key.LicenseFile ∷ key.Readme ∷ key.Repository ∷ key.RustVersion ∷ key.Version ∷ []

-- the keys of the whole document
abbrev pub of_document : List Key
of_document =
    key.Bin ∷ key.BuildDependencies ∷ key.Dependencies ∷ key.DevDependencies ∷ key.Features ∷ key.Lib ∷ key.Package ∷ key.Patch ∷ key.Profile ∷ key.Replace ∷ key.Target ∷ key.Workspace ∷ []
