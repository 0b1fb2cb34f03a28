-- The keys that the rules name, as a manifest spells them.
use Rattle.std.specs.Prelude.{ℕ, List, codes}
use Rattle.pb_profile_keys.specs.Table.{row}
use Rattle.pb_manifest_types.specs.declared.key.Key.{Key}
use Rattle.pb_manifest_types.specs.declared.key.Key.TheVariants as key

-- the spelling of a key in a manifest
unfoldable pub spelled : Key → List ℕ
spelled key.Authors = codes "authors"
spelled key.Autobins = codes "autobins"
spelled key.Bin = codes "bin"
spelled key.Build = codes "build"
spelled key.BuildDependencies = codes "build-dependencies"
spelled key.BuildOverride = codes "build-override"
spelled key.CrateType = codes "crate-type"
spelled key.DefaultFeatures = codes "default-features"
spelled key.DefaultMembers = codes "default-members"
spelled key.Dependencies = codes "dependencies"
spelled key.Description = codes "description"
spelled key.DevDependencies = codes "dev-dependencies"
spelled key.Edition = codes "edition"
spelled key.Exclude = codes "exclude"
spelled key.Features = codes "features"
spelled key.Git = codes "git"
spelled key.Homepage = codes "homepage"
spelled key.Inherits = codes "inherits"
spelled key.Lib = codes "lib"
spelled key.License = codes "license"
spelled key.LicenseFile = codes "license-file"
spelled key.Links = codes "links"
spelled key.Members = codes "members"
spelled key.Name = codes "name"
spelled (key.OfProfile k) = (row k).name
spelled key.Optional = codes "optional"
spelled key.Package = codes "package"
spelled key.Patch = codes "patch"
spelled key.Path = codes "path"
spelled key.ProcMacro = codes "proc-macro"
spelled key.Profile = codes "profile"
spelled key.Readme = codes "readme"
spelled key.Registry = codes "registry"
spelled key.Replace = codes "replace"
spelled key.Repository = codes "repository"
spelled key.RequiredFeatures = codes "required-features"
spelled key.Resolver = codes "resolver"
spelled key.RustVersion = codes "rust-version"
spelled key.Target = codes "target"
spelled key.Version = codes "version"
spelled key.Workspace = codes "workspace"
