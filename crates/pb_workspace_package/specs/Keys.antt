-- How the keys of a package are settled. These definitions are about one package, and about what
-- the package can inherit from its workspace.
use Rattle.std.specs.Prelude.{ℕ, List, Result, Ok}
use Rattle.pb_data.specs.UnlessOom.{◌>>=◌}
use Rattle.pb_place_types.specs.World.{World}
use Rattle.pb_manifest_types.specs.declared.manifest.WorkspacePackage.{WorkspacePackage}
use Rattle.pb_manifest_types.specs.declared.package.Package.{Package}
use Rattle.pb_workspace_types.specs.declared.fault.LoadFault.{LoadFault}
use Rattle.pb_workspace_package.specs.declared.keys.Keys.{Keys}
use Rattle.pb_workspace_package.specs.declared.wanted.PackageLocation.{PackageLocation}
use Rattle.pb_workspace_package.specs.Settling.{readme_found}
use Rattle.pb_workspace_package.specs.Taken.{about_of, own_or_given}

-- the settled keys of a package, given the README that was found in its folder
abbrev pub keys_from : PackageLocation → WorkspacePackage → List ℕ → Package → Result Keys LoadFault
keys_from at given readme p =
    own_or_given p.version given.version >>= (λ version.
    own_or_given p.edition given.edition >>= (λ edition.
    about_of at.root at.folder readme p given >>= (λ about.
    Ok record { name = p.name; version = version; edition = edition; about = about; links = p.links; autobins = p.autobins; build = p.build })))

-- the settled keys of a package: what the package's manifest writes, what the package inherits, and
-- what the package's folder contains
abbrev pub keys_of : World → PackageLocation → WorkspacePackage → Package → Result Keys LoadFault
keys_of sources at given p = keys_from at given (readme_found at.folder sources p.readme) p
