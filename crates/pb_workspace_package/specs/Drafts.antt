-- A package as a whole. The package's manifest and folder describe the package, and the package
-- inherits from its workspace (The Cargo Book, Manifest Format and Workspaces). `sources` is the
-- world without the files at or below the target folder.
use Rattle.std.specs.Prelude.{ℕ, Bool, List, Result, Ok}
use Rattle.pb_data.specs.UnlessOom.{◌>>=◌}
use Rattle.pb_place_types.specs.World.{World}
use Rattle.pb_manifest_types.specs.declared.dependency.Dependency.{Dependency}
use Rattle.pb_manifest_types.specs.declared.feature.Feature.{Feature}
use Rattle.pb_manifest_types.specs.declared.package.Package.{Package}
use Rattle.pb_manifest_types.specs.declared.target.Binary.{Binary as WrittenBinary}
use Rattle.pb_workspace_package.specs.declared.unresolved_package.UnresolvedPackage.{UnresolvedPackage}
use Rattle.pb_workspace_package.specs.declared.unresolved_package.Lists.{Lists}
use Rattle.pb_workspace_package.specs.declared.unresolved_package.Tables.{Tables}
use Rattle.pb_workspace_types.specs.declared.fault.LoadFault.{LoadFault}
use Rattle.pb_workspace_package.specs.declared.keys.Keys.{Keys}
use Rattle.pb_workspace_package.specs.declared.settling.Given.{Given}
use Rattle.pb_workspace_package.specs.declared.settling.Targets.{Targets}
use Rattle.pb_workspace_package.specs.declared.wanted.PackageLocation.{PackageLocation}
use Rattle.pb_workspace_package.specs.Features.{features_of}
use Rattle.pb_workspace_package.specs.Keys.{keys_of}
use Rattle.pb_workspace_package.specs.Settling.{has_same_binaries, targets_of, wanted_in}

-- the entries and features of a manifest, or the first fault of an entry
abbrev pub lists_of : PackageLocation → Given → List Dependency → List Dependency → List Feature → List WrittenBinary → Result Lists LoadFault
lists_of at given dependencies build features binaries =
    wanted_in at given dependencies build >>= (λ wanted.
    Ok record { wanted = wanted; features = features_of features dependencies build; has_same_binaries = has_same_binaries binaries })

-- the package with these parts
abbrev pub draft_from : PackageLocation → Bool → Keys → Lists → List (List ℕ) → Targets → UnresolvedPackage
draft_from at is_member keys lists development targets = record {
  folder = at.folder;
  manifest = at.manifest;
  is_member = is_member;
  name = keys.name;
  version = keys.version;
  edition = keys.edition;
  about = keys.about;
  links = keys.links;
  library = targets.library;
  binaries = targets.binaries;
  script = targets.script;
  wanted = lists.wanted;
  features = lists.features;
  development = development;
  has_same_binaries = lists.has_same_binaries;
}

-- the package, given its settled keys, or the first fault of an entry
unfoldable pub draft_with : World → PackageLocation → Bool → Given → Tables → Keys → Result UnresolvedPackage LoadFault
draft_with sources at is_member given t keys =
    lists_of at given t.dependencies t.build_dependencies t.features t.binaries >>= (λ lists.
    Ok (draft_from at is_member keys lists t.dev_dependencies (targets_of at.folder sources keys.name keys.autobins keys.build t.library t.binaries)))

-- The package that a manifest describes, or its first fault. The keys are settled first, and then
-- the entries.
unfoldable pub draft_of : World → PackageLocation → Bool → Given → Package → Tables → Result UnresolvedPackage LoadFault
draft_of sources at is_member given p t = keys_of sources at given.package p >>= (λ keys. draft_with sources at is_member given t keys)
