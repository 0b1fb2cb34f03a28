-- What is true whenever packages are read, whatever the files contain, and what a root manifest
-- promises about its workspace. We need these definitions to promise that each workspace is settled
-- once it is read.
use Rattle.std.specs.Prelude.{◌≡◌, ℕ, ◌≤◌, true, All, IfSome, List, map, length, Option}
use Rattle.std.specs.List.{AllByRecursion}
use Rattle.pb_data.specs.Limits.{max_packages}
use Rattle.pb_manifest_types.specs.Letters.{is_name}
use Rattle.pb_manifest_types.specs.declared.dependency.WorkspaceDependency.{WorkspaceDependency}
use Rattle.pb_manifest_types.specs.declared.manifest.WorkspaceTable.{WorkspaceTable}
use Rattle.pb_manifest_types.specs.declared.package.Package.{Package}
use Rattle.pb_workspace_package.specs.declared.unresolved_package.UnresolvedPackage.{UnresolvedPackage}
use Rattle.pb_workspace_package.specs.declared.unresolved_package.Tables.{Tables}
use Rattle.pb_workspace.specs.declared.rounds.LoadState.{LoadState}
use Rattle.pb_workspace_types.specs.Settled.{IsAscending}
use Rattle.pb_workspace_package.specs.Drafted.{ArePromised, IsDraft}

-- the entries of `[workspace.dependencies]` are in byte order of their keys, without repeats
abbrev pub HasSharedInOrder : WorkspaceTable → Type 0
HasSharedInOrder w = IsAscending (map (λ (d : WorkspaceDependency). d.key) w.dependencies)

-- what is promised about each manifest that was read: about the manifest's `[package]`, if there is
-- one, and about the manifest's other tables
pub record ManifestsAreRead (tables : Tables) (found : Option Package) : Type 0 where
  pub named : IfSome found (λ p. is_name p.name ≡ true)
  pub binaries : All (λ b. is_name b.name ≡ true) tables.binaries
  pub promised : ArePromised tables

-- a package is stored under the package's own folder, and `IsDraft` is true of the package
abbrev pub IsStoredAt : List ℕ × UnresolvedPackage → Type 0
IsStoredAt e = (e.1.folder ≡ e.0) × IsDraft e.1

abbrev pub IsReading : LoadState → Type 0
IsReading r = (length r.found ≤ max_packages) × AllByRecursion IsStoredAt r.found
