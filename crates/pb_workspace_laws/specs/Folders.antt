-- Which folders contain the packages of a workspace (The Cargo Book, Workspaces and Specifying
-- Dependencies). `f` is what the root manifest `r` says about its workspace.
use Rattle.std.specs.Prelude.{◌≡◌, ℕ, Bool, codes, List, ◌++◌, Some, Contains}
use Rattle.pb_graph.specs.Closure.{Reached}
use Rattle.pb_manifest_types.specs.declared.dependency.Dependency.{Dependency}
use Rattle.pb_manifest_types.specs.declared.dependency.PathSource.{PathSource}
use Rattle.pb_manifest_types.specs.declared.manifest.Manifest.{Manifest}
use Rattle.pb_manifest_types.specs.declared.package.Package.{Package as Written}
use Rattle.pb_place_types.specs.Paths.{below}
use Rattle.pb_place_types.specs.World.{World}
use Rattle.pb_workspace.specs.MemberFolders.{folders_meant}
use Rattle.pb_workspace.specs.declared.workspace_root.WorkspaceRoot.{WorkspaceRoot}
use Rattle.pb_workspace_laws.specs.Files.{IsManifestAt}
use Rattle.pb_workspace_laws.specs.Packages.{RequestsPackage}

-- Either a text of `members` means this folder, or the folder is the root folder and the root
-- manifest describes a package.
pub data IsRootOrMember (sources : World) (f : WorkspaceRoot) (r : Manifest) (folder : List ℕ) : Type 0 where
  root : (w : Written) (is_package : r.package ≡ Some w) (is : folder ≡ f.root) → IsRootOrMember sources f r folder
  member : (text : List ℕ) (written : Contains f.members text) (means : Contains (folders_meant sources f text) folder) → IsRootOrMember sources f r folder

-- a dependency in the manifest of the folder `from` requests the package in the folder `to`
pub record LeadsTo (sources : World) (f : WorkspaceRoot) (from to : List ℕ) : Type 0 where
  pub own : Manifest
  pub read : IsManifestAt sources (below from (codes "Cargo.toml")) own
  pub d : Dependency
  pub is_there : Contains (own.dependencies ++ own.build_dependencies) d
  pub s : PathSource
  pub default : Bool
  pub features : List (List ℕ)
  pub asks : RequestsPackage f.root from f.given.dependencies d to s default features

-- The least set of folders that contains the folders of the root package and of the members. If a
-- package's folder is in the set, so is the folder of each path dependency of this package.
abbrev pub IsPackageFolder : World → WorkspaceRoot → Manifest → List ℕ → Type 0
IsPackageFolder sources f r = Reached (IsRootOrMember sources f r) (LeadsTo sources f)
