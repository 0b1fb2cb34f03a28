-- Laws of workspaces. The manifests and folders determine a workspace.
use Rattle.std.specs.Prelude.{◌≡◌, ◌↔◌, ℕ, true, codes, List, map, Some, Ok, Contains}
use Rattle.std.specs.List.{position}
use Rattle.std.specs.Str.{bytes_eq}
use Rattle.pb_manifest_types.specs.declared.manifest.Manifest.{Manifest}
use Rattle.pb_manifest_types.specs.declared.package.Package.{Package as Written}
use Rattle.pb_workspace_types.specs.Settled.{IsAscending, IsSettled}
use Rattle.pb_workspace_types.specs.declared.package.Package.{Package}
use Rattle.pb_workspace_types.specs.declared.workspace.Workspace.{Workspace}
use Rattle.pb_place_types.specs.Paths.{below, folder_of, is_path}
use Rattle.pb_place_types.specs.World.{World, from_nothing, FilesHavePaths}
use Rattle.pb_workspace.specs.Assembled.{default_members_of}
use Rattle.pb_workspace.specs.Frames.{frame_of, given_to}
use Rattle.pb_workspace.specs.Loaded.{workspace_of}
use Rattle.pb_workspace.specs.declared.workspace_root.WorkspaceRoot.{WorkspaceRoot}
use Rattle.pb_workspace_laws.specs.Binaries.{HasBinaries}
use Rattle.pb_workspace_laws.specs.Files.{IsManifestAt}
use Rattle.pb_workspace_laws.specs.Folders.{IsPackageFolder}
use Rattle.pb_workspace_laws.specs.Members.{IsMember}
use Rattle.pb_workspace_laws.specs.Packages.{IsPackageOf}

-- The package is what the manifest and the files in its folder describe. A member inherits from its
-- workspace. `f` is what the root manifest says about that workspace.
pub record IsOfItsFolder (sources : World) (f : WorkspaceRoot) (ws : Workspace) (p : Package) : Type 0 where
  pub manifest : p.manifest ≡ below p.folder (codes "Cargo.toml")
  pub own : Manifest
  pub read : IsManifestAt sources p.manifest own
  pub written : Written
  pub is_package : own.package ≡ Some written
  pub member : (p.is_member ≡ true) ↔ IsMember sources f p.folder
  pub says : IsPackageOf sources f.root (given_to f p.is_member) ws own written p
  pub binaries : FilesHavePaths sources → HasBinaries sources own written p

-- what a root manifest says about its workspace
abbrev pub frame_in : List ℕ → Manifest → WorkspaceRoot
frame_in manifest r = frame_of (folder_of manifest) manifest r.workspace

-- `ws` is a workspace of the root manifest `r`, which is at this path. The root package is the
-- package in the root folder.
pub record IsWorkspaceOf (sources : World) (manifest : List ℕ) (r : Manifest) (ws : Workspace) : Type 0 where
  pub read : IsManifestAt sources manifest r
  pub root : ws.root ≡ folder_of manifest
  pub order : IsAscending (map (λ (p : Package). p.folder) ws.packages)
  pub folders : (folder : List ℕ) → Contains (map (λ (p : Package). p.folder) ws.packages) folder ↔ IsPackageFolder sources (frame_in manifest r) r folder
  pub packages : (p : Package) → Contains ws.packages p → IsOfItsFolder sources (frame_in manifest r) ws p
  pub root_package : ws.root_package ≡ position (λ (p : Package). bytes_eq p.folder ws.root) ws.packages
  pub default_members : ws.default_members ≡ default_members_of ws.root ws.packages (frame_in manifest r).default_members
  pub profiles : ws.profiles ≡ r.profiles

abbrev pub WorkspacesAreRead : Type 0
WorkspacesAreRead = (manifest target : List ℕ) (w : World) (ws : Workspace) → is_path manifest ≡ true → workspace_of manifest target w ≡ Ok ws
    → (ws.target ≡ target) × ((r : Manifest) × IsWorkspaceOf (from_nothing target w) manifest r ws)

-- Let each file of the sources have a normalised absolute path. A root manifest then has at most
-- one workspace with a given target folder.
abbrev pub WorkspacesAreOne : Type 0
WorkspacesAreOne = (sources : World) (manifest : List ℕ) (r s : Manifest) (v w : Workspace) → FilesHavePaths sources → IsWorkspaceOf sources manifest r v → IsWorkspaceOf sources manifest s w → v.target ≡ w.target → v ≡ w

-- A workspace that was read is settled, if the path of its manifest is a normalised absolute path.
-- So the names in the workspace have valid letters, and its entries lead to packages.
abbrev pub AllAreSettled : Type 0
AllAreSettled = (manifest target : List ℕ) (w : World) (ws : Workspace) → is_path manifest ≡ true → workspace_of manifest target w ≡ Ok ws → IsSettled ws
