-- Why 257 rounds are enough, and which folders contain the packages of a workspace (The Cargo Book,
-- Workspaces and Specifying Dependencies). The definitions of folders are only used in proofs.
-- `Folders` of `pb_workspace_laws` defines package folders independently. `sources` is the world
-- without the files at or below the target folder. `f` is what the root manifest says about its
-- workspace.
use Rattle.std.specs.Prelude.{◌≡◌, ℕ, ◌+◌, ◌≤◌, List, length, Option, Some, Ok, Result, Contains}
use Rattle.pb_data.specs.Limits.{max_packages}
use Rattle.pb_place_types.specs.Paths.{folder_of}
use Rattle.pb_place_types.specs.World.{World}
use Rattle.pb_manifest_types.specs.declared.package.Package.{Package as WrittenPackage}
use Rattle.pb_graph.specs.Closure.{Reached}
use Rattle.pb_workspace_package.specs.declared.unresolved_package.UnresolvedPackage.{UnresolvedPackage}
use Rattle.pb_workspace_types.specs.declared.fault.LoadFault.{LoadFault}
use Rattle.pb_workspace.specs.declared.workspace_root.WorkspaceRoot.{WorkspaceRoot}
use Rattle.pb_workspace.specs.declared.rounds.Parts.{Parts}
use Rattle.pb_workspace.specs.declared.rounds.LoadState.{LoadState}
use Rattle.pb_workspace_package.specs.declared.wanted.Wanted.{Wanted}
use Rattle.pb_workspace.specs.Frames.{frame_of, is_member}
use Rattle.pb_workspace.specs.MemberFolders.{folders_meant, member_folders}
use Rattle.pb_workspace.specs.Rounds.{draft_in_file, rounds, standing_in}

-- the package of a folder, as the manifest in this folder describes it
abbrev pub package_in : World → WorkspaceRoot → List ℕ → Result UnresolvedPackage LoadFault
package_in sources f folder = draft_in_file sources f (is_member f (member_folders sources f) folder) (standing_in f folder)

-- an entry of the package in the folder `from` leads to the folder `to`
pub record LeadsTo (sources : World) (f : WorkspaceRoot) (from to : List ℕ) : Type 0 where
  pub owner : UnresolvedPackage
  pub entry : Wanted
  pub package_at : package_in sources f from ≡ Ok owner
  pub is_there : Contains owner.wanted entry
  pub leads : entry.folder ≡ to

-- The folder contains the root package, or a text of `members` means this folder.
pub data IsRootOrMember (sources : World) (f : WorkspaceRoot) (found : Option WrittenPackage) : List ℕ → Type 0 where
  root : (p : WrittenPackage) (is : found ≡ Some p) → IsRootOrMember sources f found f.root
  member : (text folder : List ℕ) (written : Contains f.members text) (means : Contains (folders_meant sources f text) folder) → IsRootOrMember sources f found folder

-- The least set of folders that contains the folders of the root package and of the members. If a
-- package's folder is in the set, each folder to which an entry of this package leads is in the
-- set, too.
abbrev pub IsPackageFolder : World → WorkspaceRoot → Option WrittenPackage → List ℕ → Type 0
IsPackageFolder sources f found = Reached (IsRootOrMember sources f found) (LeadsTo sources f)

-- what this root manifest says about the workspace
abbrev pub frame_at : List ℕ → Parts → WorkspaceRoot
frame_at manifest parts = frame_of (folder_of manifest) manifest parts.workspace

-- 257 rounds are enough, because at most 256 packages are read. More rounds would read the same
-- packages, or end with the same fault.
abbrev pub FuelIsEnough : Type 0
FuelIsEnough = (read : List ℕ → Result UnresolvedPackage LoadFault) (r : LoadState) (more : ℕ) → length r.found ≤ max_packages → rounds (257 + more) read r ≡ rounds 257 read r
