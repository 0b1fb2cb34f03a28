-- Which calls are made to read a workspace, in order, up to the first refusal. Each call has its
-- path. The order is our own choice if The Cargo Book defines no order. `sources` is the world
-- without the files at or below the target folder.
use Rattle.std.specs.Prelude.{ℕ, zero, suc, nat_le, if◌then◌else◌, codes, List, [], ◌∷◌, ◌++◌, length, Option, Some, None, Result}
use Rattle.std.specs.List.{flat_map}
use Rattle.std.specs.Str.{bytes_eq}
use Rattle.pb_data.specs.Limits.{max_packages}
use Rattle.pb_place_types.specs.declared.call.Call.{Call}
use Rattle.pb_place_types.specs.declared.call.Call.TheVariants as call
use Rattle.pb_place_types.specs.Paths.{below, folder_of}
use Rattle.pb_place_types.specs.World.{World, from_nothing}
use Rattle.pb_manifest_types.specs.declared.package.Package.{Package}
use Rattle.pb_workspace_types.specs.declared.fault.LoadFault.{LoadFault}
use Rattle.pb_workspace_package.specs.declared.unresolved_package.UnresolvedPackage.{UnresolvedPackage}
use Rattle.pb_workspace_package.specs.declared.unresolved_package.Tables.{Tables}
use Rattle.pb_workspace.specs.declared.workspace_root.WorkspaceRoot.{WorkspaceRoot}
use Rattle.pb_workspace.specs.declared.member.Part.{Part}
use Rattle.pb_workspace.specs.declared.rounds.LoadState.{LoadState}
use Rattle.pb_workspace_package.specs.declared.wanted.PackageLocation.{PackageLocation}
use Rattle.pb_workspace.specs.ByFolder.{folders_of, has}
use Rattle.pb_workspace.specs.Frames.{frame_of}
use Rattle.pb_workspace.specs.Globs.{is_glob}
use Rattle.pb_workspace.specs.Loaded.{root_parts, root_read}
use Rattle.pb_workspace.specs.MemberFolders.{folders_kept, is_fixed, is_manifest, kept_step, member_folders}
use Rattle.pb_workspace.specs.Members.{parts_meant}
use Rattle.pb_workspace.specs.Rounds.{all_read, draft_at, one_read, parts_at, round, standing_in}
use Rattle.pb_workspace_package.specs.Looks.{after, listings_at, looked}

-- the calls for the folder of a manifest's package, or no calls if the manifest has no package
abbrev pub package_looked : List ℕ → List ℕ → Option Package → List Call
package_looked target folder None = []
package_looked target folder (Some p) = listings_at target folder

-- the calls for the package at a location: the call that reads the manifest, and then the calls for
-- the package's folder
unfoldable pub file_looked : List ℕ → World → PackageLocation → List Call
file_looked target sources at = looked target (call.Read at.manifest) ++ after (parts_at sources at.manifest) (λ parts. package_looked target at.folder parts.found)

-- the calls for the package in a folder; the root's manifest is not read again
unfoldable pub folder_looked : List ℕ → World → WorkspaceRoot → List ℕ → List Call
folder_looked target sources f folder = if bytes_eq folder f.root then [] else file_looked target sources (standing_in f folder)

-- The calls for one folder. If the folder's package was read already, or if 256 packages were read,
-- there are no calls.
abbrev pub one_looked : (List ℕ → List Call) → LoadState → List ℕ → List Call
one_looked look r folder = if has folder r.found then [] else (if nat_le max_packages (length r.found) then [] else look folder)

abbrev pub all_looked : (List ℕ → Result UnresolvedPackage LoadFault) → (List ℕ → List Call) → LoadState → List (List ℕ) → List Call
all_looked read look r [] = []
all_looked read look r (folder ∷ folders) = one_looked look r folder ++ after (one_read read r folder) (λ now. all_looked read look now folders)

abbrev pub round_looked : (List ℕ → Result UnresolvedPackage LoadFault) → (List ℕ → List Call) → LoadState → List Call
round_looked read look r = all_looked read look (record { found = r.found; ahead = [] }) (folders_of r.ahead)

unfoldable pub rounds_looked : ℕ → (List ℕ → Result UnresolvedPackage LoadFault) → (List ℕ → List Call) → LoadState → List Call
rounds_looked zero read look r = []
rounds_looked (suc n) read look r = round_looked read look r ++ after (round read r) (λ now. rounds_looked n read look now)

-- the calls for a part of a glob in one folder: no call for a fixed part, else one call that lists
-- the folders
abbrev pub step_looked : List ℕ → Part → List ℕ → List Call
step_looked target part folder = if is_fixed part then [] else looked target (call.ListFolders folder target)

-- The calls for the parts of a glob, part by part. For each part there are calls in all folders to
-- which the earlier parts lead.
abbrev pub walk_looked : List ℕ → World → WorkspaceRoot → List Part → List (List ℕ) → List Call
walk_looked target sources f [] folders = []
walk_looked target sources f (part ∷ parts) folders = flat_map (step_looked target part) folders ++ walk_looked target sources f parts (flat_map (kept_step sources f part) folders)

-- the call that asks whether a folder has a manifest
abbrev pub manifest_looked : List ℕ → List ℕ → List Call
manifest_looked target folder = looked target (call.IsFile (below folder (codes "Cargo.toml")))

-- The calls for a glob. The glob is walked first. Then, for each folder to which the glob leads,
-- one call asks whether the folder has a manifest. Folders at or below a folder of `exclude` are
-- left out.
abbrev pub glob_looked : List ℕ → World → WorkspaceRoot → List Part → List Call
glob_looked target sources f parts = walk_looked target sources f parts (codes "/" ∷ []) ++ flat_map (manifest_looked target) (folders_kept sources f parts)

-- the calls for a text of `members`; a text without `*` and `?` needs no call
abbrev pub text_looked : List ℕ → World → WorkspaceRoot → List ℕ → List Call
text_looked target sources f text = if is_glob text then glob_looked target sources f (parts_meant f.root text) else []

-- the calls for all texts of `members`, text by text
abbrev pub members_looked : List ℕ → World → WorkspaceRoot → List Call
members_looked target sources f = flat_map (text_looked target sources f) f.members

-- the calls for the members, and then the calls for the packages to which path dependencies lead
unfoldable pub others_looked : List ℕ → World → WorkspaceRoot → LoadState → List Call
others_looked target sources f begun =
    members_looked target sources f
    ++ (all_looked (draft_at sources f (member_folders sources f)) (folder_looked target sources f) begun (folders_of (member_folders sources f))
    ++ after (all_read (draft_at sources f (member_folders sources f)) begun (folders_of (member_folders sources f))) (λ read. rounds_looked 257 (draft_at sources f (member_folders sources f)) (folder_looked target sources f) read))

-- the calls for all packages; if there is a root package, the calls for the root package come first
unfoldable pub packages_looked : List ℕ → World → WorkspaceRoot → Tables → Option Package → List Call
packages_looked target sources f tables p = package_looked target f.root p ++ after (root_read sources f tables p) (λ begun. others_looked target sources f begun)

abbrev pub root_looked : List ℕ → List ℕ → List Call
root_looked target manifest = if is_manifest manifest then looked target (call.Read manifest) else []

-- all calls that are made to read the workspace of a manifest
unfoldable pub looked_at : List ℕ → List ℕ → World → List Call
looked_at manifest target w =
    root_looked target manifest ++ after (root_parts (from_nothing target w) manifest) (λ parts.
    packages_looked target (from_nothing target w) (frame_of (folder_of manifest) manifest parts.workspace) parts.tables parts.found)
