-- Which packages of a workspace are its members, and which folders a text of `members` means
-- (The Cargo Book, Workspaces).
use Rattle.std.specs.Prelude.{◌≡◌, ◌↔◌, ℕ, true, false, codes, List, Contains}
use Rattle.std.specs.List.{AllZip}
use Rattle.pb_place_types.specs.Paths.{is_at_or_below, is_path}
use Rattle.pb_place_types.specs.World.{FilesHavePaths, World}
use Rattle.pb_workspace.specs.Globs.{is_glob}
use Rattle.pb_workspace.specs.MemberFolders.{folders_meant}
use Rattle.pb_workspace.specs.Members.{is_excluded, means, part_matches, parts_match}
use Rattle.pb_workspace_package.specs.Sources.{resolved}
use Rattle.pb_workspace.specs.declared.workspace_root.WorkspaceRoot.{WorkspaceRoot}
use Rattle.pb_workspace.specs.declared.member.Part.{Part}
use Rattle.pb_workspace_laws.specs.Files.{is_file}

-- The root package is a member. In a workspace, each folder that a text of `members` means is also
-- a member. In a workspace, each folder inside the root folder is a member, too, unless `exclude`
-- lists it.
pub data IsMember (sources : World) (f : WorkspaceRoot) (folder : List ℕ) : Type 0 where
  root : (is : folder ≡ f.root) → IsMember sources f folder
  meant : (written : f.is_workspace ≡ true) (text : List ℕ) (listed : Contains f.members text) (means : Contains (folders_meant sources f text) folder) → IsMember sources f folder
  inside : (written : f.is_workspace ≡ true) (below : is_at_or_below f.root folder ≡ true) (kept : is_excluded f.root f.exclude folder ≡ false) → IsMember sources f folder

-- A text of `members` without `*` or `?` means one folder, even if this folder does not exist. Any
-- other text means each folder that it matches, if the folder has a manifest and `exclude` does not
-- list it.
pub data IsMeant (sources : World) (f : WorkspaceRoot) (text folder : List ℕ) : Type 0 where
  written : (plain : is_glob text ≡ false) (is : folder ≡ resolved f.root text) → IsMeant sources f text folder
  matched : (globs : is_glob text ≡ true) (path : is_path folder ≡ true) (file : is_file sources folder (codes "Cargo.toml") ≡ true)
      (is : means f.root text folder ≡ true) (kept : is_excluded f.root f.exclude folder ≡ false) → IsMeant sources f text folder

-- A text of `members` means exactly the folders that `IsMeant` describes, if each file of the
-- sources has a normalised absolute path.
abbrev pub TextsMeanFolders : Type 0
TextsMeanFolders = (sources : World) (f : WorkspaceRoot) (text folder : List ℕ) → FilesHavePaths sources → Contains (folders_meant sources f text) folder ↔ IsMeant sources f text folder

-- Parts match names if and only if there are as many parts as names, and each part matches the name
-- at its position.
abbrev pub PartsMatchNames : Type 0
PartsMatchNames = (parts : List Part) (names : List (List ℕ)) → (parts_match parts names ≡ true) ↔ AllZip (λ part name. part_matches part name ≡ true) parts names
