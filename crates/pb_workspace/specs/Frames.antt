-- What a root manifest says about its workspace, and which packages are members (The Cargo Book,
-- Workspaces).
use Rattle.std.specs.Prelude.{ℕ, Bool, true, false, not, ◌&&◌, ◌||◌, if◌then◌else◌, List, [], Option, Some, None}
use Rattle.std.specs.Str.{bytes_eq}
use Rattle.pb_place_types.specs.Paths.{is_at_or_below}
use Rattle.pb_manifest_types.specs.declared.manifest.WorkspacePackage.{WorkspacePackage}
use Rattle.pb_manifest_types.specs.declared.manifest.WorkspaceTable.{WorkspaceTable}
use Rattle.pb_workspace.specs.declared.workspace_root.WorkspaceRoot.{WorkspaceRoot}
use Rattle.pb_workspace_package.specs.declared.settling.Given.{Given}
use Rattle.pb_workspace.specs.ByFolder.{has}
use Rattle.pb_workspace.specs.Members.{is_excluded}

-- a `[workspace.package]` without keys
abbrev pub no_keys : WorkspacePackage
no_keys = record { authors = None; description = None; edition = None; homepage = None; license = None; license_file = None; readme = None; repository = None; rust_version = None; version = None }

-- what a package can inherit if its workspace offers nothing
abbrev pub nothing : Given
nothing = record { «package» = no_keys; dependencies = [] }

abbrev pub keys_or_none : Option WorkspacePackage → WorkspacePackage
keys_or_none None = no_keys
keys_or_none (Some keys) = keys

-- What a root manifest says about the workspace. Without `[workspace]`, the workspace is the root
-- package only.
abbrev pub frame_of : List ℕ → List ℕ → Option WorkspaceTable → WorkspaceRoot
frame_of root manifest None = record { root = root; manifest = manifest; is_workspace = false; members = []; exclude = []; default_members = None; given = nothing }
frame_of root manifest (Some w) = record { root = root; manifest = manifest; is_workspace = true; members = w.members; exclude = w.exclude; default_members = w.default_members; given = record { «package» = keys_or_none w.package; dependencies = w.dependencies } }

-- The root package is a member. In a workspace, each folder that `members` means is also a member.
-- In a workspace, each folder inside the root folder is a member, too, if `exclude` lists neither
-- this folder nor a folder above it.
abbrev pub is_member : WorkspaceRoot → List (List ℕ × Unit {0}) → List ℕ → Bool
is_member f meant folder = bytes_eq folder f.root || (f.is_workspace && (has folder meant || (is_at_or_below f.root folder && not (is_excluded f.root f.exclude folder))))

-- what a package may inherit from its workspace; only members may inherit something
abbrev pub given_to : WorkspaceRoot → Bool → Given
given_to f member = if member then f.given else nothing
