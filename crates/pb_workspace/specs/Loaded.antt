-- The workspace that a root manifest describes (The Cargo Book, Workspaces).
use Rattle.std.specs.Prelude.{ℕ, true, if◌then◌else◌, List, [], Option, Some, None, Result, Ok, Err}
use Rattle.pb_data.specs.UnlessOom.{◌>>=◌}
use Rattle.pb_place_types.specs.Paths.{folder_of}
use Rattle.pb_place_types.specs.World.{World, from_nothing}
use Rattle.pb_manifest_types.specs.declared.package.Package.{Package}
use Rattle.pb_manifest_types.specs.declared.profile.Profile.{Profile}
use Rattle.pb_workspace_package.specs.declared.unresolved_package.UnresolvedPackage.{UnresolvedPackage}
use Rattle.pb_workspace_package.specs.declared.unresolved_package.Tables.{Tables}
use Rattle.pb_workspace_types.specs.declared.fault.LoadFault.{LoadFault}
use Rattle.pb_workspace_types.specs.declared.fault.LoadFault.TheVariants.{NoManifest}
use Rattle.pb_workspace.specs.declared.workspace_root.WorkspaceRoot.{WorkspaceRoot}
use Rattle.pb_workspace.specs.declared.rounds.Parts.{Parts}
use Rattle.pb_workspace.specs.declared.rounds.LoadState.{LoadState}
use Rattle.pb_workspace_package.specs.declared.wanted.PackageLocation.{PackageLocation}
use Rattle.pb_workspace_types.specs.declared.workspace.Workspace.{Workspace}
use Rattle.pb_workspace.specs.Assembled.{assembled}
use Rattle.pb_workspace.specs.ByFolder.{folders_of, values_of}
use Rattle.pb_workspace.specs.Checks.{fault_of}
use Rattle.pb_workspace_package.specs.Drafts.{draft_of}
use Rattle.pb_workspace.specs.Frames.{frame_of}
use Rattle.pb_workspace.specs.MemberFolders.{is_manifest, member_folders}
use Rattle.pb_workspace.specs.Rounds.{all_read, draft_at, parts_at, rounds, with_draft}

-- The parts of the root manifest. The file must be named `Cargo.toml`. A file at or below the
-- target folder does not count as a manifest.
abbrev pub root_parts : World → List ℕ → Result Parts LoadFault
root_parts sources path = if is_manifest path then parts_at sources path else Err (NoManifest path)

abbrev pub at_root : WorkspaceRoot → PackageLocation
at_root f = record { root = f.root; folder = f.root; manifest = f.manifest }

abbrev pub nothing_read : LoadState
nothing_read = record { found = []; ahead = [] }

-- What was read up to and including the root package. If there is a root package, it is a member
-- and is read first.
unfoldable pub root_read : World → WorkspaceRoot → Tables → Option Package → Result LoadState LoadFault
root_read sources f tables None = Ok nothing_read
root_read sources f tables (Some p) = draft_of sources (at_root f) true f.given p tables >>= (λ d. Ok (with_draft nothing_read f.root d))

-- What was read of all packages. The root package comes first, and the other members come next. The
-- packages to which path dependencies lead come last, in rounds.
unfoldable pub others_read : World → WorkspaceRoot → LoadState → Result LoadState LoadFault
others_read sources f begun =
    all_read (draft_at sources f (member_folders sources f)) begun (folders_of (member_folders sources f)) >>= (λ read.
    rounds 257 (draft_at sources f (member_folders sources f)) read)

unfoldable pub packages_read : World → WorkspaceRoot → Tables → Option Package → Result LoadState LoadFault
packages_read sources f tables p = root_read sources f tables p >>= (λ begun. others_read sources f begun)

-- The workspace, or the fault of a check that failed. The checks come after all packages were read.
abbrev pub unless : Option LoadFault → Workspace → Result Workspace LoadFault
unless None ws = Ok ws
unless (Some fault) ws = Err fault

unfoldable pub workspace_from : List ℕ → WorkspaceRoot → List Profile → List UnresolvedPackage → Result Workspace LoadFault
workspace_from target f profiles drafts = unless (fault_of drafts) (assembled target f profiles drafts)

-- the workspace that the root manifest describes, given what the manifest says about the root
-- package, if there is one
unfoldable pub workspace_in : World → List ℕ → WorkspaceRoot → List Profile → Tables → Option Package → Result Workspace LoadFault
workspace_in sources target f profiles tables p = packages_read sources f tables p >>= (λ read. workspace_from target f profiles (values_of read.found))

-- The workspace that a root manifest describes. Only the sources determine it: files at or below
-- the target folder are ignored.
unfoldable pub workspace_of : List ℕ → List ℕ → World → Result Workspace LoadFault
workspace_of manifest target w =
    root_parts (from_nothing target w) manifest >>= (λ parts.
    workspace_in (from_nothing target w) target (frame_of (folder_of manifest) manifest parts.workspace) parts.profiles parts.tables parts.found)
