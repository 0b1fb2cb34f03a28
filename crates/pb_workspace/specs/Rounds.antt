-- Which packages are read, in which order, and when reading ends (The Cargo Book, Workspaces and
-- Specifying Dependencies). The order is our own choice. `sources` is the world without the files
-- at or below the target folder.
use Rattle.std.specs.Prelude.{ℕ, zero, suc, Bool, nat_le, if◌then◌else◌, codes, List, [], ◌∷◌, length, map, Option, Some, None, Result, Ok, Err}
use Rattle.std.specs.FinMap as finite
use Rattle.std.specs.Str.{bytes_eq}
use Rattle.pb_data.specs.Limits.{max_packages}
use Rattle.pb_data.specs.UnlessOom.{◌>>=◌, lifted}
use Rattle.pb_place_types.specs.Paths.{below}
use Rattle.pb_place_types.specs.World.{World}
use Rattle.pb_manifest.specs.Document.{manifest_of}
use Rattle.pb_manifest_types.specs.declared.fault.ManifestFault.TheVariants.{BadKind}
use Rattle.pb_manifest_types.specs.declared.key.Key.TheVariants as key
use Rattle.pb_manifest_types.specs.declared.manifest.Manifest.{Manifest as ManifestRead}
use Rattle.pb_manifest_types.specs.declared.package.Package.{Package}
use Rattle.pb_workspace_package.specs.declared.unresolved_package.UnresolvedPackage.{UnresolvedPackage}
use Rattle.pb_workspace_package.specs.declared.unresolved_package.Tables.{Tables}
use Rattle.pb_workspace_types.specs.declared.fault.LoadFault.{LoadFault}
use Rattle.pb_workspace_types.specs.declared.fault.LoadFault.TheVariants.{NoManifest, Manifest, TooMany}
use Rattle.pb_workspace.specs.declared.workspace_root.WorkspaceRoot.{WorkspaceRoot}
use Rattle.pb_workspace.specs.declared.rounds.Parts.{Parts}
use Rattle.pb_workspace.specs.declared.rounds.LoadState.{LoadState}
use Rattle.pb_workspace_package.specs.declared.wanted.PackageLocation.{PackageLocation}
use Rattle.pb_workspace_package.specs.declared.wanted.Wanted.{Wanted}
use Rattle.pb_workspace.specs.ByFolder.{folders_of, has, with_folders}
use Rattle.pb_workspace_package.specs.Drafts.{draft_of}
use Rattle.pb_workspace.specs.Frames.{given_to, is_member}
use Rattle.pb_workspace_package.specs.Sorted.{with_entry}

-- the manifest in the file at a path, or the fault that says why it cannot be read
abbrev pub read_found : List ℕ → Option (List ℕ) → Result ManifestRead LoadFault
read_found path None = Err (NoManifest path)
read_found path (Some bytes) = lifted (Manifest path) (manifest_of bytes)

abbrev pub manifest_at : World → List ℕ → Result ManifestRead LoadFault
manifest_at sources path = read_found path (finite.get sources.files path)

abbrev pub tables_in : ManifestRead → Tables
tables_in m = record { library = m.library; binaries = m.binaries; dependencies = m.dependencies; build_dependencies = m.build_dependencies; dev_dependencies = m.dev_dependencies; features = m.features }

abbrev pub parts_in : ManifestRead → Parts
parts_in m = record { found = m.package; tables = tables_in m; workspace = m.workspace; profiles = m.profiles }

abbrev pub parts_at : World → List ℕ → Result Parts LoadFault
parts_at sources path = manifest_at sources path >>= (λ m. Ok (parts_in m))

-- the fault for a folder that must have a package but has a manifest without `[package]`
abbrev pub no_package : List ℕ → LoadFault
no_package manifest = Manifest manifest (BadKind key.Package)

-- The package of a manifest that was read. A manifest without `[package]` is a fault.
unfoldable pub draft_if : World → WorkspaceRoot → Bool → PackageLocation → Tables → Option Package → Result UnresolvedPackage LoadFault
draft_if sources f member at tables None = Err (no_package at.manifest)
draft_if sources f member at tables (Some p) = draft_of sources at member (given_to f member) p tables

abbrev pub standing_in : WorkspaceRoot → List ℕ → PackageLocation
standing_in f folder = record { root = f.root; folder = folder; manifest = below folder (codes "Cargo.toml") }

-- the package of the manifest at a location, or the first fault
unfoldable pub draft_in_file : World → WorkspaceRoot → Bool → PackageLocation → Result UnresolvedPackage LoadFault
draft_in_file sources f member at = parts_at sources at.manifest >>= (λ parts. draft_if sources f member at parts.tables parts.found)

-- The package of a folder. The manifest of the root is not read again: if there is a root package,
-- it was read first.
unfoldable pub draft_at : World → WorkspaceRoot → List (List ℕ × Unit {0}) → List ℕ → Result UnresolvedPackage LoadFault
draft_at sources f meant folder =
    if bytes_eq folder f.root then Err (no_package f.manifest)
    else draft_in_file sources f (is_member f meant folder) (standing_in f folder)

-- the folders to which these entries lead
abbrev pub leads_to : List Wanted → List (List ℕ)
leads_to wanted = map (λ (w : Wanted). w.folder) wanted

-- What was read, after one more package. The next round reads the folders to which the package's
-- entries lead.
abbrev pub with_draft : LoadState → List ℕ → UnresolvedPackage → LoadState
with_draft r folder d = record { found = with_entry r.found folder d; ahead = with_folders r.ahead (leads_to d.wanted) }

-- What was read, after one folder. A folder is read only once, and at most 256 folders are read.
abbrev pub one_read : (List ℕ → Result UnresolvedPackage LoadFault) → LoadState → List ℕ → Result LoadState LoadFault
one_read read r folder =
    if has folder r.found then Ok r
    else (if nat_le max_packages (length r.found) then Err TooMany else read folder >>= (λ d. Ok (with_draft r folder d)))

-- what was read, after these folders one by one, or the first fault
abbrev pub all_read : (List ℕ → Result UnresolvedPackage LoadFault) → LoadState → List (List ℕ) → Result LoadState LoadFault
all_read read r [] = Ok r
all_read read r (folder ∷ folders) = one_read read r folder >>= (λ now. all_read read now folders)

-- one round: it reads, in byte order, the folders to which the packages of the last round lead
abbrev pub round : (List ℕ → Result UnresolvedPackage LoadFault) → LoadState → Result LoadState LoadFault
round read r = all_read read (record { found = r.found; ahead = [] }) (folders_of r.ahead)

-- What was read, after n rounds. A round that reads nothing leaves no folder for the next round. So
-- 257 rounds are enough for 256 packages, as `PackageFolders` shows.
unfoldable pub rounds : ℕ → (List ℕ → Result UnresolvedPackage LoadFault) → LoadState → Result LoadState LoadFault
rounds zero read r = Ok r
rounds (suc n) read r = round read r >>= (λ now. rounds n read now)
