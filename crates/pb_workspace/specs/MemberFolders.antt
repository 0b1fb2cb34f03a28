-- Which folders `members` means (The Cargo Book, Workspaces). `sources` is the world without the
-- files at or below the target folder.
use Rattle.std.specs.Prelude.{ℕ, Bool, not, ◌&&◌, if◌then◌else◌, codes, List, [], ◌∷◌, filter}
use Rattle.std.specs.List.{flat_map}
use Rattle.std.specs.Str.{bytes_eq}
use Rattle.pb_place_types.specs.Paths.{below, last_part}
use Rattle.pb_place_types.specs.World.{World, listed_folders}
use Rattle.pb_workspace.specs.declared.workspace_root.WorkspaceRoot.{WorkspaceRoot}
use Rattle.pb_workspace.specs.declared.member.Part.{Part}
use Rattle.pb_workspace.specs.ByFolder.{with_folders}
use Rattle.pb_workspace.specs.Globs.{is_glob, matches}
use Rattle.pb_workspace.specs.Members.{is_excluded, parts_meant}
use Rattle.pb_workspace_package.specs.Sources.{has_own_file, resolved}

-- the last part of the path is `Cargo.toml`
abbrev pub is_manifest : List ℕ → Bool
is_manifest path = bytes_eq (last_part path) (codes "Cargo.toml")

-- the part matches only one name: it is not a pattern, or has neither `*` nor `?`
abbrev pub is_fixed : Part → Bool
is_fixed part = not (part.is_pattern && is_glob part.text)

-- The folders to which a part leads from a folder. A fixed part leads to the folder with its name,
-- even if this folder does not exist. Any other part leads to the folders with names that the part
-- matches.
abbrev pub one_step : World → Part → List ℕ → List (List ℕ)
one_step sources part folder = if is_fixed part then below folder part.text ∷ [] else filter (λ found. matches part.text (last_part found)) (listed_folders folder sources)

-- `exclude` does not list the folder or a folder above it
abbrev pub is_kept : WorkspaceRoot → List ℕ → Bool
is_kept f folder = not (is_excluded f.root f.exclude folder)

-- the folders to which a part leads, except those that `exclude` leaves out; so no glob looks below
-- an excluded folder
abbrev pub kept_step : World → WorkspaceRoot → Part → List ℕ → List (List ℕ)
kept_step sources f part folder = filter (is_kept f) (one_step sources part folder)

-- the folders to which parts lead from these folders, one part after the other
abbrev pub led_to : World → WorkspaceRoot → List Part → List (List ℕ) → List (List ℕ)
led_to sources f [] folders = folders
led_to sources f (part ∷ parts) folders = led_to sources f parts (flat_map (kept_step sources f part) folders)

-- The folders to which a glob leads from `/`. A glob without parts leads to `/` itself. `exclude`
-- may leave out any of these folders.
abbrev pub folders_kept : World → WorkspaceRoot → List Part → List (List ℕ)
folders_kept sources f parts = filter (is_kept f) (led_to sources f parts (codes "/" ∷ []))

-- the folder has a file `Cargo.toml` in the sources
abbrev pub has_manifest : World → List ℕ → Bool
has_manifest sources folder = has_own_file folder sources (codes "Cargo.toml")

-- the folders with a manifest to which a glob leads
abbrev pub folders_taken : World → WorkspaceRoot → List Part → List (List ℕ)
folders_taken sources f parts = filter (has_manifest sources) (folders_kept sources f parts)

-- The folders that a text of `members` means. A glob means folders that have a manifest. Any other
-- text means the folder that it spells, even if this folder does not exist or `exclude` lists this
-- folder.
abbrev pub folders_meant : World → WorkspaceRoot → List ℕ → List (List ℕ)
folders_meant sources f text = if is_glob text then folders_taken sources f (parts_meant f.root text) else resolved f.root text ∷ []

-- the folders that all texts of `members` mean, in byte order and without repeats
abbrev pub member_folders : World → WorkspaceRoot → List (List ℕ × Unit {0})
member_folders sources f = with_folders [] (flat_map (folders_meant sources f) f.members)
