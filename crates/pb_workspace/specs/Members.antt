-- Which folders the texts of `members`, `default-members` and `exclude` mean (The Cargo Book,
-- Workspaces).
use Rattle.std.specs.Prelude.{ℕ, Bool, true, false, ◌&&◌, ◌-◌, if◌then◌else◌, List, [], ◌∷◌, ◌++◌, length, map, take}
use Rattle.std.specs.List.{fold, list_any}
use Rattle.std.specs.Str.{bytes_eq}
use Rattle.pb_place_types.specs.Paths.{is_absolute, is_at_or_below, leads_up, parts_of, stays}
use Rattle.pb_workspace.specs.declared.member.Part.{Part}
use Rattle.pb_workspace_package.specs.Between.{names_in}
use Rattle.pb_workspace.specs.Globs.{matches}
use Rattle.pb_workspace_package.specs.Sources.{resolved}

-- the folder is at or below a folder that `exclude` lists; the listed paths start at the root
abbrev pub is_excluded : List ℕ → List (List ℕ) → List ℕ → Bool
is_excluded root exclude folder = list_any (λ text. is_at_or_below (resolved root text) folder) exclude

-- A folder's names as parts. Each part matches only its own name, even if the name contains `*` or
-- `?`.
abbrev pub plain_parts : List (List ℕ) → List Part
plain_parts names = map (λ name. record { text = name; is_pattern = false }) names

-- The list of parts, extended by one more part of a text. An empty part or `.` changes nothing,
-- `..` removes the last part, and any other part is appended as a pattern.
abbrev pub further : List Part → List ℕ → List Part
further parts part = if stays part then parts else (if leads_up part then take (length parts - 1) parts else parts ++ record { text = part; is_pattern = true } ∷ [])

-- the parts that come before the parts of a text: the root folder's names, or no parts if the text
-- is absolute
abbrev pub start_of : List ℕ → List ℕ → List Part
start_of root text = if is_absolute text then [] else plain_parts (names_in root)

-- the parts of a text; the text means a folder if the names in the folder's path match these parts
abbrev pub parts_meant : List ℕ → List ℕ → List Part
parts_meant root text = fold further (start_of root text) (parts_of text)

abbrev pub part_matches : Part → List ℕ → Bool
part_matches part name = if part.is_pattern then matches part.text name else bytes_eq part.text name

-- The names match the parts one by one. So `*` never matches across a slash.
abbrev pub parts_match : List Part → List (List ℕ) → Bool
parts_match [] [] = true
parts_match [] (name ∷ names) = false
parts_match (part ∷ parts) [] = false
parts_match (part ∷ parts) (name ∷ names) = part_matches part name && parts_match parts names

-- the text, a glob or a path, means the folder
abbrev pub means : List ℕ → List ℕ → List ℕ → Bool
means root text folder = parts_match (parts_meant root text) (names_in folder)
