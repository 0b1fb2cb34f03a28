-- Normalised absolute paths, and which paths are below a folder. A path is UTF-8 bytes, split at
-- `/`. Links play no part.
use Rattle.std.specs.Prelude.{ℕ, ◌==◌, Bool, false, not, ◌&&◌, ◌||◌, if◌then◌else◌, codes, List, [], ◌∷◌, ◌++◌, ◌+◌, ◌-◌, length, take, drop, Option, Some, None, Result, Ok, Err}
use Rattle.std.specs.List.{fold, list_any, list_all, slice_split}
use Rattle.std.specs.Str.{bytes_eq}
use Rattle.pb_data.specs.Ascii.{slash}
use Rattle.pb_place_types.specs.declared.path.PathFault.{PathFault}
use Rattle.pb_place_types.specs.declared.path.PathFault.TheVariants.{NotAbsolute, BadByte}

-- the parts of a text between slashes
abbrev pub parts_of : List ℕ → List (List ℕ)
parts_of text = slice_split (λ b. b == slash) text

-- a part stays in the same folder if it is empty or `.`
abbrev pub stays : List ℕ → Bool
stays part = bytes_eq part [] || bytes_eq part (codes ".")

-- a part leads to the folder above if it is `..`
abbrev pub leads_up : List ℕ → Bool
leads_up part = bytes_eq part (codes "..")

-- the names after one more part: `..` removes the last name, a name is appended, and an empty part
-- or `.` changes nothing
abbrev pub walked : List (List ℕ) → List ℕ → List (List ℕ)
walked names part = if stays part then names else (if leads_up part then take (length names - 1) names else names ++ part ∷ [])

-- the names that remain if one walks from the root along the parts of a text
abbrev pub names_of : List ℕ → List (List ℕ)
names_of text = fold walked [] (parts_of text)

-- all names joined, with a slash before each
abbrev pub slashed : List (List ℕ) → List ℕ
slashed [] = []
slashed (name ∷ names) = slash ∷ name ++ slashed names

-- the path that consists of these names; the root's path is a single slash
abbrev pub path_of : List (List ℕ) → List ℕ
path_of [] = slash ∷ []
path_of (name ∷ names) = slashed (name ∷ names)

abbrev pub is_absolute : List ℕ → Bool
is_absolute [] = false
is_absolute (b ∷ rest) = b == slash

abbrev pub has_byte_0 : List ℕ → Bool
has_byte_0 text = list_any (λ b. b == 0) text

-- the path that an absolute text spells, or the reason why the text spells no path
abbrev pub parsed : List ℕ → Result (List ℕ) PathFault
parsed text = if is_absolute text then (if has_byte_0 text then Err BadByte else Ok (path_of (names_of text))) else Err NotAbsolute

-- the path that a text spells: a relative text starts in the folder, an absolute text at the root
abbrev pub joined : List ℕ → List ℕ → Result (List ℕ) PathFault
joined folder text = parsed (if is_absolute text then text else folder ++ slash ∷ text)

-- the folder that contains a path; the root's folder is the root
abbrev pub folder_of : List ℕ → List ℕ
folder_of path = path_of (walked (names_of path) (codes ".."))

-- the last of these texts, or `text` if the list is empty
abbrev pub last_of : List ℕ → List (List ℕ) → List ℕ
last_of text [] = text
last_of text (next ∷ texts) = last_of next texts

-- the last part of a path is its name; the name of the root is empty
abbrev pub last_part : List ℕ → List ℕ
last_part path = last_of [] (parts_of path)

-- A part may name a file or folder if it is not `.`, not `..`, not empty, and has no byte 0.
-- Callers check for slashes.
abbrev pub is_name : List ℕ → Bool
is_name part = not (stays part || leads_up part || has_byte_0 part)

-- a text is relative if it consists of names with slashes between them, so that it is a path inside
-- some folder
abbrev pub is_relative : List ℕ → Bool
is_relative text = list_all is_name (parts_of text)

-- a text is a path if it is a single slash, or a slash and then names with slashes between them
abbrev pub is_path : List ℕ → Bool
is_path [] = false
is_path (b ∷ []) = b == slash
is_path (b ∷ c ∷ rest) = (b == slash) && is_relative (c ∷ rest)

-- the beginning of each path below a folder, up to the slash before the names: the folder's path,
-- or nothing for the root
abbrev pub stem : List ℕ → List ℕ
stem folder = if bytes_eq folder (codes "/") then [] else folder

-- the path to which this relative path leads from the folder
abbrev pub below : List ℕ → List ℕ → List ℕ
below folder relative = stem folder ++ slash ∷ relative

-- a path leads below a stem if it consists of the stem, a slash and something more
unfoldable pub leads_below : List ℕ → List ℕ → Bool
leads_below [] [] = false
leads_below [] (b ∷ []) = false
leads_below [] (b ∷ c ∷ rest) = b == slash
leads_below (a ∷ stem) [] = false
leads_below (a ∷ stem) (b ∷ path) = (a == b) && leads_below stem path

-- The path is strictly below the folder. Paths are compared part by part. `/a/b` is below `/a`, but
-- `/ab` is not.
unfoldable pub is_below : List ℕ → List ℕ → Bool
is_below folder path = leads_below (stem folder) path

-- a path is at or below a folder if the path is the folder itself or is strictly below the folder
unfoldable pub is_at_or_below : List ℕ → List ℕ → Bool
is_at_or_below folder path = bytes_eq folder path || is_below folder path

-- what follows the folder's stem and a slash in a path that is strictly below the folder
abbrev pub inside : List ℕ → List ℕ → Option (List ℕ)
inside folder path = if is_below folder path then Some (drop (length (stem folder) + 1) path) else None
