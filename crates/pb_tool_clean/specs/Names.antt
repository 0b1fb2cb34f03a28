-- What builds leave in a target folder for a unit: a record `KEY.record` and a folder `KEY`. KEY
-- has the form of a unit's key, `PACKAGE.SIDE.WHAT`.
use Rattle.std.specs.Prelude.{ℕ, ◌==◌, Bool, true, false, ◌&&◌, ◌||◌, if◌then◌else◌, codes, List, [], ◌∷◌, ◌++◌, take, Option, Some, None}
use Rattle.std.specs.List.{list_any, slice_split}
use Rattle.std.specs.Str.{bytes_eq}
use Rattle.pb_place_types.specs.Paths.{is_below, is_at_or_below, last_part}
use Rattle.pb_tool_clean.specs.declared.choice.Choice.{Choice}

-- the words of a name, which are separated by dots
abbrev pub words_in : List ℕ → List (List ℕ)
words_in name = slice_split (λ b. b == 46) name

abbrev pub is_side : List ℕ → Bool
is_side word = bytes_eq word (codes "host") || bytes_eq word (codes "target")

-- the word has the form `bin-NAME`
abbrev pub is_binary : List ℕ → Bool
is_binary word = bytes_eq (take 4 word) (codes "bin-")

abbrev pub is_what : List ℕ → Bool
is_what word = bytes_eq word (codes "lib") || (bytes_eq word (codes "script") || (bytes_eq word (codes "run") || is_binary word))

-- the words are the words of a name `PACKAGE.SIDE.WHAT`
abbrev pub is_unit : List (List ℕ) → Bool
is_unit (first ∷ side ∷ what ∷ []) = is_side side && is_what what
is_unit words = false

-- the words are the words of a name `PACKAGE.SIDE.WHAT.record`
abbrev pub is_record : List (List ℕ) → Bool
is_record (first ∷ side ∷ what ∷ ending ∷ []) = is_side side && (is_what what && bytes_eq ending (codes "record"))
is_record words = false

-- the word is one of these names, or there are no names
abbrev pub is_named : List (List ℕ) → List ℕ → Bool
is_named [] word = true
is_named (name ∷ names) word = list_any (bytes_eq word) (name ∷ names)

-- the name of a key's package, which is the key's first word
abbrev pub package_in : List (List ℕ) → List ℕ
package_in [] = []
package_in (word ∷ words) = word

-- the path is strictly below the folder, or there is no folder
abbrev pub is_within : Option (List ℕ) → List ℕ → Bool
is_within None path = true
is_within (Some folder) path = is_below folder path

-- A chosen path is below the target folder, belongs to a chosen package, and is in a chosen
-- profile's folder. `words` are the words of the path's last part.
abbrev pub is_chosen : Choice → List (List ℕ) → List ℕ → Bool
is_chosen choice words path = is_below choice.target path && (is_named choice.packages (package_in words) && is_within choice.profile path)

-- The path is the path of a chosen record. `is_chosen_folder` says the same of a chosen unit's
-- folder.
abbrev pub is_chosen_record : Choice → List ℕ → Bool
is_chosen_record choice path = is_record (words_in (last_part path)) && is_chosen choice (words_in (last_part path)) path

abbrev pub is_chosen_folder : Choice → List ℕ → Bool
is_chosen_folder choice path = is_unit (words_in (last_part path)) && is_chosen choice (words_in (last_part path)) path

-- The chosen records among these paths, in order. `folders_among` lists the chosen units' folders
-- among these paths.
abbrev pub records_among : Choice → List (List ℕ) → List (List ℕ)
records_among choice [] = []
records_among choice (path ∷ paths) = if is_chosen_record choice path then path ∷ records_among choice paths else records_among choice paths

abbrev pub folders_among : Choice → List (List ℕ) → List (List ℕ)
folders_among choice [] = []
folders_among choice (path ∷ paths) = if is_chosen_folder choice path then path ∷ folders_among choice paths else folders_among choice paths

-- the path is at or below one of these paths
abbrev pub is_among : List (List ℕ) → List ℕ → Bool
is_among paths path = list_any (λ p. is_at_or_below p path) paths
