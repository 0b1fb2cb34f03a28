-- The path that leads from one folder to another path, spelled as a text.
use Rattle.std.specs.Prelude.{ℕ, Bool, not, ◌==◌, if◌then◌else◌, codes, List, [], ◌∷◌, ◌++◌, length, replicate, filter}
use Rattle.std.specs.List.{slice_split}
use Rattle.std.specs.Str.{bytes_eq}
use Rattle.pb_data.specs.Ascii.{slash}
use Rattle.pb_place_types.specs.Paths.{slashed}

-- the part is not empty
abbrev pub is_word : List ℕ → Bool
is_word part = not (length part == 0)

-- the names of a normalised path: its parts that are not empty
abbrev pub names_in : List ℕ → List (List ℕ)
names_in path = filter is_word (slice_split (λ b. b == slash) path)

-- the part `..`, once for each of these names
abbrev pub upward : List (List ℕ) → List (List ℕ)
upward names = replicate (length names) (codes "..")

-- The steps from a first path to a second path. The common beginning of the two paths is left out.
-- Each remaining name of the first path becomes one `..`. The remaining names of the second path
-- follow.
abbrev pub steps_between : List (List ℕ) → List (List ℕ) → List (List ℕ)
steps_between [] others = others
steps_between (name ∷ names) [] = upward (name ∷ names)
steps_between (name ∷ names) (other ∷ others) = if bytes_eq name other then steps_between names others else upward (name ∷ names) ++ other ∷ others

-- the names, with slashes between them
abbrev pub spelled : List (List ℕ) → List ℕ
spelled [] = []
spelled (name ∷ names) = name ++ slashed names

-- the path that leads from a folder to a second path, as in `../README.md`, or the empty text if
-- the two are equal
abbrev pub text_between : List ℕ → List ℕ → List ℕ
text_between folder path = spelled (steps_between (names_in folder) (names_in path))
