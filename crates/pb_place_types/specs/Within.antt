-- The laws of paths at or below a folder, or strictly below it.
use Rattle.std.specs.Prelude.{◌≡◌, ◌≢◌, ◌↔◌, ◌⊎◌, ℕ, ◌==◌, ◌∷◌, List, [], Some, true, false, codes}
use Rattle.std.specs.List.{list_any}
use Rattle.pb_data.specs.Ascii.{slash}
use Rattle.pb_place_types.specs.Paths.{is_path, is_name, is_relative, below, is_below, is_at_or_below, inside, folder_of, last_part}

-- a path is below a folder if and only if it is the folder's stem, a slash and something more
abbrev pub BelowGoesOn : Type 0
BelowGoesOn = (folder path : List ℕ) → (is_below folder path ≡ true) ↔ ((c : ℕ) × (rest : List ℕ) × (path ≡ below folder (c ∷ rest)))

-- a path is at or below a folder if and only if the path is the folder itself or is below the
-- folder
abbrev pub AtOrBelow : Type 0
AtOrBelow = (folder path : List ℕ) → (is_at_or_below folder path ≡ true) ↔ ((folder ≡ path) ⊎ (is_below folder path ≡ true))

-- a path that is at or below a folder is at or below each folder above this folder
abbrev pub AtOrBelowGoesOn : Type 0
AtOrBelowGoesOn = (above folder path : List ℕ) → is_at_or_below above folder ≡ true → is_at_or_below folder path ≡ true → is_at_or_below above path ≡ true

-- Let a folder be at or below `above`, and a path be at or below the folder. If the folder is
-- strictly below `above`, the path is strictly below `above`. The same is true if the path is
-- strictly below the folder.
abbrev pub BelowThenAt : Type 0
BelowThenAt = (above folder path : List ℕ) → is_below above folder ≡ true → is_at_or_below folder path ≡ true → is_below above path ≡ true

abbrev pub AtThenBelow : Type 0
AtThenBelow = (above folder path : List ℕ) → is_at_or_below above folder ≡ true → is_below folder path ≡ true → is_below above path ≡ true

-- two folders that are at or below each other are the same folder
abbrev pub OneFolder : Type 0
OneFolder = (f g : List ℕ) → is_at_or_below f g ≡ true → is_at_or_below g f ≡ true → f ≡ g

-- nothing is strictly below itself
abbrev pub NotBelowItself : Type 0
NotBelowItself = (f : List ℕ) → is_below f f ≡ false

-- Two folders share no path if neither is at or below the other. Both folders must be normalised:
-- as plain bytes, `/x` and `/x/` share `/x/a`.
abbrev pub ShareNoPath : Type 0
ShareNoPath = (f g q : List ℕ) → is_path f ≡ true → is_path g ≡ true → is_at_or_below f g ≡ false → is_at_or_below g f ≡ false → is_at_or_below f q ≡ true → is_at_or_below g q ≡ false

-- each path is at or below the root
abbrev pub RootIsAbove : Type 0
RootIsAbove = (path : List ℕ) → is_path path ≡ true → is_at_or_below (codes "/") path ≡ true

-- Put two different names below the same folder. If `name` is not empty and `other` has no slash,
-- the path of `other` is not at or below the path of `name`.
abbrev pub NamesLieApart : Type 0
NamesLieApart = (folder name other : List ℕ) → name ≢ [] → list_any (λ b. b == slash) other ≡ false → name ≢ other → is_at_or_below (below folder name) (below folder other) ≡ false

-- take the part of a path inside a folder; if this part is put below the folder, the result is the
-- path
abbrev pub JoinsAgain : Type 0
JoinsAgain = (folder path rest : List ℕ) → inside folder path ≡ Some rest → below folder rest ≡ path

-- if a text is put below a folder, the path of the result inside the folder is the text
abbrev pub FoundInside : Type 0
FoundInside = (folder rest : List ℕ) → rest ≢ [] → inside folder (below folder rest) ≡ Some rest

-- if a path and a folder are normalised, the path inside the folder is relative
abbrev pub InsideIsRelative : Type 0
InsideIsRelative = (folder path rest : List ℕ) → is_path folder ≡ true → is_path path ≡ true → inside folder path ≡ Some rest → is_relative rest ≡ true

-- If a path is not the root, the path's last part, put below the path's folder, is the path again.
-- This last part is a name without a slash.
abbrev pub EndsWithLastPart : Type 0
EndsWithLastPart = (path : List ℕ) → is_path path ≡ true → path ≢ codes "/" → below (folder_of path) (last_part path) ≡ path

abbrev pub LastPartIsName : Type 0
LastPartIsName = (path : List ℕ) → is_path path ≡ true → path ≢ codes "/" → (is_name (last_part path) ≡ true) × (list_any (λ b. b == slash) (last_part path) ≡ false)

-- each path except the root is strictly below its folder
abbrev pub LiesInFolder : Type 0
LiesInFolder = (path : List ℕ) → is_path path ≡ true → path ≢ codes "/" → is_below (folder_of path) path ≡ true
