-- What the texts of notes are.
use Rattle.std.specs.Prelude.{◌≡◌, ◌<◌, ◌≤◌, ◌++◌, ℕ, All, List, [], ◌∷◌, codes, length}

-- a byte is plain if it is neither a line feed nor another control character below the space
abbrev pub IsPlain : ℕ → Type 0
IsPlain byte = 31 < byte

-- there are at most nine notes, and all their bytes are plain
pub record AreNotes (notes : List (List ℕ)) : Type 0 where
  pub few : length notes ≤ 9
  pub plain : All (λ text. All IsPlain text) notes

-- a line `note: TEXT` for each note
abbrev pub lines_of : List (List ℕ) → List ℕ
lines_of [] = []
lines_of (text ∷ texts) = codes "note: " ++ text ++ codes "\n" ++ lines_of texts
