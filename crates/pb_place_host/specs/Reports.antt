-- What a place reports about a failure.
use Rattle.std.specs.Prelude.{◌<◌, ◌≤◌, ℕ, All, List, length}

-- a byte is plain if it is neither a line feed nor another control character below the space
abbrev pub IsPrintable : ℕ → Type 0
IsPrintable byte = 31 < byte

-- there are at most ten texts, and all their bytes are plain
pub record AreReported (texts : List (List ℕ)) : Type 0 where
  pub few : length texts ≤ 10
  pub plain : All (λ text. All IsPrintable text) texts
