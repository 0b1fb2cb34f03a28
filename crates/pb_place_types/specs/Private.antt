-- A definition for private functions only; no public promise names it.
use Rattle.std.specs.Prelude.{◌==◌, ℕ, List, [], ◌∷◌, Option, Some, None, if◌then◌else◌}
use Rattle.pb_data.specs.Ascii.{slash}

-- what follows the first byte of a text, if the first byte is a slash
abbrev pub after_slash : List ℕ → Option (List ℕ)
after_slash [] = None
after_slash (b ∷ rest) = if b == slash then Some rest else None
