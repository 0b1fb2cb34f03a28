-- The meaning of a glob, defined independently of how a match is computed. Texts are UTF-8 bytes.
-- Our own choice: the only special characters of a glob are `*` and `?`. (The Cargo Book,
-- Workspaces)
use Rattle.std.specs.Prelude.{◌≡◌, ◌↔◌, ℕ, Bool, true, false, not, ◌||◌, ◌==◌, List, [], ◌∷◌, ◌++◌}
use Rattle.std.specs.List.{list_all}
use Rattle.pb_data.specs.Ascii.{star, question_mark}
use Rattle.pb_workspace.specs.Globs.{goes_on, matches}

-- the text does not begin in the middle of a character
abbrev pub begins_whole : List ℕ → Bool
begins_whole [] = true
begins_whole (b ∷ rest) = not (goes_on b)

-- the byte is `*` or `?`
abbrev pub is_sign : ℕ → Bool
is_sign b = b == star || b == question_mark

-- A pattern matches a name byte by byte. `*` matches any text, `?` matches one character, and every
-- other byte matches itself. The empty pattern matches only the empty text.
pub data Matches : List ℕ → List ℕ → Type 0 where
  empty : Matches [] []
  any : (pattern text rest : List ℕ) (behind : Matches pattern rest) → Matches (star ∷ pattern) (text ++ rest)
  one : (pattern : List ℕ) (first : ℕ) (more rest : List ℕ) (further : list_all goes_on more ≡ true) (whole : begins_whole rest ≡ true) (behind : Matches pattern rest) → Matches (question_mark ∷ pattern) (first ∷ more ++ rest)
  itself : (pattern : List ℕ) (b : ℕ) (rest : List ℕ) (plain : is_sign b ≡ false) (behind : Matches pattern rest) → Matches (b ∷ pattern) (b ∷ rest)

-- `matches` is true if and only if the pattern matches the name by the relation `Matches`
abbrev pub DecidesGlobs : Type 0
DecidesGlobs = (pattern name : List ℕ) → (matches pattern name ≡ true) ↔ Matches pattern name
