-- Globs of members, with `*` and `?` within one part of a path. Texts are UTF-8 bytes. `GlobWords`
-- defines the same matches as a relation. Our own choice: the only special characters of a glob are
-- `*` and `?`. (The Cargo Book, Workspaces)
use Rattle.std.specs.Prelude.{ℕ, Bool, true, false, ◌&&◌, ◌||◌, ◌==◌, nat_le, if◌then◌else◌, List, [], ◌∷◌}
use Rattle.std.specs.List.{list_any}
use Rattle.pb_data.specs.Ascii.{star, question_mark}

-- the byte belongs to a character, but is not the character's first byte
abbrev pub goes_on : ℕ → Bool
goes_on b = nat_le 128 b && nat_le b 191

-- the text without the leading bytes that continue a character
abbrev pub past_character : List ℕ → List ℕ
past_character [] = []
past_character (b ∷ rest) = if goes_on b then past_character rest else b ∷ rest

-- The test is true for some end of the name. An end is the whole name, the name without its first
-- byte, and so on.
abbrev pub some_end : (List ℕ → Bool) → List ℕ → Bool
some_end test [] = test []
some_end test (b ∷ rest) = test (b ∷ rest) || some_end test rest

-- the name begins with one character, and the test is true for the rest
abbrev pub one_then : (List ℕ → Bool) → List ℕ → Bool
one_then test [] = false
one_then test (b ∷ rest) = test (past_character rest)

-- the name begins with this byte, and the test is true for the rest
abbrev pub byte_then : ℕ → (List ℕ → Bool) → List ℕ → Bool
byte_then c test [] = false
byte_then c test (b ∷ rest) = (b == c) && test rest

-- The name begins with what `c` matches, and the test is true for the rest. `*` matches any text,
-- `?` one character, and every other byte itself.
abbrev pub first_then : ℕ → (List ℕ → Bool) → List ℕ → Bool
first_then c test name = if c == star then some_end test name else (if c == question_mark then one_then test name else byte_then c test name)

abbrev pub is_end : List ℕ → Bool
is_end [] = true
is_end (b ∷ rest) = false

-- the pattern matches the whole name
abbrev pub matches : List ℕ → List ℕ → Bool
matches [] name = is_end name
matches (c ∷ pattern) name = first_then c (λ rest. matches pattern rest) name

-- a text is a glob if it contains `*` or `?`
abbrev pub is_glob : List ℕ → Bool
is_glob text = list_any (λ b. b == star || b == question_mark) text
