-- The lines of a text, and words at the beginning of a line.
use Rattle.std.specs.Prelude.{ℕ, ◌==◌, ◌-◌, if◌then◌else◌, List, [], ◌∷◌, ◌++◌, length, take, slice_index}
use Rattle.std.specs.List.{onto_first, before_first, after_first}
use Rattle.pb_data.specs.Ascii.{line_feed, space, equals}

-- The lines of a text. Only a line feed ends a line. If there is text after the last line feed,
-- this text is also a line.
abbrev pub lines_of : List ℕ → List (List ℕ)
lines_of [] = []
lines_of (b ∷ bytes) = if b == line_feed then [] ∷ lines_of bytes else onto_first b (lines_of bytes)

-- the text before the first space, or the whole text if there is no space
abbrev pub word_in : List ℕ → List ℕ
word_in line = before_first (λ b. b == space) line

-- the text after the first space, or the empty text if there is no space
abbrev pub rest_of : List ℕ → List ℕ
rest_of line = after_first (λ b. b == space) line

-- The text before the first `=`. `value_in` is the text after the first `=`.
abbrev pub name_in : List ℕ → List ℕ
name_in text = before_first (λ b. b == equals) text

abbrev pub value_in : List ℕ → List ℕ
value_in text = after_first (λ b. b == equals) text

-- the line, with a line feed at its end
abbrev pub ended : List ℕ → List ℕ
ended line = line ++ line_feed ∷ []

-- the lines, each with a mark before it and a line feed at its end
abbrev pub marked : List ℕ → List (List ℕ) → List ℕ
marked mark [] = []
marked mark (line ∷ lines) = mark ++ ended line ++ marked mark lines

-- the lines of a file, each with a mark before it and a line feed at its end
abbrev pub quoted : List ℕ → List ℕ → List ℕ
quoted mark bytes = marked mark (lines_of bytes)

-- ---- for private functions

-- the bytes without the line feed at their end, if there is one
abbrev pub without_feed : List ℕ → List ℕ
without_feed bytes = if slice_index bytes (length bytes - 1) == 10 then take (length bytes - 1) bytes else bytes
