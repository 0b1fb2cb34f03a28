-- The lines of a text, and parts of a line.
use Rattle.std.specs.Prelude.{ℕ, ◌==◌, ◌||◌, nat_lt, Bool, List, [], ◌∷◌, if◌then◌else◌, length, reverse, Option, Some, None}
use Rattle.std.specs.List.{slice_split, list_any, position_or_len, before_first, after_first}
use Rattle.std.specs.Str.{is_utf8}
use Rattle.pb_data.specs.Ascii.{tab, line_feed, carriage_return, space}

-- the lines of a text, which is split at line feeds; what follows the last line feed is also a line
abbrev pub lines_of : List ℕ → List (List ℕ)
lines_of bytes = slice_split (λ b. b == line_feed) bytes

-- the byte is a space, a tab or a carriage return
abbrev pub is_blank : ℕ → Bool
is_blank b = (b == space) || ((b == tab) || (b == carriage_return))

-- the bytes without the blanks at the front
abbrev pub trimmed_front : List ℕ → List ℕ
trimmed_front [] = []
trimmed_front (b ∷ bytes) = if is_blank b then trimmed_front bytes else b ∷ bytes

-- the bytes without the blanks at the end
abbrev pub trimmed_end : List ℕ → List ℕ
trimmed_end bytes = reverse (trimmed_front (reverse bytes))

-- the bytes without the blanks at both ends
abbrev pub trimmed : List ℕ → List ℕ
trimmed bytes = trimmed_end (trimmed_front bytes)

-- the bytes as a text, if they are UTF-8
abbrev pub text_of : List ℕ → Option (List ℕ)
text_of bytes = if is_utf8 bytes then Some bytes else None

-- the bytes contain this byte
abbrev pub has_byte : ℕ → List ℕ → Bool
has_byte byte bytes = list_any (λ b. b == byte) bytes

-- what follows the prefix, if the bytes begin with the prefix
abbrev pub after_prefix : List ℕ → List ℕ → Option (List ℕ)
after_prefix [] bytes = Some bytes
after_prefix (a ∷ prefix) [] = None
after_prefix (a ∷ prefix) (b ∷ bytes) = if a == b then after_prefix prefix bytes else None

-- the bytes before and after the first occurrence of this byte, if there is one
abbrev pub split_first : ℕ → List ℕ → Option (List ℕ × List ℕ)
split_first byte bytes = if nat_lt (position_or_len (λ b. b == byte) bytes) (length bytes) then Some (before_first (λ b. b == byte) bytes, after_first (λ b. b == byte) bytes) else None
