-- Lists of texts without repeats, in order of first mention.
use Rattle.std.specs.Prelude.{ℕ, not, Bool, List, [], ◌∷◌, ◌++◌, if◌then◌else◌, filter}
use Rattle.std.specs.List.{list_any, IsDistinct}
use Rattle.std.specs.Str.{bytes_eq}

-- the list contains the text
abbrev pub is_mentioned : List (List ℕ) → List ℕ → Bool
is_mentioned texts text = list_any (bytes_eq text) texts

-- the texts, with one more text at the end, unless the list already contains this text
abbrev pub mentioned : List (List ℕ) → List ℕ → List (List ℕ)
mentioned texts text = if is_mentioned texts text then texts else texts ++ text ∷ []

-- The first list, to which the texts of the second list are added one by one. A text that the list
-- already contains is not added again.
abbrev pub mentioned_all : List (List ℕ) → List (List ℕ) → List (List ℕ)
mentioned_all texts [] = texts
mentioned_all texts (text ∷ more) = mentioned_all (mentioned texts text) more

-- the texts that differ from the given text
abbrev pub without : List ℕ → List (List ℕ) → List (List ℕ)
without text texts = filter (λ other. not (bytes_eq text other)) texts

-- all different texts of the list, each once, in order of first mention
abbrev pub once : List (List ℕ) → List (List ℕ)
once [] = []
once (text ∷ texts) = text ∷ without text (once texts)

-- no text occurs twice
abbrev pub EachOnce : List (List ℕ) → Type 0
EachOnce texts = IsDistinct bytes_eq texts
