-- How arguments are read back as options and values, by the compiler's own grammar of options.
use Rattle.std.specs.Prelude.{◌≡◌, ℕ, if◌then◌else◌, List, [], ◌∷◌}
use Rattle.std.specs.List.{flat_map}
use Rattle.std.specs.Str.{bytes_eq}
use Rattle.pb_mini.specs.CommandLine.{takes_value}

-- What arguments say, in order. If an option takes a value, the next argument is its value. Any
-- other argument is a value without an option: the option's name is empty. An option at the end
-- that lacks its value also counts as a value without an option.
abbrev pub said_by : List (List ℕ) → List (List ℕ × List ℕ)
said_by [] = []
said_by (word ∷ []) = ([], word) ∷ []
said_by (word ∷ value ∷ words) = if takes_value word then (word, value) ∷ said_by words else ([], word) ∷ said_by (value ∷ words)

-- the arguments that express an option with its value, or a value without an option
abbrev pub words_of_saying : List ℕ → List ℕ → List (List ℕ)
words_of_saying [] word = word ∷ []
words_of_saying (byte ∷ option) value = (byte ∷ option) ∷ value ∷ []

-- Law: the arguments can be made again from what they say. So no argument is skipped, not even an
-- option at the end that lacks its value.
abbrev pub SayingsKeepWords : Type 0
SayingsKeepWords = (words : List (List ℕ)) → flat_map (λ (saying : List ℕ × List ℕ). words_of_saying saying.0 saying.1) (said_by words) ≡ words

-- the values that an option has, in order
abbrev pub values : List ℕ → List (List ℕ × List ℕ) → List (List ℕ)
values option [] = []
values option (saying ∷ said) = if bytes_eq option saying.0 then saying.1 ∷ values option said else values option said
