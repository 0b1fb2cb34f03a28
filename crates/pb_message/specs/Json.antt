-- How values are written as JSON, without spaces outside strings.
use Rattle.std.specs.Prelude.{ℕ, codes, List, [], ◌∷◌, ◌++◌, map}
use Rattle.pb_data.specs.Ascii.{comma, open_bracket}
use Rattle.pb_json.specs.Json.{json_string}

-- the texts, one after another, with a comma before each text
abbrev pub after_commas : List (List ℕ) → List ℕ
after_commas [] = []
after_commas (x ∷ xs) = comma ∷ x ++ after_commas xs

-- the values in brackets, with commas between them
abbrev pub listed : List (List ℕ) → List ℕ
listed [] = codes "[]"
listed (x ∷ xs) = open_bracket ∷ x ++ after_commas xs ++ codes "]"

-- a list of texts as an array of JSON strings
abbrev pub json_texts : List (List ℕ) → List ℕ
json_texts texts = listed (map json_string texts)

-- The text `["NAME","VALUE"]` for a name with its value. `json_pairs` is an array of such texts.
abbrev pub json_pair : List ℕ × List ℕ → List ℕ
json_pair pair = open_bracket ∷ json_string pair.0 ++ comma ∷ json_string pair.1 ++ codes "]"

abbrev pub json_pairs : List (List ℕ × List ℕ) → List ℕ
json_pairs pairs = listed (map json_pair pairs)
