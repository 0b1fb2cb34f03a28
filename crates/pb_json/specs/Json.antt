-- JSON texts, as `serde_json` defines them.
use Rattle.std.specs.Prelude.{ℕ, List}
use Rattle.serde_json.specs.Data as json
use Rattle.serde_json.specs.Written.{compact_text}

-- a text as a JSON string
abbrev pub json_string : List ℕ → List ℕ
json_string text = compact_text (json.string text)
