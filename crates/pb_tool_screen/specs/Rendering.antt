-- The text that is shown for a message line.
use Rattle.std.specs.Prelude.{ℕ, List, [], ◌++◌, Option, Some, None, codes, if◌then◌else◌, option_and_then, unwrap_or}
use Rattle.std.specs.Option.{option_map_or}
use Rattle.std.specs.Str.{bytes_eq}
use Rattle.serde_json.specs.Data.{Data}
use Rattle.serde_json.specs.Find.{as_str, pointer}
use Rattle.serde_json.specs.Read.{read as read_text}

-- the text at a path in a JSON value, if there is one
abbrev pub text_at : List ℕ → Data → Option (List ℕ)
text_at path value = option_and_then as_str (pointer path value)

abbrev pub text_or_none : List ℕ → Data → List ℕ
text_or_none path value = unwrap_or (text_at path value) []

-- a line with a level and a text
abbrev pub told : List ℕ → List ℕ → List ℕ
told level text = level ++ codes ": " ++ text ++ codes "\n"

-- a line with the level and the text that a JSON value has at these paths
abbrev pub told_at : List ℕ → List ℕ → Data → List ℕ
told_at level text value = told (text_or_none level value) (text_or_none text value)

-- The compiler's own text of a diagnostic. If there is no such text, this is a line with the
-- diagnostic's level and message.
abbrev pub rendered_or : Option (List ℕ) → Data → List ℕ
rendered_or (Some rendered) value = rendered
rendered_or None value = told_at (codes "/message/level") (codes "/message/message") value

abbrev pub diagnostic_shown : Data → List ℕ
diagnostic_shown value = rendered_or (text_at (codes "/message/rendered") value) value

-- the line for a warning or an error of a script
abbrev pub note_shown : Data → List ℕ
note_shown value = told_at (codes "/level") (codes "/text") value

-- the text of a diagnostic or of a script's note, or no text for any other line
abbrev pub value_shown : Data → List ℕ
value_shown value =
    if bytes_eq (text_or_none (codes "/reason") value) (codes "compiler-message") then diagnostic_shown value
    else (if bytes_eq (text_or_none (codes "/reason") value) (codes "build-script-note") then note_shown value else [])

-- the text of a message line, or no text if the line is not JSON
abbrev pub line_shown : List ℕ → List ℕ
line_shown line = option_map_or value_shown (read_text line) []
