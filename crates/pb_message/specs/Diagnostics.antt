-- What a compiler writes to its standard error (The Cargo Book, External Tools). The compiler's
-- diagnostics are the lines that are JSON objects, byte for byte.
use Rattle.std.specs.Prelude.{ℕ, Bool, true, false, if◌then◌else◌, List, [], ◌∷◌, ◌++◌, Option, Some, None}
use Rattle.serde_json.specs.Data as json
use Rattle.serde_json.specs.Read.{read}
use Rattle.pb_data.specs.Ascii.{line_feed}
use Rattle.pb_directive.specs.Lines.{lines_of, trimmed, text_of}

abbrev pub is_object : json.Data → Bool
is_object (json.object _) = true
is_object _ = false

abbrev pub reads_as_object : Option json.Data → Bool
reads_as_object None = false
reads_as_object (Some d) = is_object d

-- the text, if it is a JSON object
abbrev pub object_text : Option (List ℕ) → Option (List ℕ)
object_text None = None
object_text (Some text) = if reads_as_object (read text) then Some text else None

-- the line without the blanks at its two ends, if the rest is a diagnostic
abbrev pub diagnostic_in : List ℕ → Option (List ℕ)
diagnostic_in line = object_text (text_of (trimmed line))

abbrev pub and_more : Option (List ℕ) → List (List ℕ) → List (List ℕ)
and_more None texts = texts
and_more (Some text) texts = text ∷ texts

-- the diagnostics among these lines, in order
abbrev pub diagnostics_in : List (List ℕ) → List (List ℕ)
diagnostics_in [] = []
diagnostics_in (line ∷ lines) = and_more (diagnostic_in line) (diagnostics_in lines)

-- the diagnostics in what a compiler wrote to its standard error
abbrev pub diagnostics_of : List ℕ → List (List ℕ)
diagnostics_of stderr = diagnostics_in (lines_of stderr)

-- the line with a line feed, or no text if the line is blank or a diagnostic
abbrev pub plain_by : List ℕ → Option (List ℕ) → List ℕ → List ℕ
plain_by [] found line = []
plain_by (b ∷ bytes) (Some text) line = []
plain_by (b ∷ bytes) None line = line ++ line_feed ∷ []

abbrev pub plain_in : List ℕ → List ℕ
plain_in line = plain_by (trimmed line) (diagnostic_in line) line

abbrev pub plain_lines_in : List (List ℕ) → List ℕ
plain_lines_in [] = []
plain_lines_in (line ∷ lines) = plain_in line ++ plain_lines_in lines

-- the lines of a compiler's standard error that are neither blank nor diagnostics, each with a line
-- feed
abbrev pub plain_lines_of : List ℕ → List ℕ
plain_lines_of stderr = plain_lines_in (lines_of stderr)
