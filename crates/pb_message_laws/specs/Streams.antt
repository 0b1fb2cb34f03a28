-- What is found in a compiler's standard error, line by line (The Cargo Book, External Tools).
use Rattle.std.specs.Prelude.{◌≡◌, ◌≢◌, ℕ, true, List, [], ◌∷◌, ◌++◌, Some}
use Rattle.std.specs.Str.{is_utf8}
use Rattle.pb_directive.specs.Lines.{lines_of, trimmed}
use Rattle.pb_message.specs.Diagnostics.{diagnostics_of, plain_lines_of}
use Rattle.serde_json.specs.Data.{Members, object}
use Rattle.serde_json.specs.Read.{read}
use Rattle.pb_data.specs.Ascii.{line_feed}

-- the text is a JSON object, written as UTF-8
abbrev pub IsObject : List ℕ → Type 0
IsObject text = (is_utf8 text ≡ true) × ((members : Members) × (read text ≡ Some (object members)))

-- These lines contain these diagnostics and this plain text.
-- - A line is a diagnostic if it is a JSON object once the blanks at its ends are removed.
-- - A blank line is ignored.
-- - Any other line is plain text, and is copied unchanged.
pub data AreSaid : List (List ℕ) → List (List ℕ) → List ℕ → Type 0 where
  nothing : AreSaid [] [] []
  diagnostic : (line : List ℕ) (lines texts : List (List ℕ)) (plain : List ℕ) (is : IsObject (trimmed line)) (more : AreSaid lines texts plain) → AreSaid (line ∷ lines) (trimmed line ∷ texts) plain
  blank : (line : List ℕ) (lines texts : List (List ℕ)) (plain : List ℕ) (is : trimmed line ≡ []) (more : AreSaid lines texts plain) → AreSaid (line ∷ lines) texts plain
  other : (line : List ℕ) (lines texts : List (List ℕ)) (plain : List ℕ) (some : trimmed line ≢ []) (no : IsObject (trimmed line) → ⊥) (more : AreSaid lines texts plain) → AreSaid (line ∷ lines) texts (line ++ line_feed ∷ plain)

-- the diagnostics and the plain text of a standard error are those that `AreSaid` defines
abbrev pub CompilersSay : Type 0
CompilersSay = (stderr : List ℕ) → AreSaid (lines_of stderr) (diagnostics_of stderr) (plain_lines_of stderr)
