-- Laws: each message line has exactly one line feed, which is its last byte.
use Rattle.std.specs.Prelude.{◌≡◌, ℕ, ◌==◌, Bool, true, false, not, ◌&&◌, List, [], ◌∷◌}
use Rattle.std.specs.List.{AllByRecursion}
use Rattle.pb_data.specs.Ascii.{line_feed}
use Rattle.pb_directive.specs.Lines.{has_byte}
use Rattle.pb_message.specs.Diagnostics.{diagnostics_of}
use Rattle.pb_message.specs.Message.{line_of, finish_line}
use Rattle.pb_message.specs.declared.subject.Subject.{Subject}
use Rattle.pb_message.specs.declared.message.Message.{Message}
use Rattle.pb_message.specs.declared.message.Message.TheVariants.{CompilerMessage}

-- the bytes have exactly one line feed, which is the last byte
abbrev pub is_line : List ℕ → Bool
is_line [] = false
is_line (b ∷ []) = b == line_feed
is_line (b ∷ c ∷ bytes) = not (b == line_feed) && is_line (c ∷ bytes)

-- the text has no line feed
abbrev pub IsOfOneLine : List ℕ → Type 0
IsOfOneLine text = has_byte 10 text ≡ false

-- if the message is a diagnostic, its text has no line feed; only the text of a diagnostic is
-- copied byte for byte
abbrev pub TellsOneLine : Message → Type 0
TellsOneLine (CompilerMessage text) = IsOfOneLine text
TellsOneLine _ = Unit {0}

-- The line of a message has exactly one line feed, at its end, whatever package and target the
-- message is about. The text of a diagnostic must have no line feed.
abbrev pub MessagesAreLines : Type 0
MessagesAreLines = (subject : Subject) (fresh : Bool) (message : Message) → TellsOneLine message → is_line (line_of subject fresh message) ≡ true

-- the finish line of a build has exactly one line feed, at its end
abbrev pub BuildsEndInLine : Type 0
BuildsEndInLine = (success : Bool) → is_line (finish_line success) ≡ true

-- no diagnostic in a compiler's standard error has a line feed
abbrev pub DiagnosticsAreLines : Type 0
DiagnosticsAreLines = (stderr : List ℕ) → AllByRecursion IsOfOneLine (diagnostics_of stderr)
