-- The part of a failing child's output that no message line contains. The words around this part
-- are our own choice.
use Rattle.std.specs.Prelude.{ℕ, ◌==◌, ◌-◌, if◌then◌else◌, codes, length, slice_get, List, [], ◌∷◌, ◌++◌, Option, Some, None}
use Rattle.pb_data.specs.Ascii.{line_feed}
use Rattle.pb_command_types.specs.declared.fault.UnitFault.{UnitFault}

abbrev pub feed_after : Option ℕ → List ℕ
feed_after None = []
feed_after (Some b) = if b == line_feed then [] else line_feed ∷ []

-- the bytes, followed by a line feed if the bytes do not end with a line feed
abbrev pub ended : List ℕ → List ℕ
ended bytes = bytes ++ feed_after (slice_get bytes (length bytes - 1))

-- A line with the bad unit's key, followed by the part of the child's output that no message line
-- contains. If this part is empty, there is no text.
abbrev pub said_by_bad : Option (List ℕ × UnitFault) → List ℕ → List ℕ
said_by_bad None said = []
said_by_bad (Some bad) [] = []
said_by_bad (Some bad) (b ∷ said) = bad.0 ++ codes " said:\n" ++ ended (b ∷ said)
