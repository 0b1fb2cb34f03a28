-- What a script declares, and which declarations the builder can read.
use Rattle.std.specs.Prelude.{◌≡◌, ℕ, not, Bool, true, false, List, [], ◌∷◌, ◌++◌, Option, Some, None}
use Rattle.pb_directive.specs.Lines.{has_byte, is_blank}
use Rattle.pb_place_types.specs.World.{World}
use Rattle.pb_mini.specs.Compile.{text_of}
use Rattle.pb_mini.specs.Lines.{lines_of, word_in, rest_of}
use Rattle.pb_mini.specs.Script.{Step, Writes, Ends, deed_of, step_of}
use Rattle.pb_mini.specs.declared.script.Deed.{Deed}
use Rattle.pb_mini.specs.declared.script.Deed.TheVariants.{Show, Read}

-- the text is not empty, and does not end with a blank
abbrev pub ends_visibly : List ℕ → Bool
ends_visibly [] = false
ends_visibly (b ∷ []) = not (is_blank b)
ends_visibly (b ∷ c ∷ bytes) = ends_visibly (c ∷ bytes)

-- a directive can express the text: it ends visibly, and is one line
pub record CanBeSaid (text : List ℕ) : Type 0 where
  pub ends : ends_visibly text ≡ true
  pub one_line : has_byte 10 text ≡ false

-- the names and paths that a line declares, as they are written
abbrev pub declared_by : Deed → List ℕ → List (List ℕ)
declared_by Show rest = rest ∷ []
declared_by Read rest = rest ∷ []
declared_by _ rest = []

abbrev pub declared_in : Option (List ℕ) → List (List ℕ)
declared_in None = []
declared_in (Some line) = declared_by (deed_of (word_in line)) (rest_of line)

-- what the lines after a step declare; if the step ends the script, these lines declare nothing
abbrev pub declared_after : Step → List (List ℕ) → List (List ℕ)
declared_after (Writes output) texts = texts
declared_after (Ends status) texts = []

-- the names and paths that the lines of a script declare
abbrev pub declared_of : List (List ℕ × List ℕ) → World → List (List ℕ) → List (List ℕ)
declared_of pairs w [] = []
declared_of pairs w (line ∷ lines) = declared_in (text_of line) ++ declared_after (step_of pairs w line) (declared_of pairs w lines)

abbrev pub declared_in_image : List (List ℕ × List ℕ) → World → Option (List ℕ) → List (List ℕ)
declared_in_image pairs w None = []
declared_in_image pairs w (Some bytes) = declared_of pairs w (lines_of bytes)
