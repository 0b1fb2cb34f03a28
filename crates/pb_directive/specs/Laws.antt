-- Words for laws about texts that follow one another.
use Rattle.std.specs.Prelude.{ℕ, ◌+◌, List, ◌∷◌, ◌++◌, length, Result, Ok}
use Rattle.pb_data.specs.Ascii.{line_feed}
use Rattle.pb_data.specs.UnlessOom.{◌>>=◌, lifted}
use Rattle.pb_directive.specs.DepInfo.{joined}
use Rattle.pb_directive.specs.Lines.{lines_of}
use Rattle.pb_directive.specs.declared.dep_info.DepInfo.{DepInfo}
use Rattle.pb_directive.specs.declared.directive.Directive.{Directive}
use Rattle.pb_directive.specs.declared.fault.LineFault.{LineFault}
use Rattle.pb_directive.specs.declared.fault.LineFault.TheVariants as fault

-- the same fault, in a line that comes n lines later
abbrev pub later_by : ℕ → LineFault → LineFault
later_by lines (fault.NotText number) = fault.NotText (lines + number)
later_by lines (fault.UnknownKey number) = fault.UnknownKey (lines + number)
later_by lines (fault.BadValue number) = fault.BadValue (lines + number)
later_by lines (fault.BadFlag number) = fault.BadFlag (lines + number)
later_by lines fault.OutOfMemory = fault.OutOfMemory

-- a text, then a line feed, then another text
abbrev pub followed_by : List ℕ → List ℕ → List ℕ
followed_by text more = text ++ line_feed ∷ more

-- The directives of the first text, followed by the directives of the second text, or the first
-- fault. For a fault of the second text, the line's number also counts the lines of the first text.
abbrev pub then_said : ℕ → Result (List Directive) LineFault → Result (List Directive) LineFault → Result (List Directive) LineFault
then_said lines first second = first >>= (λ said. lifted (later_by lines) second >>= (λ more. Ok (said ++ more)))

-- The names of the first text, followed by the names of the second text, or the first fault. Lines
-- are numbered as in `then_said`.
abbrev pub then_named : ℕ → Result DepInfo LineFault → Result DepInfo LineFault → Result DepInfo LineFault
then_named lines first second = first >>= (λ named. lifted (later_by lines) second >>= (λ more. Ok (joined named more)))

-- the number of lines of a text
abbrev pub line_count : List ℕ → ℕ
line_count text = length (lines_of text)
