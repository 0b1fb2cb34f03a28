-- A script, which is the run of an image.
use Rattle.std.specs.Prelude.{◌≡◌, ℕ, pos, ◌==◌, ◌*◌, ◌+◌, ◌-◌, nat_lt, Bool, not, ◌&&◌, if◌then◌else◌, codes, List, [], ◌∷◌, ◌++◌, Option, Some, None, unwrap_or}
use Rattle.std.specs.List.{list_any, before_first}
use Rattle.std.specs.Str.{bytes_eq}
use Rattle.pb_data.specs.Ascii.{line_feed, slash}
use Rattle.pb_place_types.specs.Paths.{is_absolute, is_relative}
use Rattle.pb_place_types.specs.World.{World}
use Rattle.pb_place_types.specs.declared.child.Reply.{Reply}
use Rattle.pb_mini.specs.Compile.{text_of, text_at}
use Rattle.pb_mini.specs.Lines.{lines_of, word_in, rest_of, ended}
use Rattle.pb_mini.specs.Lookups.{path_of, file_at, value_of}
use Rattle.pb_mini.specs.declared.script.Deed.{Deed}
use Rattle.pb_mini.specs.declared.script.Deed.TheVariants.{Print, Show, Read, Put, Exit, Skip}
use Rattle.pb_mini.specs.declared.output.Output.{Output}

-- a reply with this status, no output and no files
abbrev pub ending : ℕ → Reply
ending status = record { status = pos status; stdout = []; stderr = []; files = [] }

abbrev pub no_output : Output
no_output = record { stdout = []; files = [] }

-- the reply, with this output put in front of the reply's own output
abbrev pub before : Output → Reply → Reply
before output reply = record reply { stdout = output.stdout ++ reply.stdout; files = output.files ++ reply.files }

-- ---- the step of a line: it writes something and the script continues, or the script ends with a
-- status

pub data Step : Type 0 where
  Writes : (output : Output) → Step
  Ends : (status : ℕ) → Step

abbrev pub prints : List ℕ → Step
prints text = Writes (record no_output { stdout = text })

-- the step of `print TEXT`, which prints the text as a line
abbrev pub printed : List ℕ → Step
printed text = prints (ended text)

-- What `show NAME` prints: lines that declare the variable, and set SHOW_NAME to the variable's
-- value. If the variable is not set, this value is empty.
abbrev pub shown_text : List ℕ → List ℕ → List ℕ
shown_text name value = ended (codes "cargo::rerun-if-env-changed=" ++ name) ++ ended (codes "cargo::rustc-env=SHOW_" ++ name ++ codes "=" ++ value)

abbrev pub shown : List ℕ → Option (List ℕ) → Step
shown name value = prints (shown_text name (unwrap_or value []))

-- the first line of a text
abbrev pub first_line : List ℕ → List ℕ
first_line text = before_first (λ b. b == line_feed) text

-- What `read PATH` prints: a line that declares the path. If there is a file at the path and the
-- file is a text, another line sets READ to the file's first line.
abbrev pub first_line_set : Option (List ℕ) → List ℕ
first_line_set None = []
first_line_set (Some text) = ended (codes "cargo::rustc-env=READ=" ++ first_line text)

abbrev pub read_text : List ℕ → Option (List ℕ) → List ℕ
read_text path text = ended (codes "cargo::rerun-if-changed=" ++ path) ++ first_line_set text

abbrev pub was_read : List ℕ → Option (List ℕ) → Step
was_read path text = prints (read_text path text)

-- The path that `read` means. A relative path starts at the value of CARGO_MANIFEST_DIR, which is
-- empty if the variable is not set.
abbrev pub below_text : Option (List ℕ) → List ℕ → List ℕ
below_text folder path = unwrap_or folder [] ++ slash ∷ path

abbrev pub full_path : List (List ℕ × List ℕ) → World → List ℕ → List ℕ
full_path pairs w path = if is_absolute path then path else below_text (value_of pairs w (codes "CARGO_MANIFEST_DIR")) path

abbrev pub text_read : List (List ℕ × List ℕ) → World → List ℕ → Option (List ℕ)
text_read pairs w path = text_at w (path_of (full_path pairs w path))

-- The name in `put NAME TEXT` can be the name of a file: it is a relative path with only one part.
-- The next definition is the step of `put`.
abbrev pub is_file_name : List ℕ → Bool
is_file_name name = not (list_any (λ b. b == slash) name) && is_relative name

abbrev pub was_put : List ℕ → List ℕ → Step
was_put name text = if is_file_name name then Writes (record no_output { files = (name, ended text) ∷ [] }) else Ends 2

-- The byte is a decimal digit. The next definitions read `exit N`: N is a number from 0 to 255
-- without leading zeros, and any other text means 2.
abbrev pub is_digit : ℕ → Bool
is_digit b = not (nat_lt b 48) && nat_lt b 58

abbrev pub is_leading : ℕ → Bool
is_leading b = is_digit b && not (b == 48)

-- the value of a digit
abbrev pub digit : ℕ → ℕ
digit b = b - 48

abbrev pub three_digits : ℕ → ℕ → ℕ → ℕ
three_digits a b c =
    if is_leading a && is_digit b && is_digit c
    then (if nat_lt (digit a * 100 + digit b * 10 + digit c) 256 then digit a * 100 + digit b * 10 + digit c else 2)
    else 2

abbrev pub status_in : List ℕ → ℕ
status_in [] = 2
status_in (a ∷ []) = if is_digit a then digit a else 2
status_in (a ∷ b ∷ []) = if is_leading a && is_digit b then digit a * 10 + digit b else 2
status_in (a ∷ b ∷ c ∷ []) = three_digits a b c
status_in (a ∷ b ∷ c ∷ d ∷ text) = 2

-- ---- any line

abbrev pub deed_of : List ℕ → Deed
deed_of word =
    if bytes_eq word (codes "print") then Print
    else if bytes_eq word (codes "show") then Show
    else if bytes_eq word (codes "read") then Read
    else if bytes_eq word (codes "put") then Put
    else if bytes_eq word (codes "exit") then Exit
    else Skip

abbrev pub step_by : Deed → List (List ℕ × List ℕ) → World → List ℕ → Step
step_by Print pairs w rest = printed rest
step_by Show pairs w rest = shown rest (value_of pairs w rest)
step_by Read pairs w rest = was_read rest (text_read pairs w rest)
step_by Put pairs w rest = was_put (word_in rest) (rest_of rest)
step_by Exit pairs w rest = Ends (status_in rest)
step_by Skip pairs w rest = Writes no_output

-- the step of a line; a line that is not UTF-8 does nothing
abbrev pub step_in : List (List ℕ × List ℕ) → World → Option (List ℕ) → Step
step_in pairs w None = Writes no_output
step_in pairs w (Some line) = step_by (deed_of (word_in line)) pairs w (rest_of line)

abbrev pub step_of : List (List ℕ × List ℕ) → World → List ℕ → Step
step_of pairs w line = step_in pairs w (text_of line)

-- ---- a script

-- the reply after a step: the step's output before the reply of the later lines, or only the status
-- if the step ends the script
abbrev pub after_step : Step → Reply → Reply
after_step (Writes output) reply = before output reply
after_step (Ends status) reply = ending status

-- the reply to these lines, one after another; a script that reaches its end succeeds
abbrev pub lines_run : List (List ℕ × List ℕ) → World → List (List ℕ) → Reply
lines_run pairs w [] = ending 0
lines_run pairs w (line ∷ lines) = after_step (step_of pairs w line) (lines_run pairs w lines)

abbrev pub no_image : Reply
no_image = record (ending 2) { stderr = codes "mini: no image\n" }

abbrev pub image_run : List (List ℕ × List ℕ) → World → Option (List ℕ) → Reply
image_run pairs w None = no_image
image_run pairs w (Some bytes) = lines_run pairs w (lines_of bytes)

-- the reply to the run of the image at this path
abbrev pub ran : List ℕ → List (List ℕ × List ℕ) → World → Reply
ran path pairs w = image_run pairs w (file_at w (path_of path))

-- ---- for private functions: the output after a step; a status means that the script has ended

abbrev pub goes_on : Option ℕ → Reply → Reply
goes_on None reply = reply
goes_on (Some status) reply = ending status

abbrev pub Goes : Option ℕ → Output → Output → Step → Type 0
Goes ends new old step = (later : Reply) → before new (goes_on ends later) ≡ before old (after_step step later)

abbrev pub Wrote : Output → Output → Step → Type 0
Wrote new old step = Goes None new old step
