-- Which files and variables a compiler's dep-info names (The Cargo Book, "Build Cache", "Dep-Info
-- Files").
use Rattle.std.specs.Prelude.{◌≡◌, ◌≢◌, ℕ, ◌+◌, ◌==◌, ◌&&◌, not, Bool, true, List, [], ◌∷◌, ◌++◌, if◌then◌else◌, codes, filter, is_some, Option, Some, None, Result, Ok, Err, MatchResult}
use Rattle.std.specs.List.{onto_first, before_first}
use Rattle.std.specs.Str.Lines.{strip_carriage_return}
use Rattle.pb_data.specs.Ascii.{space, colon, equals, backslash}
use Rattle.pb_data.specs.UnlessOom.{◌>>=◌, lifted}
use Rattle.pb_data.specs.OrderedSet.{mentioned_all, once}
use Rattle.pb_directive.specs.Directives.{is_empty}
use Rattle.pb_directive.specs.Faults.{fault_at}
use Rattle.pb_directive.specs.Lines.{lines_of, text_of, has_byte, after_prefix}
use Rattle.pb_directive.specs.declared.dep_info.DepInfo.{DepInfo}
use Rattle.pb_directive.specs.declared.fault.LineFault.{LineFault}
use Rattle.pb_directive.specs.declared.fault.Problem.{Problem}
use Rattle.pb_directive.specs.declared.fault.Problem.TheVariants as problem

abbrev pub nothing : DepInfo
nothing = record { words = []; variables = [] }

abbrev pub one_variable : List ℕ → DepInfo
one_variable name = record { words = []; variables = name ∷ [] }

abbrev pub only_words : List (List ℕ) → DepInfo
only_words words = record { words = words; variables = [] }

abbrev pub joined : DepInfo → DepInfo → DepInfo
joined a b = record { words = a.words ++ b.words; variables = a.variables ++ b.variables }

-- ---- a rule

-- these bytes may follow the colon that ends a rule's outputs: there are none, or the first byte is
-- a space
abbrev pub ends_outputs : List ℕ → Bool
ends_outputs [] = true
ends_outputs (b ∷ bytes) = b == space

-- what follows the outputs of a rule, if a colon ends the outputs
abbrev pub after_outputs : List ℕ → Option (List ℕ)
after_outputs [] = None
after_outputs (b ∷ bytes) = if (b == colon) && ends_outputs bytes then Some bytes else after_outputs bytes

-- The parts between spaces. The bytes `\ ` are a space inside a part, and any other `\` stands for
-- itself.
abbrev pub parts_of : List ℕ → List (List ℕ)
parts_of [] = [] ∷ []
parts_of (b ∷ []) = if b == space then [] ∷ [] ∷ [] else (b ∷ []) ∷ []
parts_of (b ∷ c ∷ bytes) =
    if b == space then [] ∷ parts_of (c ∷ bytes)
    else (if (b == backslash) && (c == space) then onto_first space (parts_of bytes)
    else onto_first b (parts_of (c ∷ bytes)))

-- the parts of a rule that are not empty
abbrev pub rule_words : List ℕ → List (List ℕ)
rule_words bytes = filter (λ part. not (is_empty part)) (parts_of bytes)

-- The words that a rule names. A rule is refused if no colon ends the rule's outputs, or if byte 0
-- occurs after the outputs.
abbrev pub rule_info : Option (List ℕ) → Result DepInfo Problem
rule_info None = Err problem.BadValue
rule_info (Some rest) = if has_byte 0 rest then Err problem.BadValue else Ok (only_words (rule_words rest))

-- ---- a line

-- The variable that `NAME` or `NAME=VALUE` names. A name that is empty or has byte 0 is refused.
abbrev pub variable_info : List ℕ → Result DepInfo Problem
variable_info text =
    let name = before_first (λ b. b == equals) text in
    if is_empty name then Err problem.BadValue
    else (if has_byte 0 name then Err problem.BadValue
    else Ok (one_variable name))

-- what a line that begins with `#` names: a variable after `# env-dep:`, and nothing otherwise
abbrev pub comment_info : Option (List ℕ) → Result DepInfo Problem
comment_info None = Ok nothing
comment_info (Some variable) = variable_info variable

abbrev pub full_line : List ℕ → Result DepInfo Problem
full_line text =
    if is_some (after_prefix (codes "#") text) then comment_info (after_prefix (codes "# env-dep:") text)
    else rule_info (after_outputs text)

abbrev pub text_info : Option (List ℕ) → Result DepInfo Problem
text_info None = Err problem.NotText
text_info (Some text) = if is_empty text then Ok nothing else full_line text

-- what a line names, or the line's fault
abbrev pub line_info : List ℕ → Result DepInfo Problem
line_info line = text_info (text_of (strip_carriage_return line))

-- ---- a text

-- What the lines name, line by line, or the fault of the first line with a fault. Lines are counted
-- from `number`.
abbrev pub info_from : ℕ → List (List ℕ) → Result DepInfo LineFault
info_from number [] = Ok nothing
info_from number (line ∷ lines) =
    lifted (fault_at number) (line_info line) >>= (λ here.
    info_from (number + 1) lines >>= (λ more.
    Ok (joined here more)))

-- each word and each variable once, in order of first mention
abbrev pub each_once : DepInfo → DepInfo
each_once info = record { words = once info.words; variables = once info.variables }

-- all names in a text, line by line and with repeats
abbrev pub all_names_of : List ℕ → Result DepInfo LineFault
all_names_of bytes = info_from 1 (lines_of bytes)

-- what a text names, each name once, or the text's first fault
abbrev pub dep_info_of : List ℕ → Result DepInfo LineFault
dep_info_of bytes = all_names_of bytes >>= (λ info. Ok (each_once info))

-- the old names, to which the later names are added
abbrev pub with_info : DepInfo → DepInfo → DepInfo
with_info old more = record { words = mentioned_all old.words more.words; variables = mentioned_all old.variables more.variables }

-- Unless memory ran out, the names in a line were added to the old names, or the result is the
-- line's fault.
abbrev pub AddsInfo : {U : Type 0} → Result U Problem → DepInfo → DepInfo → Result DepInfo Problem → Type 0
AddsInfo result old new answer = MatchResult result (λ _. (answer >>= (λ more. Ok (with_info old more))) ≡ Ok new) (λ e. e ≢ problem.OutOfMemory → answer ≡ Err e)

-- the parts, with this text in front of the first part
abbrev pub onto_part : List ℕ → List (List ℕ) → List (List ℕ)
onto_part front [] = front ∷ []
onto_part front (part ∷ parts) = (front ++ part) ∷ parts
