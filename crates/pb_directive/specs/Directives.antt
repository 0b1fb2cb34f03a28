-- What a build script's output means (The Cargo Book, "Build Scripts", "Outputs of the Build
-- Script").
use Rattle.std.specs.Prelude.{◌≡◌, ◌≢◌, ℕ, ◌+◌, ◌==◌, not, Bool, List, [], ◌∷◌, ◌++◌, if◌then◌else◌, codes, length, filter, Option, Some, None, Result, Ok, Err, MatchResult}
use Rattle.std.specs.List.{slice_split}
use Rattle.std.specs.Str.{bytes_eq}
use Rattle.pb_data.specs.Ascii.{space, equals}
use Rattle.pb_data.specs.UnlessOom.{◌>>=◌, lifted}
use Rattle.pb_directive.specs.Faults.{fault_at}
use Rattle.pb_directive.specs.Lines.{lines_of, trimmed, text_of, has_byte, after_prefix, split_first}
use Rattle.pb_directive.specs.declared.directive.Directive.{Directive}
use Rattle.pb_directive.specs.declared.directive.Directive.TheVariants as says
use Rattle.pb_directive.specs.declared.directive.Key.{Key}
use Rattle.pb_directive.specs.declared.directive.Key.TheVariants as key
use Rattle.pb_directive.specs.declared.fault.LineFault.{LineFault}
use Rattle.pb_directive.specs.declared.fault.Problem.{Problem}
use Rattle.pb_directive.specs.declared.fault.Problem.TheVariants as problem

abbrev pub is_empty : List ℕ → Bool
is_empty text = length text == 0

-- ---- the forms of a value

-- the value, which must not have byte 0
abbrev pub plain : List ℕ → Result (List ℕ) Problem
plain value = if has_byte 0 value then Err problem.BadValue else Ok value

-- the value, which must not be empty or have byte 0
abbrev pub filled : List ℕ → Result (List ℕ) Problem
filled value = if is_empty value then Err problem.BadValue else plain value

-- the name of a variable, which must not be empty or have `=` or byte 0
abbrev pub variable : List ℕ → Result (List ℕ) Problem
variable value = if has_byte 61 value then Err problem.BadValue else filled value

-- what comes before and after the first `=` of a value, which must have `=` and no byte 0
abbrev pub halves_of : Option (List ℕ × List ℕ) → Result (List ℕ × List ℕ) Problem
halves_of None = Err problem.BadValue
halves_of (Some halves) = Ok halves

abbrev pub halves : List ℕ → Result (List ℕ × List ℕ) Problem
halves value = plain value >>= (λ text. halves_of (split_first equals text))

-- the name and the value in `NAME=VALUE`; the name must not be empty
abbrev pub named_value : List ℕ → Result (List ℕ × List ℕ) Problem
named_value value = halves value >>= (λ p. if is_empty p.0 then Err problem.BadValue else Ok p)

-- ---- the flags of `rustc-flags`

-- the words of a text: the parts between spaces, without empty parts
abbrev pub words_of : List ℕ → List (List ℕ)
words_of text = filter (λ word. not (is_empty word)) (slice_split (λ b. b == space) text)

-- the words with one more word in front, unless this word is empty
abbrev pub some_word : List ℕ → List (List ℕ) → List (List ℕ)
some_word word words = if is_empty word then words else word ∷ words

-- the name that follows a flag's letter, if the name is not empty
abbrev pub flag_name : Option (List ℕ) → Option (List ℕ)
flag_name None = None
flag_name (Some name) = if is_empty name then None else Some name

abbrev pub search_flag : Option (List ℕ) → Result Directive Problem
search_flag None = Err problem.BadFlag
search_flag (Some name) = Ok (says.LinkSearch name)

abbrev pub library_flag : Option (List ℕ) → Result Directive Problem → Result Directive Problem
library_flag None other = other
library_flag (Some name) other = Ok (says.LinkLib name)

-- the flag that one word `-lX` or `-LX` means
abbrev pub flag_of : List ℕ → Result Directive Problem
flag_of word = library_flag (flag_name (after_prefix (codes "-l") word)) (search_flag (flag_name (after_prefix (codes "-L") word)))

-- The flags that these words mean. A flag is one word `-lX` or `-LX`, or it is `-l` or `-L` with
-- its X in the next word.
abbrev pub flags_of : List (List ℕ) → Result (List Directive) Problem
flags_of [] = Ok []
flags_of (word ∷ []) = flag_of word >>= (λ flag. Ok (flag ∷ []))
flags_of (word ∷ next ∷ words) =
    if bytes_eq word (codes "-l") then flags_of words >>= (λ more. Ok (says.LinkLib next ∷ more))
    else (if bytes_eq word (codes "-L") then flags_of words >>= (λ more. Ok (says.LinkSearch next ∷ more))
    else flag_of word >>= (λ flag. flags_of (next ∷ words) >>= (λ more. Ok (flag ∷ more))))

-- the next word was taken as a name, unless memory ran out; without a next word the flag is bad
abbrev pub NextName : Result (List ℕ) Problem → List (List ℕ) → List (List ℕ) → Type 0
NextName result old new = MatchResult result (λ name. old ≡ name ∷ new) (λ e. e ≢ problem.OutOfMemory → (e ≡ problem.BadFlag) × (old ≡ []))

-- Unless memory ran out, `word` and the words in `old` mean the flag that was taken, followed by
-- the flags of `new`. If the flag is refused, these words have the flag's fault.
abbrev pub TakesFlag : Result Directive Problem → List ℕ → List (List ℕ) → List (List ℕ) → Type 0
TakesFlag result word old new = MatchResult result (λ flag. flags_of (word ∷ old) ≡ flags_of new >>= (λ more. Ok (flag ∷ more))) (λ e. e ≢ problem.OutOfMemory → flags_of (word ∷ old) ≡ Err e)

-- ---- the table of keys

-- the key that a name spells both after `cargo::` and after `cargo:`, if there is one
abbrev pub key_of : List ℕ → Option Key
key_of name =
    if bytes_eq name (codes "rerun-if-changed") then Some key.RerunIfChanged
    else (if bytes_eq name (codes "rerun-if-env-changed") then Some key.RerunIfEnvChanged
    else (if bytes_eq name (codes "rustc-link-arg") then Some key.LinkArg
    else (if bytes_eq name (codes "rustc-link-arg-bins") then Some key.LinkArgBins
    else (if bytes_eq name (codes "rustc-link-arg-cdylib") then Some key.LinkArgCdylib
    else (if bytes_eq name (codes "rustc-link-arg-tests") then Some key.LinkArgTests
    else (if bytes_eq name (codes "rustc-link-arg-examples") then Some key.LinkArgExamples
    else (if bytes_eq name (codes "rustc-link-arg-benches") then Some key.LinkArgBenches
    else (if bytes_eq name (codes "rustc-link-arg-bin") then Some key.LinkArgBin
    else (if bytes_eq name (codes "rustc-link-lib") then Some key.LinkLib
    else (if bytes_eq name (codes "rustc-link-search") then Some key.LinkSearch
    else (if bytes_eq name (codes "rustc-cfg") then Some key.Cfg
    else (if bytes_eq name (codes "rustc-check-cfg") then Some key.CheckCfg
    else (if bytes_eq name (codes "rustc-flags") then Some key.Flags
    else (if bytes_eq name (codes "rustc-env") then Some key.Env
    else (if bytes_eq name (codes "warning") then Some key.Warning
    else None)))))))))))))))

-- the key that a name spells after `cargo::`, if there is one
abbrev pub new_key_of : List ℕ → Option Key
new_key_of name =
    if bytes_eq name (codes "metadata") then Some key.Metadata
    else (if bytes_eq name (codes "error") then Some key.Error
    else key_of name)

abbrev pub one : Directive → Result (List Directive) Problem
one directive = Ok (directive ∷ [])

-- the directives of a line that has this key and this value
abbrev pub directives_at : Key → List ℕ → Result (List Directive) Problem
directives_at key.RerunIfChanged value = filled value >>= (λ path. one (says.RerunIfChanged path))
directives_at key.RerunIfEnvChanged value = variable value >>= (λ name. one (says.RerunIfEnvChanged name))
directives_at key.LinkArg value = plain value >>= (λ flag. one (says.LinkArg flag))
directives_at key.LinkArgBins value = plain value >>= (λ flag. one (says.LinkArgBins flag))
directives_at key.LinkArgCdylib value = plain value >>= (λ flag. one (says.LinkArgCdylib flag))
directives_at key.LinkArgTests value = plain value >>= (λ flag. one (says.LinkArgTests flag))
directives_at key.LinkArgExamples value = plain value >>= (λ flag. one (says.LinkArgExamples flag))
directives_at key.LinkArgBenches value = plain value >>= (λ flag. one (says.LinkArgBenches flag))
directives_at key.LinkArgBin value = halves value >>= (λ p. one (says.LinkArgBin p.0 p.1))
directives_at key.LinkLib value = filled value >>= (λ name. one (says.LinkLib name))
directives_at key.LinkSearch value = filled value >>= (λ folder. one (says.LinkSearch folder))
directives_at key.Cfg value = filled value >>= (λ condition. one (says.Cfg condition))
directives_at key.CheckCfg value = filled value >>= (λ condition. one (says.CheckCfg condition))
directives_at key.Flags value = plain value >>= (λ text. flags_of (words_of text))
directives_at key.Env value = named_value value >>= (λ p. one (says.Env p.0 p.1))
directives_at key.Metadata value = named_value value >>= (λ p. one (says.Metadata p.0 p.1))
directives_at key.Warning value = one (says.Warning value)
directives_at key.Error value = one (says.Error value)

-- ---- a line

-- the directives of a key after `cargo::`; the key must be known
abbrev pub known : Option Key → List ℕ → Result (List Directive) Problem
known None value = Err problem.UnknownKey
known (Some k) value = directives_at k value

abbrev pub new_setting : Option (List ℕ × List ℕ) → Result (List Directive) Problem
new_setting None = Err problem.BadValue
new_setting (Some p) = known (new_key_of p.0) p.1

abbrev pub metadata : List ℕ → List ℕ → Result Directive Problem
metadata name value = filled name >>= (λ k. plain value >>= (λ v. Ok (says.Metadata k v)))

-- the directives of a key after `cargo:`; a key that is not in the table is metadata
abbrev pub or_metadata : Option Key → List ℕ → List ℕ → Result (List Directive) Problem
or_metadata None name value = metadata name value >>= one
or_metadata (Some k) name value = directives_at k value

abbrev pub old_setting : Option (List ℕ × List ℕ) → Result (List Directive) Problem
old_setting None = Ok []
old_setting (Some p) = or_metadata (key_of p.0) p.0 p.1

abbrev pub old_line : Option (List ℕ) → Result (List Directive) Problem
old_line None = Ok []
old_line (Some setting) = old_setting (split_first equals setting)

abbrev pub new_line : Option (List ℕ) → List ℕ → Result (List Directive) Problem
new_line None text = old_line (after_prefix (codes "cargo:") text)
new_line (Some setting) text = new_setting (split_first equals setting)

abbrev pub text_directives : Option (List ℕ) → Result (List Directive) Problem
text_directives None = Ok []
text_directives (Some text) = new_line (after_prefix (codes "cargo::") text) text

-- the directives of a line, or the line's fault
abbrev pub line_directives : List ℕ → Result (List Directive) Problem
line_directives line = text_directives (text_of (trimmed line))

-- ---- a text

-- The directives of these lines, in order, or the fault of the first line with a fault. Lines are
-- counted from `number`.
abbrev pub directives_from : ℕ → List (List ℕ) → Result (List Directive) LineFault
directives_from number [] = Ok []
directives_from number (line ∷ lines) =
    lifted (fault_at number) (line_directives line) >>= (λ here.
    directives_from (number + 1) lines >>= (λ more.
    Ok (here ++ more)))

-- the directives of a text, or the text's first fault
abbrev pub directives_of : List ℕ → Result (List Directive) LineFault
directives_of bytes = directives_from 1 (lines_of bytes)

-- Unless memory ran out, the directives of a line were added at the end, or the result is the
-- line's fault.
abbrev pub Adds : {U : Type 0} → Result U Problem → List Directive → List Directive → Result (List Directive) Problem → Type 0
Adds result old new answer = MatchResult result (λ _. (answer >>= (λ more. Ok (old ++ more))) ≡ Ok new) (λ e. e ≢ problem.OutOfMemory → answer ≡ Err e)
