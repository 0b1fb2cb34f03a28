-- The effects of each line of a source.
use Rattle.std.specs.Prelude.{ℕ, ◌==◌, ◌+◌, Bool, true, ◌||◌, if◌then◌else◌, codes, List, [], ◌∷◌, ◌++◌, Option, Some, None, unwrap_or}
use Rattle.std.specs.List.{before_first, slice_split}
use Rattle.std.specs.Option.{option_map, option_and_then}
use Rattle.std.specs.Str.{bytes_eq}
use Rattle.std.specs.List.{join_with_byte}
use Rattle.pb_data.specs.Ascii.{space, hash, dollar, slash}
use Rattle.pb_data.specs.OrderedSet.{is_mentioned}
use Rattle.pb_data.specs.Table.{value_at}
use Rattle.pb_place_types.specs.World.{World}
use Rattle.pb_mini.specs.DepInfo.{value_text}
use Rattle.pb_mini.specs.Effects.{no_effects, joined, copied, copied_file, diagnosed, reads, asks}
use Rattle.pb_mini.specs.Lines.{word_in, rest_of}
use Rattle.pb_mini.specs.Lookups.{path_of, path_from, file_at, value_of}
use Rattle.pb_mini.specs.declared.diagnostic.Level.TheVariants.{Warning, Error}
use Rattle.pb_mini.specs.declared.effects.Effects.{Effects}
use Rattle.pb_mini.specs.declared.scope.Scope.{Scope}
use Rattle.pb_mini.specs.declared.verbs.Verb.{Verb}
use Rattle.pb_mini.specs.declared.verbs.Verb.TheVariants.{Use, Include, Env, Warn, Fail, Copied, Unknown}

-- ---- `when COND LINE`

-- The words of a line without each `when COND` at its front. If one of these conditions is not
-- given, there are no words.
abbrev pub without_conditions : List (List ℕ) → List (List ℕ) → List (List ℕ)
without_conditions given [] = []
without_conditions given (word ∷ []) = if bytes_eq word (codes "when") then [] else word ∷ []
without_conditions given (word ∷ condition ∷ words) =
    if bytes_eq word (codes "when") then (if is_mentioned given condition then without_conditions given words else [])
    else word ∷ condition ∷ words

-- what remains of a line if these conditions are given
abbrev pub line_meant : List (List ℕ) → List ℕ → List ℕ
line_meant given line = join_with_byte space (without_conditions given (slice_split (λ b. b == space) line))

-- What remains of a line. `found` is the condition and the rest, if the line begins with `when`.
-- Any other line remains as it is.
abbrev pub meant_at : List (List ℕ) → List ℕ → Option (List ℕ × List ℕ) → List ℕ
meant_at given line None = line
meant_at given line (Some found) = if is_mentioned given found.0 then line_meant given found.1 else []

-- ---- `use NAME`

-- the path of a library's file, as the command line spells it
abbrev pub library_path : Scope → List ℕ → Option (List ℕ)
library_path scope name = option_and_then path_of (value_at name scope.libraries)

-- The effect of `use NAME`. Either the line is added, and then each line of the library's file. Or
-- an error reports that there is no such library.
abbrev pub used : ℕ → List ℕ → List ℕ → Option (List ℕ) → Effects
used number line name None = diagnosed Error (codes "no library " ++ name) number
used number line name (Some bytes) = joined (copied line) (copied_file (codes "> ") bytes)

abbrev pub use_effect : Scope → World → ℕ → List ℕ → List ℕ → Effects
use_effect scope w number line name = used number line name (file_at w (library_path scope name))

-- ---- `include PATH`

-- the text from its first slash on
abbrev pub from_slash : List ℕ → List ℕ
from_slash [] = []
from_slash (b ∷ bytes) = if b == slash then b ∷ bytes else from_slash bytes

-- the variable that the first part of a path names, as in `$NAME/x`
abbrev pub variable_in : List ℕ → Option (List ℕ)
variable_in [] = None
variable_in (b ∷ path) = if b == dollar then Some (before_first (λ c. c == slash) path) else None

-- the name of a variable, with the variable's value if the variable is set
abbrev pub variable_at : List (List ℕ × List ℕ) → World → List ℕ → List ℕ × Option (List ℕ)
variable_at pairs w name = (name, value_of pairs w name)

abbrev pub variable_of : List (List ℕ × List ℕ) → World → List ℕ → Option (List ℕ × Option (List ℕ))
variable_of pairs w path = option_map (variable_at pairs w) (variable_in path)

-- An included path with its variable replaced. If the first part names a variable, the variable's
-- value replaces this part. If the variable is not set, the value is empty.
abbrev pub expanded : List ℕ → Option (List ℕ × Option (List ℕ)) → List ℕ
expanded path None = path
expanded path (Some variable) = unwrap_or variable.1 [] ++ from_slash path

-- the path of an included file, if the path has no byte 0
abbrev pub include_path : Scope → World → List ℕ → Option (List ℕ)
include_path scope w path = path_from scope.folder (expanded path (variable_of scope.pairs w path))

abbrev pub asks_for : Option (List ℕ × Option (List ℕ)) → Effects
asks_for None = no_effects
asks_for (Some variable) = asks variable.0 variable.1

-- The effect of adding the lines of an included file. If there is no such file, the path is
-- reported as it was written.
abbrev pub included_lines : ℕ → List ℕ → Option (List ℕ) → Effects
included_lines number path None = diagnosed Error (codes "no file " ++ path) number
included_lines number path (Some bytes) = copied_file (codes "| ") bytes

-- the effect of `include PATH`: the variable and the file are read, and the file's lines are added
abbrev pub included : ℕ → List ℕ → Option (List ℕ × Option (List ℕ)) → Option (List ℕ) → Option (List ℕ) → Effects
included number written variable path found = joined (asks_for variable) (joined (reads path) (included_lines number written found))

abbrev pub include_effect : Scope → World → ℕ → List ℕ → Effects
include_effect scope w number path = included number path (variable_of scope.pairs w path) (include_path scope w path) (file_at w (include_path scope w path))

-- ---- `env NAME`

-- the line `env NAME=VALUE`, or `env NAME` if the variable is not set
abbrev pub env_line : List ℕ → Option (List ℕ) → List ℕ
env_line name value = codes "env " ++ name ++ value_text value

-- the effect of `env NAME`: the variable is read, and the variable's line is added
abbrev pub told : List ℕ → Option (List ℕ) → Effects
told name value = joined (asks name value) (copied (env_line name value))

abbrev pub env_effect : Scope → World → List ℕ → Effects
env_effect scope w name = told name (value_of scope.pairs w name)

-- ---- any line

abbrev pub verb_of : List ℕ → Verb
verb_of word =
    if bytes_eq word (codes "use") then Use
    else if bytes_eq word (codes "include") then Include
    else if bytes_eq word (codes "env") then Env
    else if bytes_eq word (codes "warn") then Warn
    else if bytes_eq word (codes "fail") then Fail
    else if bytes_eq word (codes "print") || bytes_eq word (codes "show") || bytes_eq word (codes "read") || bytes_eq word (codes "put") || bytes_eq word (codes "exit") then Copied
    else Unknown

-- the line does nothing, because it is empty or begins with `#`
abbrev pub is_passed_over : List ℕ → Bool
is_passed_over [] = true
is_passed_over (b ∷ bytes) = b == hash

-- the effect of a line with this number; `verb` is the line's first word, and `rest` is the rest of
-- the line
abbrev pub effect_by : Verb → Scope → World → ℕ → List ℕ → List ℕ → Effects
effect_by Use scope w number line rest = use_effect scope w number line rest
effect_by Include scope w number line rest = include_effect scope w number rest
effect_by Env scope w number line rest = env_effect scope w rest
effect_by Warn scope w number line rest = diagnosed Warning rest number
effect_by Fail scope w number line rest = diagnosed Error rest number
effect_by Copied scope w number line rest = copied line
effect_by Unknown scope w number line rest = diagnosed Error (codes "unknown line") number

abbrev pub effect_meant : Scope → World → ℕ → List ℕ → Effects
effect_meant scope w number line = if is_passed_over line then no_effects else effect_by (verb_of (word_in line)) scope w number line (rest_of line)

abbrev pub effect_of : Scope → World → ℕ → List ℕ → Effects
effect_of scope w number line = effect_meant scope w number (line_meant scope.conditions line)

-- the effects of these lines, one after another; `before` lines of the text come before these lines
abbrev pub effects_from : Scope → World → ℕ → List (List ℕ) → Effects
effects_from scope w before [] = no_effects
effects_from scope w before (line ∷ lines) = joined (effect_of scope w (before + 1) line) (effects_from scope w (before + 1) lines)
