-- What a compile or a run reads. The reply reports everything that was read, and depends on nothing
-- else.
use Rattle.std.specs.Prelude.{◌≡◌, ℕ, Bool, true, if◌then◌else◌, codes, List, [], ◌∷◌, Option, Some, None, Result, Ok, Err}
use Rattle.std.specs.List.{list_any, AllByRecursion}
use Rattle.std.specs.Str.{bytes_eq}
use Rattle.std.specs.FinMap as finite
use Rattle.pb_data.specs.OrderedSet.{once}
use Rattle.pb_data.specs.Table.{value_at, table_of}
use Rattle.pb_place_types.specs.Paths.{is_absolute, below, is_below}
use Rattle.pb_place_types.specs.World.{World}
use Rattle.pb_place_types.specs.declared.command.Command.{Command}
use Rattle.pb_mini.specs.Answer.{request_of, answered}
use Rattle.pb_mini.specs.Compile.{text_of, effects_of}
use Rattle.pb_mini.specs.DepInfo.{dep_info_text}
use Rattle.pb_mini.specs.Effects.{no_names, joined_names, reads, asks}
use Rattle.pb_mini.specs.Lines.{lines_of, word_in, rest_of}
use Rattle.pb_mini.specs.Lookups.{path_of, file_at, value_of}
use Rattle.pb_mini.specs.Scope.{libraries_of}
use Rattle.pb_mini.specs.Script.{Step, Writes, Ends, full_path, deed_of, step_of}
use Rattle.pb_mini.specs.declared.command_line.CommandLine.{CommandLine}
use Rattle.pb_mini.specs.declared.command_line.CommandLineFault.{CommandLineFault}
use Rattle.pb_mini.specs.declared.dep_info.Names.{Names}
use Rattle.pb_mini.specs.declared.request.Request.{Request}
use Rattle.pb_mini.specs.declared.request.Request.TheVariants.{Version, Run, Compile}
use Rattle.pb_mini.specs.declared.script.Deed.{Deed}
use Rattle.pb_mini.specs.declared.script.Deed.TheVariants.{Print, Show, Read, Put, Exit, Skip}

-- ---- the names of what is read

abbrev pub path_read : Option (List ℕ) → Names
path_read path = (reads path).names

abbrev pub variable_read : List ℕ → Option (List ℕ) → Names
variable_read name value = (asks name value).names

-- The verb `read PATH` reads the file at the path. If the path is relative, the verb also reads the
-- variable `CARGO_MANIFEST_DIR`.
abbrev pub base_read : List (List ℕ × List ℕ) → World → List ℕ → Names
base_read pairs w path = if is_absolute path then no_names else variable_read (codes "CARGO_MANIFEST_DIR") (value_of pairs w (codes "CARGO_MANIFEST_DIR"))

-- the names of what a line of a script reads, by the line's verb
abbrev pub names_by : Deed → List (List ℕ × List ℕ) → World → List ℕ → Names
names_by Print pairs w rest = no_names
names_by Show pairs w rest = variable_read rest (value_of pairs w rest)
names_by Read pairs w rest = joined_names (base_read pairs w rest) (path_read (path_of (full_path pairs w rest)))
names_by Put pairs w rest = no_names
names_by Exit pairs w rest = no_names
names_by Skip pairs w rest = no_names

abbrev pub names_in : List (List ℕ × List ℕ) → World → Option (List ℕ) → Names
names_in pairs w None = no_names
names_in pairs w (Some line) = names_by (deed_of (word_in line)) pairs w (rest_of line)

-- the names that are read after a step; if the step ends the script, the later lines read nothing
abbrev pub names_after : Step → Names → Names
names_after (Writes output) names = names
names_after (Ends status) names = no_names

abbrev pub names_of_lines : List (List ℕ × List ℕ) → World → List (List ℕ) → Names
names_of_lines pairs w [] = no_names
names_of_lines pairs w (line ∷ lines) = joined_names (names_in pairs w (text_of line)) (names_after (step_of pairs w line) (names_of_lines pairs w lines))

abbrev pub names_of_image : List (List ℕ × List ℕ) → World → Option (List ℕ) → Names
names_of_image pairs w None = no_names
names_of_image pairs w (Some bytes) = names_of_lines pairs w (lines_of bytes)

-- The names of all that a request reads, except a run's image and a compile's libraries.
abbrev pub names_of : Request → List (List ℕ × List ℕ) → World → Names
names_of Version pairs w = no_names
names_of (Run path) pairs w = names_of_image pairs w (file_at w (path_of path))
names_of (Compile line) pairs w = (effects_of line pairs w).names

abbrev pub names_if : Result Request CommandLineFault → List (List ℕ × List ℕ) → World → Names
names_if (Ok request) pairs w = names_of request pairs w
names_if (Err e) pairs w = no_names

abbrev pub names_read : List (List ℕ) → List (List ℕ × List ℕ) → World → Names
names_read words pairs w = names_if (request_of words) (table_of pairs) w

-- ---- two worlds that agree at names

abbrev pub SameFile : World → World → List ℕ → Type 0
SameFile v w path = finite.get w.files path ≡ finite.get v.files path

-- If the pairs do not set the variable, the variable has the same value in both worlds. If the
-- pairs set the variable, the inherited value is not read.
abbrev pub SameValue : List (List ℕ × List ℕ) → World → World → List ℕ × Option (List ℕ) → Type 0
SameValue pairs v w variable = value_at variable.0 pairs ≡ None → finite.get w.variables variable.0 ≡ finite.get v.variables variable.0

-- at each of these names, both worlds have the same file or value, or both have none
pub record SameAt (names : Names) (pairs : List (List ℕ × List ℕ)) (v w : World) : Type 0 where
  pub files : AllByRecursion (SameFile v w) names.paths
  pub variables : AllByRecursion (SameValue pairs v w) names.variables

-- the path is strictly below one of these folders
abbrev pub is_below_some : List (List ℕ) → List ℕ → Bool
is_below_some folders path = list_any (λ folder. is_below folder path) folders

abbrev pub SameBelow : List (List ℕ) → World → World → Type 0
SameBelow folders v w = (path : List ℕ) → is_below_some folders path ≡ true → SameFile v w path

-- ---- honesty

-- the image of a run, or the libraries of a compile, are strictly below these folders
abbrev pub GivenBelow : List (List ℕ) → Request → Type 0
GivenBelow folders Version = Unit {0}
GivenBelow folders (Run image) = (path : List ℕ) → path_of image ≡ Some path → is_below_some folders path ≡ true
GivenBelow folders (Compile line) = (name file path : List ℕ) → value_at name (libraries_of line.externs) ≡ Some file → path_of file ≡ Some path → is_below_some folders path ≡ true

-- The reply to a command is the same in two worlds that agree on what was read and on the files
-- below the command's `reads`. The image of a run and the libraries of a compile must be below
-- these folders.
abbrev pub AnswersHonestly : Command → World → World → Type 0
AnswersHonestly c v w = ((request : Request) → request_of c.words ≡ Ok request → GivenBelow c.reads request)
    → SameAt (names_read c.words c.pairs v) (table_of c.pairs) v w → SameBelow c.reads v w → answered c.words c.pairs w ≡ answered c.words c.pairs v

-- ---- reporting

-- The later of two files, if there is a later file, and otherwise the earlier file. `file_named` is
-- the last file with this name.
abbrev pub later_of : Option (List ℕ) → Option (List ℕ) → Option (List ℕ)
later_of earlier None = earlier
later_of earlier (Some bytes) = Some bytes

abbrev pub file_named : List ℕ → List (List ℕ × List ℕ) → Option (List ℕ)
file_named name [] = None
file_named name (file ∷ files) = later_of (if bytes_eq file.0 name then Some file.1 else None) (file_named name files)

-- the names without repeats, in order of first mention
abbrev pub each_once : Names → Names
each_once names = record { paths = once names.paths; variables = table_of names.variables }

-- The reply to this compile, good or bad, has a dep-info file. The dep-info lists the names of what
-- was read, each once.
abbrev pub TellsNames : List (List ℕ) → List (List ℕ × List ℕ) → World → CommandLine → Type 0
TellsNames words pairs w line = request_of words ≡ Ok (Compile line)
    → file_named line.dep_info (answered words pairs w).files ≡ Some (dep_info_text (below line.out_dir line.image) (each_once (names_read words pairs w)))
