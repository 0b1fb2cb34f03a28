-- What the small compiler reads is named by normalised absolute paths.
use Rattle.std.proofs.Common.{◌≡◌, ℕ, ◌+◌, if◌then◌else◌, Bool, true, false, cond, List, [], ◌∷◌, ◌++◌, Option, Some, None, Result, Ok, Err, refl, sym, ap}
use Rattle.std.specs.List.{AllByRecursion}
use Rattle.pb_place_types.specs.Paths.{is_absolute, has_byte_0, parsed, path_of, names_of, is_path}
use Rattle.pb_place_types.specs.World.{World}
use Rattle.pb_place_types.specs.declared.path.PathFault.{PathFault}
use Rattle.pb_place_types.specs.declared.path.PathFault.TheVariants.{NotAbsolute, BadByte}
use Rattle.pb_place_types.proofs.PathLemmas.{parsed_is_path}
use Rattle.pb_mini.specs.Compile.{text_at, source_effects, effects_of}
use Rattle.pb_mini.specs.Effects.{no_effects, reads}
use Rattle.pb_mini.specs.Lookups as look
use Rattle.pb_mini.specs.Lines.{lines_of, word_in, rest_of}
use Rattle.pb_mini.specs.Scope.{scope_of}
use Rattle.pb_mini.specs.Verbs.{line_meant, expanded, used, library_path, variable_of, include_path, asks_for, included_lines, include_effect, is_passed_over, verb_of, effect_by, effect_meant, effect_of, effects_from}
use Rattle.pb_mini.specs.declared.command_line.CommandLine.{CommandLine}
use Rattle.pb_mini.specs.declared.scope.Scope.{Scope}
use Rattle.pb_mini.specs.declared.verbs.Verb.{Verb}
use Rattle.pb_mini.specs.declared.verbs.Verb.TheVariants.{Use, Include}

abbrev pub ArePaths : List (List ℕ) → Type 0
ArePaths paths = AllByRecursion (λ path. is_path path ≡ true) paths

paths_both : (a b : List (List ℕ)) → ArePaths a → ArePaths b → ArePaths (a ++ b)
paths_both [] b one other = other
paths_both (path ∷ a) b one other = (one.0, paths_both a b one.1 other)

-- a text that was read as a path gives one
pub parsed_path_is : (text path : List ℕ) → parsed text ≡ Ok path → is_path path ≡ true
parsed_path_is text path is = by (is_absolute text) (has_byte_0 text) refl is
  where
    by : (absolute byte : Bool) → has_byte_0 text ≡ byte → cond absolute (cond byte (Err BadByte) (Ok (path_of (names_of text)))) (Err NotAbsolute) ≡ Ok path → is_path path ≡ true
    by false byte plain is = absurd (cc)
    by true true plain is = absurd (cc)
    by true false plain is = let same : path_of (names_of text) ≡ path = cc in parsed_is_path text path plain (sym same)

pub said_is_path : (said : Result (List ℕ) PathFault) (path : List ℕ) → look.path_said said ≡ Some path → said ≡ Ok path
said_is_path (Ok found) path is = let same : found ≡ path = cc in ap Ok same
said_is_path (Err fault) path is = absurd (cc)

read_paths : (text : List ℕ) (path : Option (List ℕ)) → look.path_said (parsed text) ≡ path → ArePaths (reads path).names.paths
read_paths text None is = tt
read_paths text (Some path) is = (parsed_path_is text path (said_is_path (parsed text) path is), tt)

joined_paths : (folder text : List ℕ) (path : Option (List ℕ)) → look.path_from folder text ≡ path → ArePaths (reads path).names.paths
joined_paths folder text path is = read_paths (if is_absolute text then text else folder ++ 47 ∷ text) path is

asked_paths : (variable : Option (List ℕ × Option (List ℕ))) → ArePaths (asks_for variable).names.paths
asked_paths None = tt
asked_paths (Some variable) = tt

line_paths : (number : ℕ) (path : List ℕ) (found : Option (List ℕ)) → ArePaths (included_lines number path found).names.paths
line_paths number path None = tt
line_paths number path (Some bytes) = tt

module _ (scope : Scope) (w : World) where
  used_paths : (number : ℕ) (line rest : List ℕ) (found : Option (List ℕ)) → ArePaths (used number line rest found).names.paths
  used_paths number line rest None = tt
  used_paths number line rest (Some bytes) = tt

  include_paths : (number : ℕ) (path : List ℕ) → ArePaths (include_effect scope w number path).names.paths
  include_paths number path =
      paths_both (asks_for (variable_of scope.pairs w path)).names.paths ((reads (include_path scope w path)).names.paths ++ (included_lines number path (look.file_at w (include_path scope w path))).names.paths)
      (asked_paths (variable_of scope.pairs w path))
      (paths_both (reads (include_path scope w path)).names.paths (included_lines number path (look.file_at w (include_path scope w path))).names.paths
      (joined_paths scope.folder (expanded path (variable_of scope.pairs w path)) (include_path scope w path) refl) (line_paths number path (look.file_at w (include_path scope w path))))

  by_paths : (verb : Verb) (number : ℕ) (line rest : List ℕ) → ArePaths (effect_by verb scope w number line rest).names.paths
  by_paths Use number line rest = used_paths number line rest (look.file_at w (library_path scope rest))
  by_paths Include number line rest = include_paths number rest
  by_paths _ number line rest = tt

  meant_paths : (number : ℕ) (line : List ℕ) → ArePaths (effect_meant scope w number line).names.paths
  meant_paths number line = by (is_passed_over line)
    where
      by : (r : Bool) → ArePaths (cond r no_effects (effect_by (verb_of (word_in line)) scope w number line (rest_of line))).names.paths
      by true = tt
      by false = by_paths (verb_of (word_in line)) number line (rest_of line)

  lines_paths : (before : ℕ) (lines : List (List ℕ)) → ArePaths (effects_from scope w before lines).names.paths
  lines_paths before [] = tt
  lines_paths before (line ∷ lines) =
      paths_both (effect_of scope w (before + 1) line).names.paths (effects_from scope w (before + 1) lines).names.paths (meant_paths (before + 1) (line_meant scope.conditions line)) (lines_paths (before + 1) lines)

source_paths : (line : CommandLine) (pairs : List (List ℕ × List ℕ)) (w : World) (source text : Option (List ℕ)) → ArePaths (source_effects line pairs w source text).names.paths
source_paths line pairs w None text = tt
source_paths line pairs w (Some source) None = tt
source_paths line pairs w (Some source) (Some text) = lines_paths (scope_of line pairs source) w 0 (lines_of text)

-- the paths that a compile reads
pub compile_paths : (line : CommandLine) (pairs : List (List ℕ × List ℕ)) (w : World) → ArePaths (effects_of line pairs w).names.paths
compile_paths line pairs w =
    paths_both (reads (look.path_of line.source)).names.paths (source_effects line pairs w (look.path_of line.source) (text_at w (look.path_of line.source))).names.paths
    (read_paths line.source (look.path_of line.source) refl) (source_paths line pairs w (look.path_of line.source) (text_at w (look.path_of line.source)))
