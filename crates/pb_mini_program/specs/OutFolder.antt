-- The folder into which the files of a reply are put.
use Rattle.std.specs.Prelude.{ℕ, Bool, false, List, [], ◌∷◌, codes, if◌then◌else◌, Option, Some, None, option_and_then, Result, Ok, Err}
use Rattle.std.specs.Str.{bytes_eq}
use Rattle.std.specs.FinMap as map
use Rattle.pb_place_types.specs.World.{World}
use Rattle.pb_mini.specs.CommandLine.{takes_value}
use Rattle.pb_mini.specs.Lookups.{path_of}
use Rattle.pb_mini.specs.Answer.{request_of}
use Rattle.pb_mini.specs.declared.command_line.CommandLineFault.{CommandLineFault}
use Rattle.pb_mini.specs.declared.request.Request.{Request}
use Rattle.pb_mini.specs.declared.request.Request.TheVariants.{Version, Run, Compile}
use Rattle.pb_mini_program.specs.declared.out_folder.Waiting.{Waiting}
use Rattle.pb_mini_program.specs.declared.out_folder.Waiting.TheVariants.{Folder, Other}

-- the folder that `OUT_DIR` names, if `OUT_DIR` is set to an absolute path
abbrev pub out_dir_variable : World → Option (List ℕ)
out_dir_variable w = option_and_then path_of (map.get w.variables (codes "OUT_DIR"))

-- The folder into which the files of a request are put. A compile has this folder in its arguments,
-- and a run in the variable `OUT_DIR`.
abbrev pub folder_for : Result Request CommandLineFault → World → Option (List ℕ)
folder_for (Ok Version) w = None
folder_for (Ok (Run path)) w = out_dir_variable w
folder_for (Ok (Compile line)) w = Some line.out_dir
folder_for (Err e) w = None

abbrev pub out_folder : List (List ℕ) → World → Option (List ℕ)
out_folder words w = folder_for (request_of words) w

-- the arguments request the run of an image
abbrev pub asks_run : List (List ℕ) → Bool
asks_run [] = false
asks_run (word ∷ []) = false
asks_run (word ∷ path ∷ []) = bytes_eq word (codes "--run")
asks_run (word ∷ other ∷ next ∷ words) = false

-- Suppose that this argument is not a value. The next argument is either the folder, or the value
-- of another option, or no value.
abbrev pub waiting_after : List ℕ → Option Waiting
waiting_after word = if bytes_eq word (codes "--out-dir") then Some Folder else (if takes_value word then Some Other else None)

-- The first value of `--out-dir` among these arguments. If an option still needs a value, the first
-- argument is this value.
abbrev pub first_out_dir : Option Waiting → List (List ℕ) → Option (List ℕ)
first_out_dir waiting [] = None
first_out_dir (Some Folder) (word ∷ words) = Some word
first_out_dir (Some Other) (word ∷ words) = first_out_dir None words
first_out_dir None (word ∷ words) = first_out_dir (waiting_after word) words
