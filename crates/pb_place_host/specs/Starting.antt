-- The process that a place starts for a command.
use Rattle.std.specs.Prelude.{◌≡◌, ℕ, List, [], ◌∷◌, false, Option, Some, None, if◌then◌else◌}
use Rattle.std.specs.Str.{bytes_eq}
use Rattle.std.specs.Process.{command_program, command_args, command_var, command_dir, clears_env}
use Rattle.std.specs.declared.process.command.Command as process
use Rattle.pb_place_types.specs.declared.command.Command.{Command}

-- The value that pairs set for a variable. If several pairs have the variable's name, the last pair
-- counts. If no pair has this name, the earlier value stays.
abbrev pub value_over : List ℕ → Option (Option (List ℕ)) → List (List ℕ × List ℕ) → Option (Option (List ℕ))
value_over name before [] = before
value_over name before (pair ∷ pairs) = value_over name (if bytes_eq pair.0 name then Some (Some pair.1) else before) pairs

-- The process has the program at this path, the command's arguments in order, and the command's
-- folder. The process inherits the environment, in which only the command's pairs are changed.
pub record IsProcessOf {A : Type 0} (path : List ℕ) (command : Command) (made : process.Command A) : Type 0 where
  pub program : command_program made ≡ path
  pub words : command_args made ≡ command.words
  pub folder : command_dir made ≡ Some command.folder
  pub inherits : clears_env made ≡ false
  pub pairs : (name : List ℕ) → command_var made name ≡ value_over name None command.pairs
