-- What a command line and a source can look up in the world: files by their paths, and the values
-- of variables.
use Rattle.std.specs.Prelude.{ℕ, List, Option, Some, None, option_and_then, Result, Ok, Err}
use Rattle.std.specs.Option.{option_or}
use Rattle.std.specs.FinMap as map
use Rattle.pb_data.specs.Table.{value_at}
use Rattle.pb_place_types.specs.Paths.{parsed, joined}
use Rattle.pb_place_types.specs.World.{World}
use Rattle.pb_place_types.specs.declared.path.PathFault.{PathFault}

abbrev pub path_said : Result (List ℕ) PathFault → Option (List ℕ)
path_said (Ok path) = Some path
path_said (Err e) = None

-- the path that a text spells, if the text is absolute and has no byte 0
abbrev pub path_of : List ℕ → Option (List ℕ)
path_of text = path_said (parsed text)

-- the path that a text spells from a folder, if the text has no byte 0
abbrev pub path_from : List ℕ → List ℕ → Option (List ℕ)
path_from folder text = path_said (joined folder text)

-- the bytes of the file at a path, if there is a path and a file
abbrev pub file_at : World → Option (List ℕ) → Option (List ℕ)
file_at w path = option_and_then (λ p. map.get w.files p) path

-- the value that the pairs set for a variable, or else the variable's inherited value, if there is
-- one
abbrev pub value_of : List (List ℕ × List ℕ) → World → List ℕ → Option (List ℕ)
value_of pairs w name = option_or (value_at name pairs) (map.get w.variables name)
