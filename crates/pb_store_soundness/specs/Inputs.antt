-- Inputs: what a unit's answer rests on, besides the unit's command and the units that this unit
-- reaches. `IsHonest` says when a child repeats a good reply.
use Rattle.std.specs.Prelude.{◌≡◌, ℕ, true, List, map, length, drop, ◌+◌, Option, Some, None}
use Rattle.std.specs.FinMap as finite
use Rattle.std.specs.List.{AllByRecursion, list_any}
use Rattle.pb_place_types.specs.Folders.{files_in}
use Rattle.pb_place_types.specs.Paths.{stem, is_below}
use Rattle.pb_place_types.specs.World.{World, Map, Answers, seen_by, from_nothing}
use Rattle.pb_place_types.specs.declared.command.Command.{Command}
use Rattle.pb_place_types.specs.declared.child.Reply.{Reply}
use Rattle.pb_record.specs.declared.record.InputName.{InputName}
use Rattle.pb_record.specs.declared.record.InputName.TheVariants.{Path, Variable}
use Rattle.pb_record.specs.declared.record.Input.{Input}
use Rattle.pb_record.specs.declared.record.Input.TheVariants.{File, Tree, Value}

-- the files below a folder, with their paths inside the folder, in byte order
abbrev pub contents : List ℕ → Map → List (List ℕ × List ℕ)
contents folder m = map (λ (e : List ℕ × List ℕ). (drop (length (stem folder) + 1) e.0, e.1)) (finite.entries (files_in folder m))

-- the input of a path: the bytes of the file at the path, or, if there is no file, the files below
-- the path
abbrev pub path_input : List ℕ → Map → Option (List ℕ) → Input
path_input path m (Some bytes) = File path bytes
path_input path m None = Tree path (contents path m)

-- The input with this name and its present value. The value of a path is what the sources have at
-- the path, so nothing at or below the target folder counts. The value of a variable is the
-- inherited text, if there is one.
abbrev pub input_in : List ℕ → World → InputName → Input
input_in target w (Path path) = path_input path (from_nothing target w).files (finite.get (from_nothing target w).files path)
input_in target w (Variable name) = Value name (finite.get w.variables name)

-- the name of an input
abbrev pub name_of : Input → InputName
name_of (File path bytes) = Path path
name_of (Tree path files) = Path path
name_of (Value name text) = Variable name

-- in this world, each of these inputs has the recorded value
abbrev pub Agrees : List ℕ → List Input → World → Type 0
Agrees target inputs w = AllByRecursion (λ i. input_in target w (name_of i) ≡ i) inputs

-- the two worlds have the same files below these folders
abbrev pub SameBelow : List (List ℕ) → Map → Map → Type 0
SameBelow folders m n = (q : List ℕ) → list_any (λ folder. is_below folder q) folders ≡ true → finite.get n q ≡ finite.get m q

-- the reply of a child to a command, given what the child sees of the world
abbrev pub reply_in : Answers → Command → World → Reply
reply_in child c w = child c (seen_by c w)

-- A judge decides whether a reply to a command is good. For a good reply the judge returns the
-- names of the inputs, and for a bad reply `None`.
abbrev pub Judge : Type 0
Judge = Command → Reply → Option (List InputName)

-- A child is honest on a command in a world if the child repeats a good reply in each world that
-- agrees on two things: the values of the reply's inputs and the files below the folders that the
-- command may read. A bad reply need not be repeated.
abbrev pub IsHonest : Judge → Answers → Command → World → Type 0
IsHonest judge child c v = (w : World) (names : List InputName) → judge c (reply_in child c v) ≡ Some names
    → AllByRecursion (λ name. input_in c.target w name ≡ input_in c.target v name) names → SameBelow c.reads v.files w.files → reply_in child c w ≡ reply_in child c v
