-- How a record describes the command that its child was given.
use Rattle.std.specs.Prelude.{◌≡◌, true, if◌then◌else◌, Option, Some, None, List, ℕ}
use Rattle.pb_place_types.specs.declared.command.Command.{Command}
use Rattle.pb_record.specs.Sorted.{are_sorted}
use Rattle.pb_record.specs.declared.recorded_command.RecordedCommand.{RecordedCommand}

-- the command that the record describes
abbrev pub command_of : RecordedCommand → Command
command_of a = record {
  program = a.program;
  words = a.words;
  folder = a.folder;
  pairs = a.pairs;
  out = Some a.out;
  target = a.target;
  toolchain = a.toolchain;
  reads = a.reads;
}

-- How a record describes a command with this output folder. `asked_in` does the same for any
-- command. The command must have an output folder, and its variables must be sorted by name, each
-- name once.
abbrev pub of_parts : Command → List ℕ → RecordedCommand
of_parts c out = record {
  program = c.program;
  words = c.words;
  folder = c.folder;
  pairs = c.pairs;
  out = out;
  target = c.target;
  toolchain = c.toolchain;
  reads = c.reads;
}

abbrev pub asked_with : Command → Option (List ℕ) → Option RecordedCommand
asked_with c None = None
asked_with c (Some out) = if are_sorted c.pairs then Some (of_parts c out) else None

abbrev pub asked_in : Command → Option RecordedCommand
asked_in c = asked_with c c.out

-- the record and the command agree in all parts; their variables may differ
pub record AsksAs (a : RecordedCommand) (c : Command) : Type 0 where
  pub program : a.program ≡ c.program
  pub words : a.words ≡ c.words
  pub folder : a.folder ≡ c.folder
  pub out : Some a.out ≡ c.out
  pub target : a.target ≡ c.target
  pub toolchain : a.toolchain ≡ c.toolchain
  pub reads : a.reads ≡ c.reads

-- If a command is written to a record, the command that the record describes is this command.
abbrev pub AskedIsCommand : Type 0
AskedIsCommand = (c : Command) (a : RecordedCommand) → asked_in c ≡ Some a → command_of a ≡ c

-- Take the command that a record describes, and write it to a new record. If the variables are
-- sorted, the new record describes the command in the same way.
abbrev pub CommandIsAsked : Type 0
CommandIsAsked = (a : RecordedCommand) → are_sorted a.pairs ≡ true → asked_in (command_of a) ≡ Some a

-- If a record and a command agree, and have the same variables, the command is the one that the
-- record describes.
abbrev pub SameAsked : Type 0
SameAsked = (a : RecordedCommand) (c : Command) → AsksAs a c → a.pairs ≡ c.pairs → command_of a ≡ c
