-- A command against what was asked, part for part.
use Rattle.pb_place_types.specs.declared.command.Command.{Command}
use Rattle.pb_record.proofs.CommandLemmas.{same_asked}
use Rattle.pb_record.specs.Commands.{AsksAs}
use Rattle.pb_record.specs.declared.recorded_command.RecordedCommand.{RecordedCommand}
use Rattle.pb_store.proofs.Once.{asks_of, sets_of}
use Rattle.pb_store.specs.declared.difference.CommandPart.TheVariants.{Program, Words, Folder, Out, Target, Toolchain, Reads}
use Rattle.pb_build_laws.specs.Commands.{AskedPartForPart, HasEachPart}

parts_of : (a : RecordedCommand) (c : Command) → AsksAs a c → HasEachPart a c
parts_of a c asks Program = asks.program
parts_of a c asks Words = asks.words
parts_of a c asks Folder = asks.folder
parts_of a c asks Out = asks.out
parts_of a c asks Target = asks.target
parts_of a c asks Toolchain = asks.toolchain
parts_of a c asks Reads = asks.reads

asks_by : (a : RecordedCommand) (c : Command) → HasEachPart a c → AsksAs a c
asks_by a c has = record {
  program = has Program;
  words = has Words;
  folder = has Folder;
  out = has Out;
  target = has Target;
  toolchain = has Toolchain;
  reads = has Reads;
}

pub part_for_part : AskedPartForPart
part_for_part a c = (
  (parts_of a c, asks_by a c),
  (λ same. (parts_of a c (asks_of a c same), sets_of a c same), λ (has, pairs). same_asked a c (asks_by a c has) pairs),
)
