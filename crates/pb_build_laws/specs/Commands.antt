-- How the command in a record is compared with the command of a unit: part by part, and then by the
-- names of the variables.
use Rattle.std.specs.Prelude.{◌≡◌, ◌↔◌, ℕ, List, Option, Some}
use Rattle.pb_command.specs.Command as present
use Rattle.pb_directive.specs.declared.directive.Directive.{Directive}
use Rattle.pb_place_types.specs.declared.command.Command.{Command}
use Rattle.pb_command_types.specs.declared.project.Project.{Project}
use Rattle.pb_command_types.specs.declared.project.Setup.{Setup}
use Rattle.pb_record.specs.Commands.{AsksAs, command_of}
use Rattle.pb_record.specs.declared.recorded_command.RecordedCommand.{RecordedCommand}
use Rattle.pb_record.specs.declared.record.Record.{Record}
use Rattle.pb_store_soundness.specs.Records.{reading}
use Rattle.pb_store.specs.Asking.{IsFirstName, IsLeastName, SamePart}
use Rattle.pb_store.specs.declared.difference.CommandPart.{CommandPart}
use Rattle.pb_unit.specs.declared.plan.Planned.{Planned}

-- each part of the command is equal to the recorded part; the variables are not a part
abbrev pub HasEachPart : RecordedCommand → Command → Type 0
HasEachPart a c = (part : CommandPart) → SamePart a c part

-- A record asks for the same as a command, except perhaps in the variables, if and only if each
-- part is equal. The command is the recorded command if and only if the variables are equal, too.
abbrev pub AskedPartForPart : Type 0
AskedPartForPart = (a : RecordedCommand) (c : Command) → (AsksAs a c ↔ HasEachPart a c) × ((command_of a ≡ c) ↔ (HasEachPart a c × (a.pairs ≡ c.pairs)))

-- `IsFirstName` finds the least name, in byte order, at which the variables of a record differ from
-- those of a unit's command. Either the two texts of this name differ, or only the record has the
-- name, or only the command has the name.
abbrev pub FirstNameIsLeast : Type 0
FirstNameIsLeast = (text : List ℕ) (r : Record) (setup : Setup) (project : Project) (u : Planned) (done : List (Option (List Directive))) (name : List ℕ) → reading text ≡ Some r
    → IsFirstName r.asked.pairs (present.command_of setup project u done).pairs name ↔ IsLeastName r.asked.pairs (present.command_of setup project u done).pairs name
