-- Why a unit is bad, or why something outside of the build failed. Each fault has a name, which is
-- in the result line, and a sentence. The fault's `Display` writes the same sentence, and a test
-- compares the two.
use Rattle.std.specs.Prelude.{ℕ, codes, List, [], ◌∷◌, ◌++◌}
use Rattle.std.specs.Fmt.{decimal, signed_decimal}
use Rattle.std.specs.List.{concat}
use Rattle.pb_command_types.specs.declared.fault.UnitFault.{UnitFault}
use Rattle.pb_command_types.specs.declared.fault.UnitFault.TheVariants as unit
use Rattle.pb_directive.specs.declared.fault.LineFault.{LineFault}
use Rattle.pb_directive.specs.declared.fault.LineFault.TheVariants as line
use Rattle.pb_place_types.specs.declared.place.PlaceFault.{PlaceFault}
use Rattle.pb_place_types.specs.declared.place.PlaceFault.TheVariants as place
use Rattle.pb_place_types.specs.declared.place.StartFault.{StartFault}
use Rattle.pb_place_types.specs.declared.place.StartFault.TheVariants as start
use Rattle.pb_build_result.specs.declared.fault.DeviceFault.{DeviceFault}
use Rattle.pb_build_result.specs.declared.fault.DeviceFault.TheVariants as device

-- the name of a line's fault, without the line's number
abbrev pub line_fault_name : LineFault → List ℕ
line_fault_name (line.NotText number) = codes "NotText"
line_fault_name (line.UnknownKey number) = codes "UnknownKey"
line_fault_name (line.BadValue number) = codes "BadValue"
line_fault_name (line.BadFlag number) = codes "BadFlag"
line_fault_name line.OutOfMemory = codes "OutOfMemory"

-- what is wrong with a line of a script's output
abbrev pub line_sentence : LineFault → List ℕ
line_sentence (line.NotText number) = codes "line " ++ decimal number ++ codes " is not UTF-8"
line_sentence (line.UnknownKey number) = codes "line " ++ decimal number ++ codes " has an unknown key"
line_sentence (line.BadValue number) = codes "line " ++ decimal number ++ codes " has a bad value"
line_sentence (line.BadFlag number) = codes "line " ++ decimal number ++ codes " has a bad flag"
line_sentence line.OutOfMemory = codes "out of memory"

-- The name of a unit's fault. `Status` also has the number of the status, and `Directive` the name
-- of the line's fault.
abbrev pub unit_fault_text : UnitFault → List ℕ
unit_fault_text (unit.Status number) = codes "Status(" ++ signed_decimal number ++ codes ")"
unit_fault_text (unit.Directive fault) = concat (codes "Directive(" ∷ line_fault_name fault ∷ codes ")" ∷ [])
unit_fault_text unit.ScriptError = codes "ScriptError"
unit_fault_text unit.NoDepInfo = codes "NoDepInfo"
unit_fault_text (unit.ForeignInput path) = codes "ForeignInput"
unit_fault_text unit.OutputTooLong = codes "OutputTooLong"
unit_fault_text unit.OutOfMemory = codes "OutOfMemory"

-- why a unit is bad
abbrev pub unit_sentence : UnitFault → List ℕ
unit_sentence (unit.Status status) = codes "the child process ended with status " ++ signed_decimal status
unit_sentence (unit.Directive fault) = codes "the script's output is refused: " ++ line_sentence fault
unit_sentence unit.NoDepInfo = codes "the compiler left no readable dep-info"
unit_sentence (unit.ForeignInput path) = codes "the input `" ++ path ++ codes "` is in the target folder"
unit_sentence unit.OutputTooLong = codes "the child process wrote too much to a stream"
unit_sentence unit.ScriptError = codes "the build script reported an error"
unit_sentence unit.OutOfMemory = codes "out of memory"

-- which call of a place failed
abbrev pub place_sentence : PlaceFault → List ℕ
place_sentence place.Read = codes "a file could not be read"
place_sentence place.List = codes "a folder could not be listed"
place_sentence place.Write = codes "a file could not be written"
place_sentence place.Remove = codes "a file or folder could not be removed"
place_sentence place.Variable = codes "a variable could not be read"
place_sentence place.OutOfMemory = codes "out of memory"

abbrev pub start_fault_name : StartFault → List ℕ
start_fault_name start.CannotStart = codes "CannotStart"
start_fault_name start.Died = codes "Died"
start_fault_name start.Capture = codes "Capture"
start_fault_name start.OutOfMemory = codes "OutOfMemory"

-- why a child gave no answer
abbrev pub start_sentence : StartFault → List ℕ
start_sentence start.CannotStart = codes "the program cannot be started"
start_sentence start.Died = codes "the child process ended without a status"
start_sentence start.Capture = codes "the output of the child process could not be read"
start_sentence start.OutOfMemory = codes "out of memory"

abbrev pub device_fault_name : DeviceFault → List ℕ
device_fault_name (device.Place fault) = codes "Device"
device_fault_name device.NumbersSpent = codes "NumbersSpent"

-- why a call on files or variables failed, or that no run number was left
abbrev pub device_sentence : DeviceFault → List ℕ
device_sentence (device.Place fault) = place_sentence fault
device_sentence device.NumbersSpent = codes "no run number is left"
