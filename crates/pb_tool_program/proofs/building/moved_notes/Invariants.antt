use Rattle.std.proofs.Common.{◌≡◌, ◌++◌, drop, string_bytes}
use Rattle.pb_tool_program.specs.Building.{moved_notes}
use Rattle.pb_tool_program.proofs.building.moved_notes.Given as goal

abbrev pub invariant-loop-one : goal.invariant-loop-one
invariant-loop-one l = string_bytes l.notes ++ moved_notes (drop l.one-index l.moved) ≡ moved_notes l.moved
