use Rattle.std.proofs.Common.{◌≡◌, ◌++◌, drop}
use Rattle.std.specs.List.{filter_map}
use Rattle.pb_message_units.specs.Telling.{note_in}
use Rattle.pb_message_units.proofs.messages.add_notes.Given as goal

abbrev pub invariant-loop-directive : goal.invariant-loop-directive
invariant-loop-directive l = l.messages ++ filter_map note_in (drop l.directive-index l.directives) ≡ l.fn.messages ++ filter_map note_in l.directives
