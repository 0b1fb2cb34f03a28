use Rattle.std.proofs.Common.{◌≡◌, ◌++◌, drop}
use Rattle.std.specs.List.{filter_map}
use Rattle.pb_message_units.specs.Telling.{library_in}
use Rattle.pb_message_units.proofs.messages.libraries_in.Given as goal

abbrev pub invariant-loop-directive : goal.invariant-loop-directive
invariant-loop-directive l = l.made ++ filter_map library_in (drop l.directive-index l.directives) ≡ filter_map library_in l.directives
