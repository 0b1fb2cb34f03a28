use Rattle.std.proofs.Common.{◌≡◌, ◌++◌, drop}
use Rattle.std.specs.List.{filter_map}
use Rattle.pb_message_units.specs.Telling.{search_in}
use Rattle.pb_message_units.proofs.messages.searches_in.Given as goal

abbrev pub invariant-loop-directive : goal.invariant-loop-directive
invariant-loop-directive l = l.made ++ filter_map search_in (drop l.directive-index l.directives) ≡ filter_map search_in l.directives
