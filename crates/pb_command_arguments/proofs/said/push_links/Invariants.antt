use Rattle.std.proofs.Common.{◌≡◌, ◌++◌, drop}
use Rattle.std.specs.List.{flat_map}
use Rattle.pb_command_arguments.specs.Said.{link_word}
use Rattle.pb_command_arguments.proofs.said.push_links.Given as goal

abbrev pub invariant-loop-directive : goal.invariant-loop-directive
invariant-loop-directive l = l.words ++ flat_map link_word (drop l.directive-index l.said) ≡ l.fn.words ++ flat_map link_word l.said
