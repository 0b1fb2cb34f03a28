use Rattle.std.proofs.Common.{◌≡◌, ◌++◌, drop}
use Rattle.std.specs.List.{flat_map}
use Rattle.pb_command_arguments.specs.Words.{feature_word}
use Rattle.pb_command_arguments.proofs.words.push_active.Given as goal

abbrev pub invariant-loop-name : goal.invariant-loop-name
invariant-loop-name l = l.words ++ flat_map feature_word (drop l.name-index l.names) ≡ l.fn.words ++ flat_map feature_word l.names
