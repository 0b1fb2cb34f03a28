use Rattle.std.proofs.Common.{◌≡◌, ◌++◌, drop}
use Rattle.pb_command_arguments.specs.Words.{type_words}
use Rattle.pb_command_arguments.proofs.words.push_types.Given as goal

abbrev pub invariant-loop-crate_type : goal.invariant-loop-crate_type
invariant-loop-crate_type l = l.words ++ type_words (drop l.crate_type-index l.types) ≡ l.fn.words ++ type_words l.types
