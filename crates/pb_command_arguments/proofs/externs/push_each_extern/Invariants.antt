use Rattle.std.proofs.Common.{◌≡◌, ◌++◌, drop}
use Rattle.std.specs.List.{flat_map}
use Rattle.pb_command_arguments.specs.Externs.{extern_word}
use Rattle.pb_command_arguments.proofs.externs.push_each_extern.Given as goal

abbrev pub invariant-loop-made : goal.invariant-loop-made
invariant-loop-made l = l.words ++ flat_map extern_word (drop l.made-index l.all) ≡ l.fn.words ++ flat_map extern_word l.all
