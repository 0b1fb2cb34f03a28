use Rattle.std.proofs.Common.{◌≡◌, ◌++◌, drop}
use Rattle.std.specs.List.{flat_map}
use Rattle.pb_command_arguments.specs.Said.{searched_words}
use Rattle.pb_command_arguments.proofs.said.push_all_searched.Given as goal

abbrev pub invariant-loop-index : goal.invariant-loop-index
invariant-loop-index l = l.words ++ flat_map (searched_words l.done) (drop l.index-index l.indices) ≡ l.fn.words ++ flat_map (searched_words l.done) l.indices
