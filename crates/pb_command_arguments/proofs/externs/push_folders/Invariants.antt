use Rattle.std.proofs.Common.{◌≡◌, ◌++◌, drop}
use Rattle.std.specs.List.{flat_map}
use Rattle.pb_command_arguments.specs.Externs.{folder_words_at}
use Rattle.pb_command_arguments.proofs.externs.push_folders.Given as goal

abbrev pub invariant-loop-index : goal.invariant-loop-index
invariant-loop-index l = l.words ++ flat_map (folder_words_at l.project) (drop l.index-index l.indices) ≡ l.fn.words ++ flat_map (folder_words_at l.project) l.indices
