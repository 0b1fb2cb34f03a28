use Rattle.std.proofs.Common.{◌≡◌, ◌++◌, drop}
use Rattle.pb_command_arguments.proofs.words.push_copies.Given as goal

abbrev pub invariant-loop-word : goal.invariant-loop-word
invariant-loop-word l = l.words ++ drop l.word-index l.more ≡ l.fn.words ++ l.more
