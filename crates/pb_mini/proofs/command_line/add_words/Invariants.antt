use Rattle.std.proofs.Common.{◌≡◌, drop, None}
use Rattle.pb_mini.specs.CommandLine.{after, arguments_after}
use Rattle.pb_mini.proofs.command_line.add_words.Given as goal

abbrev pub invariant-loop-word : goal.invariant-loop-word
invariant-loop-word l = after l.said (arguments_after l.waiting (drop l.word-index l.words)) ≡ after l.fn.said (arguments_after None l.words)
