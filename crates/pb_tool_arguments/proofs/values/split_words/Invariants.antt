use Rattle.std.proofs.Common.{◌≡◌, ◌++◌}
use Rattle.pb_directive.specs.Directives.{words_of}
use Rattle.pb_tool_arguments.proofs.values.split_words.Given as goal

abbrev pub invariant-loop-word : goal.invariant-loop-word
invariant-loop-word l = l.words ++ l.word-iterator ≡ words_of l.text
