use Rattle.std.proofs.Common.{◌≡◌, ◌++◌, drop}
use Rattle.std.specs.Process.{command_program, command_args, SameEnv, SameDir}
use Rattle.pb_place_host.proofs.starting.add_words.Given as goal

abbrev pub invariant-loop-word : goal.invariant-loop-word
invariant-loop-word l = record {
  words : command_args l.made ++ drop l.word-index l.words ≡ command_args l.fn.made ++ l.words;
  program : command_program l.made ≡ command_program l.fn.made;
  variables : SameEnv l.fn.made l.made;
  folder : SameDir l.fn.made l.made;
}
