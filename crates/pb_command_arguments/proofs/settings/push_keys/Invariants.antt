use Rattle.std.proofs.Common.{◌≡◌, ◌++◌, drop}
use Rattle.std.specs.List.{flat_map}
use Rattle.pb_command_arguments.specs.Words.{key_words}
use Rattle.pb_command_arguments.proofs.settings.push_keys.Given as goal

-- the options so far, and then those of the other keys
abbrev pub invariant-loop-key : goal.invariant-loop-key
invariant-loop-key l = l.words ++ flat_map (key_words l.what l.settings) (drop l.key-index l.keys) ≡ l.fn.words ++ flat_map (key_words l.what l.settings) l.keys
