use Rattle.std.proofs.Common.{◌≡◌, ◌++◌, drop, string_bytes}
use Rattle.pb_tool_sentences.specs.Details.{spaced}
use Rattle.pb_tool_sentences.proofs.details.push_names.Given as goal

abbrev pub invariant-loop-name : goal.invariant-loop-name
invariant-loop-name l = string_bytes l.text ++ spaced (drop l.name-index l.names) ≡ string_bytes l.initial.text ++ spaced l.names
