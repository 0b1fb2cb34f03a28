use Rattle.std.proofs.Common.{◌≡◌, ◌++◌, drop, string_bytes}
use Rattle.pb_tool_sentences.specs.Libraries.{notes_of}
use Rattle.pb_tool_sentences.proofs.libraries.notes_of.Given as goal

abbrev pub invariant-loop-name : goal.invariant-loop-name
invariant-loop-name l = string_bytes l.notes ++ notes_of l.packages (drop l.name-index l.names) ≡ notes_of l.packages l.names
