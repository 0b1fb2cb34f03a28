use Rattle.std.proofs.Common.{◌≡◌, ◌++◌, drop, string_bytes}
use Rattle.pb_message.specs.Message.{lines_from}
use Rattle.pb_message.proofs.line.push_lines.Given as goal

abbrev pub invariant-loop-message : goal.invariant-loop-message
invariant-loop-message l = string_bytes l.out ++ lines_from l.id l.subject l.fresh (drop l.message-index l.messages) ≡ string_bytes l.fn.out ++ lines_from l.id l.subject l.fresh l.messages
