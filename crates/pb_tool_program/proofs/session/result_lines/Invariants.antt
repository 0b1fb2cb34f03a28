use Rattle.std.proofs.Common.{◌≡◌, ◌++◌, drop, string_bytes}
use Rattle.pb_tool_program.specs.Session.{lines_of}
use Rattle.pb_tool_program.proofs.session.result_lines.Given as goal

abbrev pub invariant-loop-answer : goal.invariant-loop-answer
invariant-loop-answer l = string_bytes l.lines ++ lines_of (drop l.answer-index l.answers) ≡ lines_of l.answers
