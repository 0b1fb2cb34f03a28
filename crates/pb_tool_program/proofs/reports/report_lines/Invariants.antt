use Rattle.std.proofs.Common.{◌≡◌, ◌++◌, drop, string_bytes}
use Rattle.pb_tool_notes_pages.specs.Notes.{lines_of}
use Rattle.pb_tool_program.proofs.reports.report_lines.Given as goal

abbrev pub invariant-loop-text : goal.invariant-loop-text
invariant-loop-text l = string_bytes l.lines ++ lines_of (drop l.text-index l.texts) ≡ lines_of l.texts
