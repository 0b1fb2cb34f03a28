use Rattle.std.proofs.Common.{◌≡◌, ◌++◌, drop, take, string_bytes}
use Rattle.pb_tool_reasons.specs.Grouping.{grouped, lines_from}
use Rattle.pb_tool_reasons.proofs.grouping.group_rows.Given as goal

abbrev pub invariant-loop-index : goal.invariant-loop-index
invariant-loop-index l = string_bytes l.text ++ lines_from l.rows (take l.index l.rows) (drop l.index l.rows) ≡ grouped l.rows
