use Rattle.std.proofs.Common.{◌≡◌, ◌++◌, drop, string_bytes}
use Rattle.pb_tool_plan.specs.Texts.{unit_lines}
use Rattle.pb_tool_plan.proofs.lines.unit_lines.Given as goal

abbrev pub invariant-loop-unit : goal.invariant-loop-unit
invariant-loop-unit l = string_bytes l.text ++ unit_lines l.units (drop l.unit-index l.units) ≡ unit_lines l.units l.units
