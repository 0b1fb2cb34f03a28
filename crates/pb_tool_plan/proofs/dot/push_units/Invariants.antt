use Rattle.std.proofs.Common.{◌≡◌, ◌++◌, drop, string_bytes}
use Rattle.pb_tool_plan.specs.Texts.{statements}
use Rattle.pb_tool_plan.proofs.dot.push_units.Given as goal

abbrev pub invariant-loop-unit : goal.invariant-loop-unit
invariant-loop-unit l = string_bytes l.text ++ statements l.units (drop l.unit-index l.units) ≡ string_bytes l.initial.text ++ statements l.units l.units
