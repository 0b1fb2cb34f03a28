use Rattle.std.proofs.Common.{◌≡◌, ◌++◌, drop, string_bytes}
use Rattle.pb_tool_plan.specs.Texts.{objects_rest}
use Rattle.pb_tool_plan.proofs.json.push_objects.Given as goal

abbrev pub invariant-loop-unit : goal.invariant-loop-unit
invariant-loop-unit l = string_bytes l.text ++ objects_rest l.units (drop l.unit-index l.some) ≡ string_bytes l.initial.text ++ objects_rest l.units l.some
