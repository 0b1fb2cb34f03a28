use Rattle.std.proofs.Common.{◌≡◌, ◌++◌, drop, string_bytes}
use Rattle.pb_tool_plan.specs.Texts.{strings_rest}
use Rattle.pb_tool_plan.proofs.json.push_rest.Given as goal

abbrev pub invariant-loop-need : goal.invariant-loop-need
invariant-loop-need l = string_bytes l.text ++ strings_rest l.units (drop l.need-index l.needs) ≡ string_bytes l.initial.text ++ strings_rest l.units l.needs
