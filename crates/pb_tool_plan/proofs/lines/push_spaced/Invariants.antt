use Rattle.std.proofs.Common.{◌≡◌, ◌++◌, drop, string_bytes}
use Rattle.pb_tool_plan.specs.Texts.{spaced}
use Rattle.pb_tool_plan.proofs.lines.push_spaced.Given as goal

abbrev pub invariant-loop-need : goal.invariant-loop-need
invariant-loop-need l = string_bytes l.text ++ spaced l.units (drop l.need-index l.needs) ≡ string_bytes l.initial.text ++ spaced l.units l.needs
