use Rattle.std.proofs.Common.{◌≡◌, ◌++◌, drop, string_bytes}
use Rattle.pb_tool_plan.specs.Texts.{arrows}
use Rattle.pb_tool_plan.proofs.dot.push_arrows.Given as goal

abbrev pub invariant-loop-need : goal.invariant-loop-need
invariant-loop-need l = string_bytes l.text ++ arrows l.units l.key (drop l.need-index l.needs) ≡ string_bytes l.initial.text ++ arrows l.units l.key l.needs
