use Rattle.std.proofs.Common.{◌≡◌, ◌++◌, drop}
use Rattle.pb_message_units.proofs.messages.copy_texts.Given as goal

abbrev pub invariant-loop-text : goal.invariant-loop-text
invariant-loop-text l = l.made ++ drop l.text-index l.texts ≡ l.texts
