use denote.Shadow.{shadow}
use denote.Text.{Utf8}
use Rattle.std.proofs.Common.{◌≡◌, length}
use Rattle.pb_data.specs.OrderedSet.{mentioned_all}
use Rattle.pb_directive.specs.DepInfo.{rule_words}
use Rattle.pb_directive.proofs.rules.add_words.Given as goal

abbrev pub invariant-loop-part : goal.invariant-loop-part
invariant-loop-part l = shadow (Utf8 l.left) × (mentioned_all l.words (rule_words l.left) ≡ mentioned_all l.initial.words (rule_words l.text))

abbrev pub decreases-loop-part : goal.decreases-loop-part
decreases-loop-part l = length l.left
