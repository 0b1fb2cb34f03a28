use denote.Shadow.{shadow}
use denote.Text.{Utf8}
use Rattle.std.proofs.Common.{◌≡◌, length}
use Rattle.pb_mini.specs.Verbs.{line_meant}
use Rattle.pb_mini.proofs.verbs.line_meant.Given as goal

abbrev pub invariant-loop-condition : goal.invariant-loop-condition
invariant-loop-condition l = shadow (Utf8 l.left) × (line_meant l.given l.left ≡ line_meant l.given l.line)

abbrev pub decreases-loop-condition : goal.decreases-loop-condition
decreases-loop-condition l = length l.left
