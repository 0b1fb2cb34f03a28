use denote.Shadow.{shadow}
use denote.Text.{Utf8}
use Rattle.std.proofs.Common.{◌≡◌, ◌≤◌, length, string_bytes}
use Rattle.pb_directive.specs.DepInfo.{parts_of, onto_part}
use Rattle.pb_directive.proofs.rules.first_part.Given as goal

abbrev pub invariant-loop-part : goal.invariant-loop-part
invariant-loop-part l = shadow (Utf8 l.left) × (onto_part (string_bytes l.piece) (parts_of l.left) ≡ parts_of l.text) × (length l.left ≤ length l.text)

abbrev pub decreases-loop-part : goal.decreases-loop-part
decreases-loop-part l = length l.left
