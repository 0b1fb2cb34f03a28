use Rattle.std.proofs.Common.{◌≡◌, length}
use Rattle.pb_directive.specs.Lines.{trimmed_front}
use Rattle.pb_directive.proofs.lines.trimmed_front.Given as goal

abbrev pub invariant-loop-kept : goal.invariant-loop-kept
invariant-loop-kept l = trimmed_front l.kept ≡ trimmed_front l.bytes

abbrev pub decreases-loop-kept : goal.decreases-loop-kept
decreases-loop-kept l = length l.kept
