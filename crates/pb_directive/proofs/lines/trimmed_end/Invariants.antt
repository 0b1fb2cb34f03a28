use Rattle.std.proofs.Common.{◌≡◌, length}
use Rattle.pb_directive.specs.Lines.{trimmed_end}
use Rattle.pb_directive.proofs.lines.trimmed_end.Given as goal

abbrev pub invariant-loop-kept : goal.invariant-loop-kept
invariant-loop-kept l = trimmed_end l.kept ≡ trimmed_end l.bytes

abbrev pub decreases-loop-kept : goal.decreases-loop-kept
decreases-loop-kept l = length l.kept
