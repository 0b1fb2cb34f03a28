use Rattle.std.proofs.Common.{◌≡◌, length}
use Rattle.pb_record.specs.Sorted.{are_sorted}
use Rattle.pb_record.proofs.pairs.are_sorted.Given as goal

abbrev pub invariant-loop-rest : goal.invariant-loop-rest
invariant-loop-rest l = are_sorted l.pairs ≡ are_sorted l.rest

abbrev pub decreases-loop-rest : goal.decreases-loop-rest
decreases-loop-rest l = length l.rest
