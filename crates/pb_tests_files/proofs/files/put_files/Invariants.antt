use Rattle.std.proofs.Common.{◌≡◌}
use Rattle.pb_tests_files.proofs.files.put_files.Given as goal

abbrev pub invariant-loop-file : goal.invariant-loop-file
invariant-loop-file g l = l.memory.flying ≡ l.fn.memory.flying
