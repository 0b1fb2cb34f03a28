use Rattle.std.proofs.Common.{◌≡◌}
use Rattle.pb_tests_surface.proofs.world.put_files.Given as goal

abbrev pub invariant-loop-file : goal.invariant-loop-file
invariant-loop-file l = l.place.flying ≡ l.fn.place.flying
