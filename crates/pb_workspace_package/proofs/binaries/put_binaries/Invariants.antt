use Rattle.std.proofs.Common.{◌≡◌}
use Rattle.std.specs.Vec.Iter.{into_iter_items}
use Rattle.pb_workspace_package.specs.Binaries.{with_binaries}
use Rattle.pb_workspace_package.proofs.binaries.put_binaries.Given as goal

abbrev pub invariant-loop-binary : goal.invariant-loop-binary
invariant-loop-binary l = with_binaries l.entries (into_iter_items l.binary-iterator) ≡ with_binaries l.fn.entries l.fn.binaries
