use Rattle.std.proofs.Common.{◌≡◌}
use Rattle.std.specs.Vec.Iter.{into_iter_items}
use Rattle.pb_workspace_package.specs.Features.{with_written}
use Rattle.pb_workspace_package.proofs.features.add_written.Given as goal

abbrev pub invariant-loop-feature : goal.invariant-loop-feature
invariant-loop-feature l = with_written l.made (into_iter_items l.feature-iterator) ≡ with_written l.fn.made l.fn.written
