use Rattle.std.proofs.Common.{◌≡◌, ◌++◌, map}
use Rattle.std.specs.Vec.Iter.{into_iter_items}
use Rattle.pb_workspace_package.specs.Features.{feature_of}
use Rattle.pb_workspace_package.proofs.features.features_from.Given as goal

abbrev pub invariant-loop-name : goal.invariant-loop-name
invariant-loop-name l = l.features ++ map feature_of (into_iter_items l.name-iterator) ≡ map feature_of l.fn.entries
