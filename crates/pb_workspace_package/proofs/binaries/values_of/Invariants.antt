use Rattle.std.proofs.Common.{◌≡◌, ◌++◌, map}
use Rattle.std.specs.Vec.Iter.{into_iter_items}
use Rattle.pb_workspace_package.specs.Binaries.{binary_of}
use Rattle.pb_workspace_package.proofs.binaries.values_of.Given as goal

abbrev pub invariant-loop-name : goal.invariant-loop-name
invariant-loop-name l = l.binaries ++ map binary_of (into_iter_items l.name-iterator) ≡ map binary_of l.fn.entries
