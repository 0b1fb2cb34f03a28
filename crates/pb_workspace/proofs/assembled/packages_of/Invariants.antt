use Rattle.std.proofs.Common.{◌≡◌, ◌++◌, map}
use Rattle.std.specs.Vec.Iter.{into_iter_items}
use Rattle.pb_workspace.specs.Assembled.{package_at}
use Rattle.pb_workspace.proofs.assembled.packages_of.Given as goal

abbrev pub invariant-loop-draft : goal.invariant-loop-draft
invariant-loop-draft l = l.made ++ map (package_at l.indices) (into_iter_items l.draft-iterator) ≡ map (package_at l.indices) l.fn.drafts
