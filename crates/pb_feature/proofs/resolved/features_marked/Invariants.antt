use Rattle.std.proofs.Common.{◌≡◌, ◌++◌, drop}
use Rattle.pb_graph.specs.Placed.{placed}
use Rattle.pb_feature.specs.Marked.{marked_sides}
use Rattle.pb_feature.proofs.resolved.features_marked.Given as goal

abbrev pub invariant-loop-pkg : goal.invariant-loop-pkg
invariant-loop-pkg l = l.packages ++ placed (marked_sides l.marks l.ground.bases.now) l.pkg (drop l.pkg l.ground.packages.now) ≡ placed (marked_sides l.marks l.ground.bases.now) 0 l.ground.packages.now
