use Rattle.std.proofs.Common.{◌≡◌, ◌++◌, drop}
use Rattle.pb_graph.specs.Placed.{placed}
use Rattle.pb_feature.specs.Marked.{marked_name}
use Rattle.pb_feature.proofs.resolved.names_of.Given as goal

abbrev pub invariant-loop-index : goal.invariant-loop-index
invariant-loop-index l = l.names ++ placed (marked_name l.marks l.ground.bases.now l.pkg l.side) l.index (drop l.index l.features) ≡ placed (marked_name l.marks l.ground.bases.now l.pkg l.side) 0 l.features
