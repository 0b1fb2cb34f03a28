use Rattle.std.proofs.Common.{◌≡◌, ◌++◌, drop}
use Rattle.pb_graph.specs.Placed.{placed}
use Rattle.pb_feature.specs.Marked.{marked_entry}
use Rattle.pb_feature.proofs.resolved.entries_of.Given as goal

abbrev pub invariant-loop-index : goal.invariant-loop-index
invariant-loop-index l = l.enabled ++ placed (marked_entry l.marks l.ground.bases.now l.pkg l.side l.features) l.index (drop l.index l.entries) ≡ placed (marked_entry l.marks l.ground.bases.now l.pkg l.side l.features) 0 l.entries
