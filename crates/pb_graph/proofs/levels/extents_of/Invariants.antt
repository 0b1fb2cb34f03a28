use Rattle.std.proofs.Common.{◌≡◌, All, map, take, length}
use Rattle.pb_graph.specs.Working.{AreClear, IsExtent, node_of}
use Rattle.pb_graph.proofs.levels.extents_of.Given as goal

abbrev pub invariant-loop-node : goal.invariant-loop-node
invariant-loop-node l = record {
  nodes : map node_of l.extents.items ≡ take l.node-index l.list;
  extents : All (IsExtent l.nodes) l.extents.items;
  long : length l.marks.items ≡ length l.nodes;
  clear : AreClear l.marks.items;
}
