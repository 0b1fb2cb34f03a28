use Rattle.std.proofs.Common.{◌≡◌, All, map, take}
use Rattle.pb_graph.specs.Working.{IsRank, rank_node}
use Rattle.pb_graph.proofs.ranks.ranks_of.Given as goal

abbrev pub invariant-loop-node : goal.invariant-loop-node
invariant-loop-node l = record {
  nodes : map rank_node l.ranks.items ≡ take l.node-index l.list;
  ranks : All (IsRank l.nodes l.levels) l.ranks.items;
}
