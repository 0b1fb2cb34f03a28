use Rattle.pb_graph.specs.Working.{IsRank, rank_node}
use Rattle.pb_graph.proofs.Elements.{map_more, all_more}
use Rattle.pb_graph.proofs.ranks.ranks_of.Goals as goal

pub loop-node-preserved : goal.loop-node-preserved
loop-node-preserved c = record {
  nodes = map_more rank_node c.args.list.now _ _ c.loop-node.node-index _ c.loop-node-test.true c.loop-node.invariant.nodes c.in_ok-push.ensures.items c.in_ok-rank.ensures.node;
  ranks = all_more (IsRank c.args.nodes.now c.args.levels.now) _ _ _ c.loop-node.invariant.ranks c.in_ok-rank.ensures.rank c.in_ok-push.ensures.items;
}
