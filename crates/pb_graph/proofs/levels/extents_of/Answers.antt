use Rattle.pb_graph.specs.Working.{IsExtent, node_of}
use Rattle.pb_graph.proofs.Elements.{map_more, all_more}
use Rattle.pb_graph.proofs.levels.extents_of.Goals as goal

pub loop-node-preserved : goal.loop-node-preserved
loop-node-preserved c = record {
  nodes = map_more node_of c.args.list.now _ _ c.loop-node.node-index _ c.loop-node-test.true c.loop-node.invariant.nodes c.in_ok-push.ensures.items c.in_ok-extent.ensures.node;
  extents = all_more (IsExtent c.args.nodes.now) _ _ _ c.loop-node.invariant.extents c.in_ok-extent.ensures.extent c.in_ok-push.ensures.items;
  long = c.in_ok-extent.ensures.long;
  clear = c.in_ok-extent.ensures.clear;
}
