use Rattle.pb_graph.specs.Working.{IndicesTell}
use Rattle.pb_graph.proofs.order.indices_by_node.Given as goal

abbrev pub invariant-loop-index : goal.invariant-loop-index
invariant-loop-index l = IndicesTell l.nodes l.ranks l.index l.indices.items
