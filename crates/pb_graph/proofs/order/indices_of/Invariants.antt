use Rattle.std.proofs.Common.{◌≡◌, map, take, slice_index}
use Rattle.pb_graph.proofs.order.indices_of.Given as goal

abbrev pub invariant-loop-node : goal.invariant-loop-node
invariant-loop-node l = l.found.items ≡ map (slice_index l.indices) (take l.node-index l.list)
