use Rattle.std.proofs.Common.{◌≡◌, take, length}
use Rattle.std.specs.List.{AllZip}
use Rattle.pb_graph.specs.Working.{AreClear, IsPlaced}
use Rattle.pb_graph.proofs.order.steps_of.Given as goal

abbrev pub invariant-loop-rank : goal.invariant-loop-rank
invariant-loop-rank l = record {
  each : AllZip (IsPlaced l.nodes l.indices.items) (take l.rank-index l.ranks) l.plan.items;
  long : length l.marks.items ≡ length l.nodes;
  clear : AreClear l.marks.items;
}
