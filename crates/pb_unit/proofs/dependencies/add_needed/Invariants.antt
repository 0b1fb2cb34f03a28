use Rattle.std.proofs.Common.{◌≡◌, ◌++◌, drop}
use Rattle.pb_graph.specs.Placed.{placed}
use Rattle.pb_unit.specs.Drawing.{numbers_by, all_numbers}
use Rattle.pb_unit.proofs.dependencies.add_needed.Given as goal

abbrev pub invariant-loop-index : goal.invariant-loop-index
invariant-loop-index l = l.numbers.items ++ placed (numbers_by l.need l.workspace l.features l.owner l.side) l.index (drop l.index l.entries) ≡ l.fn.numbers.items ++ all_numbers l.need l.workspace l.features l.owner l.side
