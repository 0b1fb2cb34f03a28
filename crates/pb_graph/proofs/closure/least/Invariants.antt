use Rattle.std.proofs.Common.{◌+◌, Contains, length}
use Rattle.pb_graph.proofs.Looking.{Looking}
use Rattle.pb_graph.proofs.Marking.{unmarked}
use Rattle.pb_graph.proofs.closure.least.Given as goal

abbrev pub invariant-loop-thing : goal.invariant-loop-thing
invariant-loop-thing g l = Looking (g.R.Rules.count l.rules) (Contains l.seeds) (g.R.Rules.joins l.rules) (l.marks.items, l.todo.items)

abbrev pub decreases-loop-thing : goal.decreases-loop-thing
decreases-loop-thing g l = unmarked l.marks.items + length l.todo.items
