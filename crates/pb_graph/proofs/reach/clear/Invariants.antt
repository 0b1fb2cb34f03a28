use Rattle.pb_graph.specs.Working.{Clearing}
use Rattle.pb_graph.proofs.reach.clear.Given as goal

abbrev pub invariant-loop-v : goal.invariant-loop-v
invariant-loop-v l = Clearing l.list l.v-index l.fn.marks l.marks
