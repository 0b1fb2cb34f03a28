use Rattle.pb_graph.specs.Working.{Marked}
use Rattle.pb_graph.proofs.reach.mark_all.Given as goal

abbrev pub invariant-loop-v : goal.invariant-loop-v
invariant-loop-v l = Marked l.list l.v-index l.fn.marks.items l.fn.waiting.items l.marks.items l.waiting.items
