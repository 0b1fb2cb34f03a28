use Rattle.pb_graph.specs.Closure.{is_on}
use Rattle.pb_graph.proofs.Walking.{Walking}
use Rattle.pb_graph.proofs.index.put_linked.Given as goal

abbrev pub invariant-loop-link : goal.invariant-loop-link
invariant-loop-link l = Walking (is_on l.known) l.links l.head l.number l.given.items

abbrev pub decreases-loop-link : goal.decreases-loop-link
decreases-loop-link l = l.number
