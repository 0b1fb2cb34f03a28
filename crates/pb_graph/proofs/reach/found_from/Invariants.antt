use Rattle.std.proofs.Common.{◌+◌, length}
use Rattle.pb_graph.specs.Working.{unmarked}
use Rattle.pb_graph.proofs.Reaching.{Closing}
use Rattle.pb_graph.proofs.reach.found_from.Given as goal

abbrev pub invariant-loop-u : goal.invariant-loop-u
invariant-loop-u l = Closing l.nodes l.roots l.marks.items l.waiting.items l.found.items

abbrev pub decreases-loop-u : goal.decreases-loop-u
decreases-loop-u l = unmarked l.marks.items + length l.waiting.items
