use Rattle.pb_graph.proofs.Leveling.{Leveled}
use Rattle.pb_graph.proofs.levels.levels_of.Given as goal

abbrev pub invariant-loop-extent : goal.invariant-loop-extent
invariant-loop-extent l = Leveled l.nodes l.extents l.extent-index l.levels.items
