use Rattle.std.proofs.Common.{◌≡◌, ◌++◌, drop}
use Rattle.pb_graph.specs.Placed.{placed}
use Rattle.pb_unit.specs.Drawing.{named_at}
use Rattle.pb_unit.proofs.candidates.all_named.Given as goal

abbrev pub invariant-loop-index : goal.invariant-loop-index
invariant-loop-index l = l.found.items ++ placed (named_at l.workspace l.features l.selection) l.index (drop l.index l.selected) ≡ placed (named_at l.workspace l.features l.selection) 0 l.selected
