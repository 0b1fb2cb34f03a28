use Rattle.std.proofs.Common.{◌≡◌, ◌++◌, drop}
use Rattle.pb_graph.specs.Placed.{placed}
use Rattle.pb_unit.specs.Drawing.{root_at}
use Rattle.pb_unit.proofs.roots.roots_marked.Given as goal

abbrev pub invariant-loop-index : goal.invariant-loop-index
invariant-loop-index l = l.roots.items ++ placed (root_at l.workspace l.asked l.marks) l.index (drop l.index l.units) ≡ placed (root_at l.workspace l.asked l.marks) 0 l.units
