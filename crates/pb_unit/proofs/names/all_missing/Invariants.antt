use Rattle.std.proofs.Common.{◌≡◌, ◌++◌, drop}
use Rattle.pb_graph.specs.Placed.{placed}
use Rattle.pb_unit.specs.Drawing.{missing_at}
use Rattle.pb_unit.proofs.names.all_missing.Given as goal

abbrev pub invariant-loop-index : goal.invariant-loop-index
invariant-loop-index l = l.names.items ++ placed (missing_at l.workspace l.features) l.index (drop l.index l.packages) ≡ placed (missing_at l.workspace l.features) 0 l.packages
