use Rattle.std.proofs.Common.{◌≡◌, ◌++◌, drop}
use Rattle.pb_graph.specs.Placed.{placed}
use Rattle.pb_unit.specs.Drawing.{missing_by}
use Rattle.pb_unit.proofs.names.add_all_missing.Given as goal

abbrev pub invariant-loop-index : goal.invariant-loop-index
invariant-loop-index l = l.names.items ++ placed (missing_by l.workspace l.features l.owner) l.index (drop l.index l.entries) ≡ l.fn.names.items ++ placed (missing_by l.workspace l.features l.owner) 0 l.entries
