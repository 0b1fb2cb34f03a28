use Rattle.std.proofs.Common.{◌≡◌, ◌++◌, drop}
use Rattle.pb_graph.specs.Placed.{placed}
use Rattle.pb_unit.specs.Drawing.{named_by}
use Rattle.pb_unit.proofs.candidates.add_binaries.Given as goal

abbrev pub invariant-loop-index : goal.invariant-loop-index
invariant-loop-index l = l.found.items ++ placed (named_by l.selection l.on l.owner) l.index (drop l.index l.binaries) ≡ l.fn.found.items ++ placed (named_by l.selection l.on l.owner) 0 l.binaries
