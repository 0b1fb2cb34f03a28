use Rattle.std.proofs.Common.{◌≡◌, ◌++◌, drop}
use Rattle.pb_graph.specs.Placed.{placed}
use Rattle.pb_unit.specs.Drawing.{six}
use Rattle.pb_unit.proofs.candidates.units_without_binaries.Given as goal

abbrev pub invariant-loop-index : goal.invariant-loop-index
invariant-loop-index l = l.units.items ++ placed six l.index (drop l.index l.packages) ≡ placed six 0 l.packages
