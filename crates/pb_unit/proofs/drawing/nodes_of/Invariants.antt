use Rattle.std.proofs.Common.{◌≡◌, map, take}
use Rattle.pb_unit.specs.Drawing.{node_of}
use Rattle.pb_unit.proofs.drawing.nodes_of.Given as goal

abbrev pub invariant-loop-unit : goal.invariant-loop-unit
invariant-loop-unit l = l.nodes.items ≡ map (node_of l.workspace l.features) (take l.unit-index l.units)
