use Rattle.std.proofs.Common.{◌≡◌, map, take}
use Rattle.pb_unit.specs.Drawing.{name_behind}
use Rattle.pb_unit.proofs.names.all_behind.Given as goal

abbrev pub invariant-loop-node : goal.invariant-loop-node
invariant-loop-node l = l.names.items ≡ map (name_behind l.workspace l.units) (take l.node-index l.circle)
