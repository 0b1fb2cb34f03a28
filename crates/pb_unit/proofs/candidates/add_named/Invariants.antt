use Rattle.std.proofs.Common.{◌≡◌, ◌++◌, map, take}
use Rattle.pb_unit.specs.Drawing.{unit_named}
use Rattle.pb_unit.proofs.candidates.add_named.Given as goal

abbrev pub invariant-loop-binary : goal.invariant-loop-binary
invariant-loop-binary l = l.units.items ≡ l.fn.units.items ++ map unit_named (take l.binary-index l.named)
