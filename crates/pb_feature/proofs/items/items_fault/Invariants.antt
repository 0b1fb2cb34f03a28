use Rattle.std.proofs.Common.{◌≡◌, drop}
use Rattle.pb_feature.specs.Faults.{items_fault}
use Rattle.pb_feature.proofs.items.items_fault.Given as goal

abbrev pub invariant-loop-item : goal.invariant-loop-item
invariant-loop-item l = items_fault l.owner (drop l.item-index l.items) ≡ items_fault l.owner l.items
