use Rattle.std.proofs.Common.{◌≡◌, take}
use Rattle.pb_data.proofs.items.ItemsTryCopy.copy.Given as goal

abbrev pub invariant-loop-item : goal.invariant-loop-item
invariant-loop-item g l = l.made ≡ take l.item-index l.item-items
