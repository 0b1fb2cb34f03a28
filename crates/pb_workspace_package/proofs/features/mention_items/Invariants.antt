use Rattle.std.proofs.Common.{◌≡◌, drop}
use Rattle.std.specs.List.{flat_map}
use Rattle.pb_data.specs.OrderedSet.{mentioned_all}
use Rattle.pb_workspace_package.specs.Enabling.{named_by}
use Rattle.pb_workspace_package.proofs.features.mention_items.Given as goal

abbrev pub invariant-loop-item : goal.invariant-loop-item
invariant-loop-item l = mentioned_all l.names (flat_map named_by (drop l.item-index l.items)) ≡ mentioned_all l.fn.names (flat_map named_by l.items)
