use Rattle.std.proofs.Common.{◌≡◌, drop}
use Rattle.std.specs.List.{flat_map}
use Rattle.pb_data.specs.OrderedSet.{mentioned_all}
use Rattle.pb_workspace_package.specs.Enabling.{named_in}
use Rattle.pb_workspace_package.proofs.features.mention_features.Given as goal

abbrev pub invariant-loop-feature : goal.invariant-loop-feature
invariant-loop-feature l = mentioned_all l.names (flat_map named_in (drop l.feature-index l.features)) ≡ mentioned_all l.fn.names (flat_map named_in l.features)
