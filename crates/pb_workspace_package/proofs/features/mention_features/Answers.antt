use Rattle.std.proofs.Common.{◌∙◌, ap}
use Rattle.std.specs.List.{flat_map}
use Rattle.pb_data.specs.OrderedSet.{mentioned_all}
use Rattle.pb_workspace_package.specs.Enabling.{named_by, named_in}
use Rattle.pb_workspace_package.proofs.EnabledNames.{mentioned_step}
use Rattle.pb_workspace_package.proofs.features.mention_features.Goals as goal

pub loop-feature-preserved : goal.loop-feature-preserved
loop-feature-preserved c =
    mentioned_step named_in c.args.features.now c.loop-feature.feature-index c.feature-item.result c.loop-feature.names _ _ c.loop-feature-test.true c.feature-item.is
    (c.in_ok-mention_items.ensures ∙ ap (λ items. mentioned_all c.loop-feature.names (flat_map named_by items)) c.as_slice.ensures) c.loop-feature.invariant
