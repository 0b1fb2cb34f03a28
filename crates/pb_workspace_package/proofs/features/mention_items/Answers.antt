use Rattle.pb_workspace_package.specs.Enabling.{named_by}
use Rattle.pb_workspace_package.proofs.EnabledNames.{mentioned_step}
use Rattle.pb_workspace_package.proofs.features.mention_items.Goals as goal

pub loop-item-preserved : goal.loop-item-preserved
loop-item-preserved c =
    mentioned_step named_by c.args.items.now c.loop-item.item-index c.item-item.result c.loop-item.names _ _ c.loop-item-test.true c.item-item.is c.in_ok-mention_named.ensures c.loop-item.invariant
