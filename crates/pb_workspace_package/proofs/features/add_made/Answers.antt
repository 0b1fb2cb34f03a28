use Rattle.pb_workspace_package.proofs.EnabledNames.{made_step}
use Rattle.pb_workspace_package.proofs.features.add_made.Goals as goal

pub loop-entry-preserved : goal.loop-entry-preserved
loop-entry-preserved c =
    λ written named.
    made_step written c.args.names.now named c.args.entries.now c.loop-entry.entry-index c.entry-item.result c.loop-entry.made _ _ c.loop-entry-test.true c.entry-item.is c.in_ok-add_one_made.ensures (c.loop-entry.invariant written named)
