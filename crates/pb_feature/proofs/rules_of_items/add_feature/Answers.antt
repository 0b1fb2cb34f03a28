use Rattle.pb_feature.specs.Rules.{one_item_rules}
use Rattle.pb_graph.proofs.Placing.{rest_here, placed_more}
use Rattle.pb_feature.proofs.rules_of_items.add_feature.Goals as goal

pub loop-item-preserved : goal.loop-item-preserved
loop-item-preserved c =
    let rest = rest_here c.args.items.now c.loop-item.item-index c.item-item.result c.loop-item-test.true c.item-item.is in
    placed_more (one_item_rules c.args.ground.now.packages.now c.args.ground.now.bases.now c.args.pkg c.args.owner.now c.in-Some.feature) c.args.items.now c.loop-item.item-index c.item-item.result c.loop-item.rules.items c.add_one_item.new.rules.items _
    rest c.in_ok-add_one_item.ensures c.loop-item.invariant
