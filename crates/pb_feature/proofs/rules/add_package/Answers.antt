use Rattle.pb_feature.specs.Rules.{feature_rules}
use Rattle.pb_graph.proofs.Placing.{rest_here, placed_more}
use Rattle.pb_feature.proofs.rules.add_package.Goals as goal

pub loop-index-preserved : goal.loop-index-preserved
loop-index-preserved c =
    let rest = rest_here c.as_slice-features.result.now c.loop-index.index c.index-features-index.result c.loop-index-test.true c.index-features-index.is in
    let more = rw (c.as_slice-items.ensures, ← c.index-features-index.is) at c.in_ok-add_feature.ensures in
    placed_more (feature_rules c.args.ground.now.packages.now c.args.ground.now.bases.now c.args.pkg c.args.owner.now) c.as_slice-features.result.now c.loop-index.index c.index-features-index.result c.loop-index.rules.items c.add_feature.new.rules.items _
    rest more c.loop-index.invariant
