use Rattle.pb_feature.specs.Rules.{given_rules}
use Rattle.pb_graph.proofs.Placing.{rest_here, placed_more}
use Rattle.pb_feature.proofs.rules_of_entries.add_given.Goals as goal

pub loop-feature-preserved : goal.loop-feature-preserved
loop-feature-preserved c =
    let rest = rest_here c.args.features.now c.loop-feature.feature-index c.feature-item.result c.loop-feature-test.true c.feature-item.is in
    let more = rw (c.in_ok-gives.ensures, c.as_bytes.ensures) at c.in_ok-add_alone.ensures in
    placed_more (given_rules c.args.ground.now.packages.now c.args.ground.now.bases.now c.args.from c.args.pkg c.args.side) c.args.features.now c.loop-feature.feature-index c.feature-item.result c.loop-feature.rules.items c.add_alone.new.rules.items _
    rest more c.loop-feature.invariant
