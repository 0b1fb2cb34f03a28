use Rattle.pb_feature.specs.Rules.{chosen_seeds}
use Rattle.pb_graph.proofs.Placing.{rest_here, placed_more}
use Rattle.pb_feature.proofs.seeds.add_owner.Goals as goal

pub loop-index-preserved : goal.loop-index-preserved
loop-index-preserved c =
    let rest = rest_here c.as_slice-features.result.now c.loop-index.index c.index-features-index.result c.loop-index-test.true c.index-features-index.is in
    placed_more (chosen_seeds c.args.ground.now.bases.now c.args.selection.now c.args.pkg c.as_str-name.result.now) c.as_slice-features.result.now c.loop-index.index c.index-features-index.result c.loop-index.seeds.items c.add_chosen.new.seeds.items _
    rest c.in_ok-add_chosen.ensures c.loop-index.invariant
