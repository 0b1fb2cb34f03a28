use Rattle.pb_feature.specs.Rules.{entry_rules}
use Rattle.pb_graph.proofs.Placing.{rest_here, placed_more}
use Rattle.pb_feature.proofs.rules_of_entries.add_entries.Goals as goal

pub loop-index-preserved : goal.loop-index-preserved
loop-index-preserved c =
    let rest = rest_here c.args.entries.now c.loop-index.index c.index-entries-index.result c.loop-index-test.true c.index-entries-index.is in
    placed_more (entry_rules c.args.ground.now.packages.now c.args.ground.now.bases.now c.args.side c.args.pkg c.args.features) c.args.entries.now c.loop-index.index c.index-entries-index.result c.loop-index.rules.items c.add_entry.new.rules.items _
    rest c.in_ok-add_entry.ensures c.loop-index.invariant
