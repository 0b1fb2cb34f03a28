use Rattle.pb_graph.proofs.Placing.{rest_here, placed_more}
use Rattle.pb_unit.specs.Drawing.{missing_by}
use Rattle.pb_unit.proofs.names.add_all_missing.Goals as goal

pub loop-index-preserved : goal.loop-index-preserved
loop-index-preserved c =
    let rest = rest_here c.args.entries.now c.loop-index.index c.index-entries-index.result c.loop-index-test.true c.index-entries-index.is in
    placed_more (missing_by c.args.workspace.now c.args.features.now c.args.owner) c.args.entries.now c.loop-index.index c.index-entries-index.result c.loop-index.names.items c.add_missing.new.names.items _ rest c.in_ok-add_missing.ensures c.loop-index.invariant
