use Rattle.pb_graph.proofs.Placing.{rest_here, placed_more}
use Rattle.pb_unit.specs.Drawing.{missing_at}
use Rattle.pb_unit.proofs.names.all_missing.Goals as goal

pub loop-index-preserved : goal.loop-index-preserved
loop-index-preserved c =
    let rest = rest_here c.as_slice-packages.result.now c.loop-index.index c.index-packages-index.result c.loop-index-test.true c.index-packages-index.is in
    placed_more (missing_at c.args.workspace.now c.args.features.now) c.as_slice-packages.result.now c.loop-index.index c.index-packages-index.result c.loop-index.names.items c.add_all_missing.new.names.items _ rest (rw (c.as_slice-entries.ensures, ← c.index-packages-index.is) at c.in_ok-add_all_missing.ensures) c.loop-index.invariant
