use Rattle.pb_graph.proofs.Placing.{rest_here, placed_more}
use Rattle.pb_unit.specs.Drawing.{six}
use Rattle.pb_unit.proofs.candidates.units_without_binaries.Goals as goal

pub loop-index-preserved : goal.loop-index-preserved
loop-index-preserved c =
    let rest = rest_here c.args.packages.now c.loop-index.index c.index-packages-index.result c.loop-index-test.true c.index-packages-index.is in
    placed_more six c.args.packages.now c.loop-index.index c.index-packages-index.result c.loop-index.units.items c.add_fixed.new.units.items _ rest c.in_ok-add_fixed.ensures c.loop-index.invariant
