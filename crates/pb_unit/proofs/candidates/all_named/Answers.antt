use Rattle.std.proofs.Common.{slice_index_or}
use Rattle.std.proofs.lemmas.List.{drop_more}
use Rattle.pb_graph.proofs.Placing.{placed_more}
use Rattle.pb_unit.specs.Drawing.{named_at}
use Rattle.pb_unit.proofs.candidates.all_named.Goals as goal

pub loop-index-preserved : goal.loop-index-preserved
loop-index-preserved c =
    placed_more (named_at c.args.workspace.now c.args.features.now c.args.selection.now) c.as_slice-selected.result.now c.loop-index.index (slice_index_or c.as_slice-selected.result.now c.loop-index.index 0) c.loop-index.found.items c.add_selected.new.found.items _
    (drop_more c.as_slice-selected.result.now c.loop-index.index 0 c.loop-index-test.true) c.in_ok-add_selected.ensures c.loop-index.invariant
