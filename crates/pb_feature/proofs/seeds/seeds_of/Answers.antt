use Rattle.std.proofs.Common.{slice_index_or}
use Rattle.std.proofs.lemmas.List.{drop_more}
use Rattle.pb_feature.specs.Rules.{selected_seeds}
use Rattle.pb_graph.proofs.Placing.{placed_more, placed_all}
use Rattle.pb_feature.proofs.seeds.seeds_of.Goals as goal

pub loop-pkg-preserved : goal.loop-pkg-preserved
loop-pkg-preserved c =
    let rest = rw c.as_slice-pkg-items.ensures at (drop_more c.as_slice-pkg-items.result.now c.loop-pkg.pkg-index 0 c.loop-pkg-test.true) in
    let more = rw c.as_slice-pkg-items.ensures at c.in_ok-add_selected.ensures in
    placed_more (selected_seeds c.args.ground.now.packages.now c.args.ground.now.bases.now c.args.selection.now) c.args.selection.now.packages c.loop-pkg.pkg-index (slice_index_or c.args.selection.now.packages c.loop-pkg.pkg-index 0) c.loop-pkg.seeds.items c.add_selected.new.seeds.items _
    rest more c.loop-pkg.invariant

pub returns : goal.returns
returns c =
    placed_all (selected_seeds c.args.ground.now.packages.now c.args.ground.now.bases.now c.args.selection.now) c.args.selection.now.packages c.loop-pkg.pkg-index c.loop-pkg.seeds.items _
    (rw c.as_slice-pkg-items.ensures at c.loop-pkg-test.false) c.loop-pkg.invariant
