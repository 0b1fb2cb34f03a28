use Rattle.std.proofs.Common.{arith, refl}
use Rattle.pb_feature.specs.Marked.{marked_entry}
use Rattle.pb_feature.proofs.Stepping.{placed_step}
use Rattle.pb_feature.proofs.resolved.entries_of.Goals as goal

pub loop-index-preserved : goal.loop-index-preserved
loop-index-preserved c =
    placed_step (marked_entry c.args.marks.now c.args.ground.now.bases.now c.args.pkg c.args.side c.args.features) c.args.entries.now _ _ _ _ c.loop-index.index (omega arith) (λ x. refl) c.loop-index.invariant c.in_ok-add_mark.ensures
