use Rattle.std.proofs.Common.{◌<◌, ◌++◌, [], ◌∷◌, true, false, ℕ, length, get_or, set, arith, refl, ap, ◌∙◌}
use Rattle.pb_graph.proofs.MarkingReached.{marked_old, marked_new, marked_as, read_mark}
use Rattle.pb_graph.proofs.reach.mark_all.Goals as goal
use Rattle.pb_graph.proofs.reach.mark_all.Goals.{then-not-index+in_ok-push, else-not-index}

pub loop-v-preserved : goal.loop-v-preserved
loop-v-preserved c =
    let inside : c.loop-v.v-index < length c.args.list.now = c.loop-v-test.true in
    let x : ℕ = get_or c.args.list.now c.loop-v.v-index 0 in
    let below : x < length c.loop-v.marks.items = omega (arith, c.requires c.loop-v.v-index 0 inside, c.loop-v.invariant.long) in
    elim c.if-not-index.branch [
      | then-not-index+in_ok-push w ↦ marked_as _ _ _ _ (set c.loop-v.marks.items x true) _ (c.loop-v.waiting.items ++ x ∷ []) _
          (marked_new _ _ x _ _ _ _ c.loop-v.invariant refl inside below (read_mark _ x _ false below c.index.ensures w.if-not-index.true))
          (ap (λ v. v.items) w.marks-is)
          (ap (λ v. v.items) w.waiting-is ∙ w.in_ok-push.ensures.items)
      | else-not-index w ↦ marked_as _ _ _ _ c.loop-v.marks.items _ c.loop-v.waiting.items _
          (marked_old _ _ x _ _ _ _ c.loop-v.invariant refl (read_mark _ x _ true below c.index.ensures w.if-not-index.false))
          (ap (λ v. v.items) w.marks-is)
          (ap (λ v. v.items) w.waiting-is)
    ]
