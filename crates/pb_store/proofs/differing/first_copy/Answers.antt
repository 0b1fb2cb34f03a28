use Rattle.std.proofs.Common.{rules}
use Rattle.pb_place_types.specs.World.{World}
use Rattle.std.specs.Prelude.{List, ℕ}
use Rattle.pb_store.specs.Differences.{HasFiles}
use Rattle.pb_store.proofs.Firsts.{one_fails, one_holds}
use Rattle.pb_store.specs.Looking.{has_files, out_looked}
use Rattle.pb_store.proofs.Alike.{differs_here, has_files_decides, same_here}
use Rattle.pb_store.proofs.Looking.{row_refused, row_stops}
use Rattle.pb_store.proofs.differing.first_copy.Goals as goal

pub returns-in-Ok-clause-ok : goal.returns-in-Ok-clause-ok
returns-in-Ok-clause-ok g c is_modelled =
    one_fails (λ (w : World). HasFiles c.args.folder.now w.files) (λ (x : List ℕ × List (List ℕ × List ℕ)). x.0) (g.P.Place.at c.args.place.now).world (g.P.Place.at c.loop-need.place).world c.args.copies.now c.loop-need.need-index c.need-item.result c.loop-need-test.true c.need-item.is (c.loop-need.invariant.quiet.world) _ c.in-Ok.key
    (c.loop-need.invariant.all is_modelled) (c.in-Ok-false.ensures.ok is_modelled) c.in-Ok-false.field-0-test (search rules)

pub loop-need-preserved : goal.loop-need-preserved
loop-need-preserved g c = record {
  quiet = search rules;
  all = λ is_modelled. one_holds (λ (w : World). HasFiles c.args.folder.now w.files) (λ (x : List ℕ × List (List ℕ × List ℕ)). x.0) (g.P.Place.at c.args.place.now).world (g.P.Place.at c.loop-need.place).world c.args.copies.now c.loop-need.need-index c.need-item.result c.loop-need-test.true c.need-item.is (c.loop-need.invariant.quiet.world) _
      (c.loop-need.invariant.all is_modelled) (c.in-Ok-true.ensures.ok is_modelled) c.in-Ok-true.field-0-test;
  looks = λ is_modelled. same_here (λ (w : World). HasFiles c.args.folder.now w.files) (λ (w : World). has_files c.args.folder.now w.files) (λ (w : World) (need : List ℕ × List (List ℕ × List ℕ)). out_looked c.args.folder.now w need.0) (λ w need. has_files_decides c.args.folder.now w.files need)
      (g.P.Place.at c.args.place.now).world (g.P.Place.at c.loop-need.place).world c.args.copies.now c.loop-need.need-index c.need-item.result c.loop-need-test.true c.need-item.is (c.loop-need.invariant.quiet.world) _ _ _ _ _
      (c.loop-need.invariant.looks is_modelled) (c.in-Ok-true.ensures.looks is_modelled) (c.in-Ok-true.ensures.ok is_modelled) c.in-Ok-true.field-0-test;
}

pub returns-in-Ok-clause-looks : goal.returns-in-Ok-clause-looks
returns-in-Ok-clause-looks g c is_modelled =
    differs_here (λ (w : World). HasFiles c.args.folder.now w.files) (λ (w : World). has_files c.args.folder.now w.files) (λ (w : World) (need : List ℕ × List (List ℕ × List ℕ)). out_looked c.args.folder.now w need.0) (λ w need. has_files_decides c.args.folder.now w.files need)
    (g.P.Place.at c.args.place.now).world (g.P.Place.at c.loop-need.place).world c.args.copies.now c.loop-need.need-index c.need-item.result c.loop-need-test.true c.need-item.is (c.loop-need.invariant.quiet.world) _ _ _ _ _
    (c.loop-need.invariant.looks is_modelled) (c.in-Ok-false.ensures.looks is_modelled) (c.in-Ok-false.ensures.ok is_modelled) c.in-Ok-false.field-0-test

pub returns-in-Err-copy-clause-looks : goal.returns-in-Err-copy-clause-looks
returns-in-Err-copy-clause-looks g c is_modelled =
    row_refused (λ (w : World). has_files c.args.folder.now w.files) (λ (w : World) (need : List ℕ × List (List ℕ × List ℕ)). out_looked c.args.folder.now w need.0)
    (g.P.Place.at c.args.place.now).world (g.P.Place.at c.loop-need.place).world c.args.copies.now c.loop-need.need-index c.need-item.result c.loop-need-test.true c.need-item.is (c.loop-need.invariant.quiet.world) _ _ _ _
    (c.loop-need.invariant.looks is_modelled) (c.in-Ok-false.ensures.looks is_modelled)

pub returns-in-Err-clause-looks : goal.returns-in-Err-clause-looks
returns-in-Err-clause-looks g c is_modelled =
    row_stops (λ (w : World). has_files c.args.folder.now w.files) (λ (w : World) (need : List ℕ × List (List ℕ × List ℕ)). out_looked c.args.folder.now w need.0)
    (g.P.Place.at c.args.place.now).world (g.P.Place.at c.loop-need.place).world c.args.copies.now c.loop-need.need-index c.need-item.result c.loop-need-test.true c.need-item.is (c.loop-need.invariant.quiet.world) _ _ _ _ _
    (c.loop-need.invariant.looks is_modelled) (c.in-Err.ensures.looks is_modelled)
