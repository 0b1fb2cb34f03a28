use Rattle.std.proofs.Common.{◌≡◌, ◌∙◌, [], Ok, Err, ap, refl, rules, subst}
use Rattle.pb_place_types.specs.CallsInTurn.{past_calls}
use Rattle.pb_place_types.specs.World.{from_nothing}
use Rattle.pb_workspace_types.specs.declared.fault.LoadFault.TheVariants.{OutOfMemory}
use Rattle.pb_workspace_package.proofs.InTurn.{row_end, row_looks, row_made, row_none, row_stop}
use Rattle.pb_workspace_package.proofs.Looking.{Ends}
use Rattle.pb_workspace.specs.LookedAt.{text_looked}
use Rattle.pb_workspace.specs.MemberFolders.{folders_meant}
use Rattle.pb_workspace.proofs.member_folders.folders_of_texts.Goals as goal

pub returns-in_err-folders-clause-looks : goal.returns-in_err-folders-clause-looks
returns-in_err-folders-clause-looks g c told =
    let here = subst (λ w. Ends c.in_err-folders.field-0.0 (text_looked c.args.target.now (from_nothing c.args.target.now w) c.args.frame.now c.text-item.result) (g.P.Place.at c.loop-text.place).counts (g.P.Place.at c.folders_meant.new.place).counts)
    c.loop-text.invariant.quiet.world (c.in_err-folders.ensures.looks told) in
    let h = c.loop-text.invariant.looks told (Err c.in_err-folders.field-0.0) (g.P.Place.at c.folders_meant.new.place).counts
    (row_stop c.args.texts.now c.loop-text.text-index c.text-item.result c.loop-text-test.true c.text-item.is (text_looked c.args.target.now (from_nothing c.args.target.now (g.P.Place.at c.args.place.now).world) c.args.frame.now) c.in_err-folders.field-0.0 _ _ c.in_err-folders.ensures.outside here) in
    search (rules, h)

pub returns-in_err-add_folders-clause-looks : goal.returns-in_err-add_folders-clause-looks
returns-in_err-add_folders-clause-looks g c told =
    let here = subst (λ w. (g.P.Place.at c.folders_meant.new.place).counts ≡ past_calls (text_looked c.args.target.now (from_nothing c.args.target.now w) c.args.frame.now c.text-item.result) (g.P.Place.at c.loop-text.place).counts)
    c.loop-text.invariant.quiet.world (c.in_ok-folders.ensures.looks told) in
    let h = c.loop-text.invariant.looks told (Err OutOfMemory) _
    (row_none c.args.texts.now c.loop-text.text-index c.text-item.result c.loop-text-test.true c.text-item.is (text_looked c.args.target.now (from_nothing c.args.target.now (g.P.Place.at c.args.place.now).world) c.args.frame.now) OutOfMemory _ _ refl refl here) in
    search (rules, h)

pub loop-text-preserved : goal.loop-text-preserved
loop-text-preserved g c = record {
  made = λ told. row_made c.args.texts.now c.loop-text.text-index c.text-item.result c.loop-text-test.true c.text-item.is (folders_meant (from_nothing c.args.target.now (g.P.Place.at c.args.place.now).world) c.args.frame.now) _ _ _ _ c.in_ok-add_folders.ensures
      (c.in_ok-folders.ensures.ok told ∙ ap (λ w. folders_meant (from_nothing c.args.target.now w) c.args.frame.now c.text-item.result) (c.loop-text.invariant.quiet.world)) (c.loop-text.invariant.made told);
  quiet = search rules;
  looks = λ told r new more. c.loop-text.invariant.looks told r new
      (row_looks c.args.texts.now c.loop-text.text-index c.text-item.result c.loop-text-test.true c.text-item.is (text_looked c.args.target.now (from_nothing c.args.target.now (g.P.Place.at c.args.place.now).world) c.args.frame.now) r _ _ _
      (subst (λ w. (g.P.Place.at c.folders_meant.new.place).counts ≡ past_calls (text_looked c.args.target.now (from_nothing c.args.target.now w) c.args.frame.now c.text-item.result) (g.P.Place.at c.loop-text.place).counts)
      c.loop-text.invariant.quiet.world (c.in_ok-folders.ensures.looks told)) more);
}

pub returns-clause-looks : goal.returns-clause-looks
returns-clause-looks g c told =
    c.loop-text.invariant.looks told (Ok []) (g.P.Place.at c.loop-text.place).counts
    (row_end (text_looked c.args.target.now (from_nothing c.args.target.now (g.P.Place.at c.args.place.now).world) c.args.frame.now) c.args.texts.now c.loop-text.text-index (g.P.Place.at c.loop-text.place).counts c.loop-text-test.false)
