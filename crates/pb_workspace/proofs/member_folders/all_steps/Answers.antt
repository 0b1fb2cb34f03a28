use Rattle.std.proofs.Common.{◌∙◌, [], Ok, Err, ap, refl, rules}
use Rattle.pb_place_types.specs.World.{from_nothing}
use Rattle.pb_workspace_types.specs.declared.fault.LoadFault.TheVariants.{OutOfMemory}
use Rattle.pb_workspace_package.proofs.InTurn.{row_end, row_looks, row_made, row_none, row_stop}
use Rattle.pb_workspace.specs.LookedAt.{step_looked}
use Rattle.pb_workspace.specs.MemberFolders.{kept_step}
use Rattle.pb_workspace.proofs.member_folders.all_steps.Goals as goal

pub returns-in_err-found-clause-looks : goal.returns-in_err-found-clause-looks
returns-in_err-found-clause-looks g c =
    let h = c.loop-folder.invariant.looks (Err c.in_err-found.field-0.0) (g.P.Place.at c.kept_step.new.place).counts
    (row_stop c.args.folders.now c.loop-folder.folder-index c.folder-item.result c.loop-folder-test.true c.folder-item.is (step_looked c.args.target.now c.args.part.now) c.in_err-found.field-0.0 _ _ c.in_err-found.ensures.outside c.in_err-found.ensures.looks) in
    search (rules, h)

pub returns-in_err-add_folders-clause-looks : goal.returns-in_err-add_folders-clause-looks
returns-in_err-add_folders-clause-looks g c =
    let h = c.loop-folder.invariant.looks (Err OutOfMemory) _
    (row_none c.args.folders.now c.loop-folder.folder-index c.folder-item.result c.loop-folder-test.true c.folder-item.is (step_looked c.args.target.now c.args.part.now) OutOfMemory _ _ refl refl c.in_ok-found.ensures.looks) in
    search (rules, h)

pub loop-folder-preserved : goal.loop-folder-preserved
loop-folder-preserved g c = record {
  made = λ told. row_made c.args.folders.now c.loop-folder.folder-index c.folder-item.result c.loop-folder-test.true c.folder-item.is (kept_step (from_nothing c.args.target.now (g.P.Place.at c.args.place.now).world) c.args.frame.now c.args.part.now) _ _ _ _ c.in_ok-add_folders.ensures
      (c.in_ok-found.ensures.ok told ∙ ap (λ w. kept_step (from_nothing c.args.target.now w) c.args.frame.now c.args.part.now c.folder-item.result) (c.loop-folder.invariant.quiet.world)) (c.loop-folder.invariant.made told);
  quiet = search rules;
  looks = λ r new more. c.loop-folder.invariant.looks r new (row_looks c.args.folders.now c.loop-folder.folder-index c.folder-item.result c.loop-folder-test.true c.folder-item.is (step_looked c.args.target.now c.args.part.now) r _ _ _ c.in_ok-found.ensures.looks more);
}

pub returns-clause-looks : goal.returns-clause-looks
returns-clause-looks g c =
    c.loop-folder.invariant.looks (Ok []) (g.P.Place.at c.loop-folder.place).counts (row_end (step_looked c.args.target.now c.args.part.now) c.args.folders.now c.loop-folder.folder-index (g.P.Place.at c.loop-folder.place).counts c.loop-folder-test.false)
