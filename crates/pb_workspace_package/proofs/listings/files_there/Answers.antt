use Rattle.std.proofs.Common.{◌≡◌, ◌∙◌, [], Ok, Err, ap, rules, subst, sym}
use Rattle.std.specs.List.{filter, flat_map}
use Rattle.pb_place_types.specs.World.{World, from_nothing}
use Rattle.pb_workspace_package.specs.Listings.{is_there}
use Rattle.pb_workspace_package.specs.Looks.{Looks, own_asked}
use Rattle.pb_workspace_package.specs.OwnFile.{own_files}
use Rattle.pb_workspace_package.proofs.InTurn.{row_end, row_kept, row_left_out, row_looks, row_stop}
use Rattle.pb_workspace_package.proofs.OwnFiles.{file_at, file_in_turn}
use Rattle.pb_workspace_package.proofs.listings.files_there.Goals as goal
use Rattle.pb_workspace_package.proofs.listings.files_there.Goals.{then-branch+in_ok-push, else-branch}

pub returns-in_err-is_there-clause-looks : goal.returns-in_err-is_there-clause-looks
returns-in_err-is_there-clause-looks g c =
    let is : c.from_residual.result ≡ Err c.in_err-is_there.field-0.0 = search rules in
    let i = c.loop-file.file-index in
    let h = c.loop-file.invariant.looks (Err c.in_err-is_there.field-0.0) (g.P.Place.at c.is_there.new.place).counts
    (row_stop own_files i (file_at i) c.loop-file-test.true (file_in_turn i c.loop-file-test.true) (own_asked c.args.target.now c.args.folder.now) c.in_err-is_there.field-0.0 _ _ c.in_err-is_there.ensures.outside c.in_err-is_there.ensures.looks) in
    subst (λ r. Looks r (flat_map (own_asked c.args.target.now c.args.folder.now) own_files) (g.P.Place.at c.args.place.now).counts (g.P.Place.at c.is_there.new.place).counts) (sym is) h

pub loop-file-preserved : goal.loop-file-preserved
loop-file-preserved g c =
    let i = c.loop-file.file-index in
    let at = file_in_turn i c.loop-file-test.true in
    let there = λ (w : World). is_there c.args.folder.now (from_nothing c.args.target.now w) in
    record {
      own = λ is_modelled.
          let here = there (g.P.Place.at c.args.place.now).world in
          let told = sym (ap (λ w. there w (file_at i)) c.loop-file.invariant.quiet.world) ∙ sym (c.in_ok-is_there.ensures.ok is_modelled) in
          elim c.if-branch.branch [
            | then-branch+in_ok-push w ↦ row_kept own_files i (file_at i) c.loop-file-test.true at here (filter here own_files) c.loop-file.own c.if-branch.own (w.own-is ∙ w.in_ok-push.ensures.ok) (told ∙ w.if-branch.true) (c.loop-file.invariant.own is_modelled)
            | else-branch w ↦ row_left_out own_files i (file_at i) c.loop-file-test.true at here (filter here own_files) c.loop-file.own c.if-branch.own w.own-is (told ∙ w.if-branch.false) (c.loop-file.invariant.own is_modelled)
          ];
      quiet = search rules;
      looks = λ r new more. c.loop-file.invariant.looks r new (row_looks own_files i (file_at i) c.loop-file-test.true at (own_asked c.args.target.now c.args.folder.now) r _ _ _ c.in_ok-is_there.ensures.looks more);
    }

pub returns-clause-looks : goal.returns-clause-looks
returns-clause-looks g c =
    c.loop-file.invariant.looks (Ok []) (g.P.Place.at c.loop-file.place).counts (row_end (own_asked c.args.target.now c.args.folder.now) own_files c.loop-file.file-index (g.P.Place.at c.loop-file.place).counts c.loop-file-test.false)
