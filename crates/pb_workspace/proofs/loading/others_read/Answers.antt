use Rattle.std.proofs.Common.{◌∙◌, refl, rules}
use Rattle.pb_workspace_types.specs.declared.fault.LoadFault.TheVariants.{OutOfMemory}
use Rattle.pb_workspace.proofs.LookingOver.{others_first, others_looks, others_none, others_stop}
use Rattle.pb_workspace.proofs.RoundSteps.{others_told}
use Rattle.pb_workspace_package.proofs.Steps.{quiet_step}
use Rattle.pb_workspace.proofs.loading.others_read.Goals as goal

pub returns-in_err-meant-clause-looks : goal.returns-in_err-meant-clause-looks
returns-in_err-meant-clause-looks g c told =
    let h = others_first c.args.target.now c.args.frame.now c.args.begun (g.P.Place.at c.args.place.now).world c.in_err-meant.field-0.0 (g.P.Place.at c.args.place.now).counts (g.P.Place.at c.member_folders.new.place).counts c.in_err-meant.ensures.outside (c.in_err-meant.ensures.looks told) in
    search (rules, h)

pub returns-in_err-folders-clause-looks : goal.returns-in_err-folders-clause-looks
returns-in_err-folders-clause-looks g c told =
    let h = others_none c.args.target.now c.args.frame.now c.args.begun (g.P.Place.at c.args.place.now).world OutOfMemory (g.P.Place.at c.args.place.now).counts (g.P.Place.at c.member_folders.new.place).counts refl refl (c.in_ok-meant.ensures.looks told) in
    search (rules, h)

pub returns-in_err-read-clause-looks : goal.returns-in_err-read-clause-looks
returns-in_err-read-clause-looks g c told =
    let h = others_stop c.args.target.now c.args.frame.now c.args.begun (g.P.Place.at c.args.place.now).world c.in_ok-meant.meant c.in_ok-folders.folders (g.P.Place.at c.member_folders.new.place).world c.in_err-read.field-0.0 (g.P.Place.at c.args.place.now).counts (g.P.Place.at c.member_folders.new.place).counts (g.P.Place.at c.all_read.new.place).counts
    (c.in_ok-meant.ensures.ok told) c.in_ok-folders.ensures (c.in_ok-meant.ensures.quiet.world) (c.in_ok-meant.ensures.looks told) (c.in_err-read.ensures.ok told) (c.in_err-read.ensures.looks told) in
    search (rules, h)

pub returns-clause-ok : goal.returns-clause-ok
returns-clause-ok g c told =
    others_told c.args.target.now c.args.frame.now c.args.begun (g.P.Place.at c.args.place.now).world c.in_ok-meant.meant c.in_ok-folders.folders (g.P.Place.at c.member_folders.new.place).world (g.P.Place.at c.all_read.new.place).world c.in_ok-read.read c.rounds.result
    (c.in_ok-meant.ensures.ok told) c.in_ok-folders.ensures (c.in_ok-meant.ensures.quiet.world) (c.in_ok-read.ensures.quiet.world ∙ c.in_ok-meant.ensures.quiet.world) (c.in_ok-read.ensures.ok told) (c.rounds.ensures.ok told)

pub returns-clause-quiet : goal.returns-clause-quiet
returns-clause-quiet g c =
    quiet_step c.in_ok-meant.meant c.rounds.result _ _ _ c.in_ok-meant.ensures.quiet
    (quiet_step c.in_ok-read.read c.rounds.result _ _ _ c.in_ok-read.ensures.quiet c.rounds.ensures.quiet)

pub returns-clause-looks : goal.returns-clause-looks
returns-clause-looks g c told =
    others_looks c.args.target.now c.args.frame.now c.args.begun (g.P.Place.at c.args.place.now).world c.in_ok-meant.meant c.in_ok-folders.folders (g.P.Place.at c.member_folders.new.place).world (g.P.Place.at c.all_read.new.place).world c.in_ok-read.read c.rounds.result (g.P.Place.at c.args.place.now).counts (g.P.Place.at c.member_folders.new.place).counts (g.P.Place.at c.all_read.new.place).counts (g.P.Place.at c.rounds.new.place).counts
    (c.in_ok-meant.ensures.ok told) c.in_ok-folders.ensures (c.in_ok-meant.ensures.quiet.world) (c.in_ok-read.ensures.quiet.world ∙ c.in_ok-meant.ensures.quiet.world) (c.in_ok-meant.ensures.looks told) (c.in_ok-read.ensures.ok told) (c.in_ok-read.ensures.looks told) (c.rounds.ensures.looks told)
