use Rattle.std.proofs.Common.{◌∙◌, subst}
use Rattle.std.proofs.lemmas.Result.{IfOk-weaker}
use Rattle.pb_place_types.specs.World.{World}
use Rattle.pb_run.proofs.Held.{compared_again, compared_first}
use Rattle.pb_run.specs.Invariants.{records_folder}
use Rattle.pb_run.specs.Outcome.{ran_of}
use Rattle.pb_tool_preview.specs.Foreseeing.{Judges}
use Rattle.pb_tool_preview.proofs.Judged.{replay_compared}
use Rattle.pb_tool_preview.proofs.comparing.compare_record.Goals as goal

pub returns-in-Same-clause-compared : goal.returns-in-Same-clause-compared
returns-in-Same-clause-compared g c told =
    let project = c.args.project.now in
    let w = (g.P.Place.at c.args.place.now).world in
    let u = c.args.unit.now in
    let command = c.args.command.now in
    let root = records_folder project in
    let compares = c.in-Ok.ensures.compares told in
    IfOk-weaker c.replay_record.result _ _ (λ seen judged. replay_compared project w u command c.in-Same.again seen.0 seen.1
    (compared_first c.args.store.now.folder root c.args.key.now u.key command w c.in-Ok.compared _ c.requires.folder c.requires.key c.in-Same.is compares.first)
    (compared_again c.args.store.now.folder root c.args.key.now u.key w c.in-Ok.compared c.in-Same.again c.requires.folder c.requires.key c.in-Same.is compares.carries)
    (subst (λ (v : World). Judges (ran_of project u command c.in-Same.again.ended v.files) seen.0 seen.1) c.in-Ok.ensures.quiet.world judged))
    (c.replay_record.ensures.judges told)
