use Rattle.pb_build_turns.specs.Executor.{moment}
use Rattle.std.proofs.Common.{◌∙◌, refl, subst, sym}
use Rattle.pb_build.specs.Ending.{PlansFrom}
use Rattle.pb_tool_program.specs.Building.{Concludes, moved_lost, moved_notes}
use Rattle.pb_tool_program.specs.Writing.{TellsOr}
use Rattle.pb_tool_program.proofs.building.build_options.Goals as goal

pub returns : goal.returns
returns g c =
    let before = moment (g.P.Place.at c.args.place.now) (g.O.Out.heard c.args.out.now) in
    let planned = moment (g.P.Place.at c.plan_build-plan.new.place) (g.O.Out.heard c.args.out.now) in
    let plans : PlansFrom g.P.Place.is_modelled c.args.options.now c.plan_build-plan.result before planned = record {
      is = c.plan_build-plan.ensures.plan;
      refused = c.plan_build-plan.ensures.refused;
      stays = λ told. c.plan_build-plan.ensures.quiet.world;
      takes = c.plan_build-plan.ensures.quiet.takes;
      named = c.plan_build-plan.ensures.quiet.names;
      calls = c.plan_build-plan.ensures.calls;
      most = c.plan_build-plan.ensures.quiet.most;
      heard = refl;
    } in
    record {
      plan = c.plan_build-plan.result;
      planned = planned;
      plans = plans;
      noted = (g.E.Out.heard c.note.new.err);
      notes = c.note.ensures;
      held = (g.E.Out.heard c.hold.new.err);
      guards = c.hold.ensures;
      answer = c.build_watched-answer.result;
      built = moment (g.P.Place.at c.build_watched-answer.new.place) (g.O.Out.heard c.build_watched-answer.new.out);
      on = c.build_watched-answer.ensures.on;
      builds = c.build_watched-answer.ensures.builds before plans;
      stood = λ told. sym c.moved_paths.ensures.all ∙ c.moved_paths.ensures.none told;
      marked = (g.E.Out.heard c.mark.new.err);
      marks = subst (λ list. TellsOr moved_lost (moved_notes list) (g.E.Out.heard c.hold.new.err) (g.E.Out.heard c.mark.new.err)) c.moved_paths.ensures.all c.mark.ensures;
      notes_again = c.look-notes.result;
      are_notes = c.texts.ensures.notes;
      looked = c.look-notes.ensures (g.O.Out.heard c.build_watched-answer.new.out);
      report = c.reports_of-report.result.now;
      reports = c.reports_of-report.ensures;
      concluded = subst (λ units. Concludes units c.args.rendered c.build_watched-answer.result c.reports_of-report.result.now c.look-notes.result c.conclude.result (g.E.Out.heard c.mark.new.err) (g.E.Out.heard c.conclude.new.err)) c.units_if-units.ensures c.conclude.ensures;
    }
