use Rattle.std.proofs.Common.{◌≡◌, ◌∙◌, Result, Ok, Err, refl, subst, sym}
use Rattle.pb_build.specs.Ending.{PlansFrom}
use Rattle.pb_build_result.specs.declared.fault.BuildFault.{BuildFault}
use Rattle.pb_build_turns.specs.Executor.{moment}
use Rattle.pb_tool_program.specs.Planning.{EndsPlan}
use Rattle.pb_tool_program.proofs.Ahead.{looked_starts, looked_world, none_more}
use Rattle.pb_tool_program.proofs.previewing.preview_options.Goals as goal

pub returns-in-Ok : goal.returns-in-Ok
returns-in-Ok g c heard =
    let before = moment (g.P.Place.at c.args.place.now) heard in
    let planned = moment (g.P.Place.at c.plan_build-plan.new.place) heard in
    let ahead = moment (g.P.Place.at c.look_ahead.new.place) heard in
    let said = (g.E.Out.heard c.look_ahead.new.err) in
    let ends : EndsPlan c.look_ahead.result 0 ahead ahead said said = subst (λ (answer : Result (Unit {0}) BuildFault). EndsPlan answer 0 ahead ahead said said) (sym c.in-Ok.is) (refl, refl, refl) in
    record {
      unchanged = λ told. looked_world g.P.Place.is_modelled g.P.Place.child c.args.options.now c.plan_build-plan.result c.look_ahead.result 0 planned ahead ahead (g.E.Out.heard c.note.new.err) said said (c.look_ahead.ensures heard) ends told ∙ c.plan_build-plan.ensures.quiet.world;
      query = none_more before.counts.starts planned.counts.starts ahead.counts.starts c.plan_build-plan.ensures.unstarted
          (looked_starts g.P.Place.is_modelled g.P.Place.child c.args.options.now c.plan_build-plan.result c.look_ahead.result 0 planned ahead ahead (g.E.Out.heard c.note.new.err) said said (c.look_ahead.ensures heard) ends);
      heard = refl;
      plan = c.plan_build-plan.result;
      planned = planned;
      plans = record {
        is = c.plan_build-plan.ensures.plan;
        refused = c.plan_build-plan.ensures.refused;
        stays = λ told. c.plan_build-plan.ensures.quiet.world;
        takes = c.plan_build-plan.ensures.quiet.takes;
        named = c.plan_build-plan.ensures.quiet.names;
        calls = c.plan_build-plan.ensures.calls;
        most = c.plan_build-plan.ensures.quiet.most;
        heard = refl;
      };
      noted = (g.E.Out.heard c.note.new.err);
      notes = c.note.ensures;
      answer = c.look_ahead.result;
      ahead = ahead;
      said = said;
      looks = c.look_ahead.ensures heard;
      ends = ends;
    }

pub returns-in-Err : goal.returns-in-Err
returns-in-Err g c heard =
    let before = moment (g.P.Place.at c.args.place.now) heard in
    let planned = moment (g.P.Place.at c.plan_build-plan.new.place) heard in
    let ahead = moment (g.P.Place.at c.look_ahead.new.place) heard in
    let new = moment (g.P.Place.at c.fail.new.place) heard in
    let said = (g.E.Out.heard c.look_ahead.new.err) in
    let after = (g.E.Out.heard c.fail.new.err) in
    let ends : EndsPlan c.look_ahead.result c.fail.result ahead new said after = subst (λ (answer : Result (Unit {0}) BuildFault). EndsPlan answer c.fail.result ahead new said after) (sym c.in-Err.is) (c.fail.ensures heard) in
    record {
      unchanged = λ told. looked_world g.P.Place.is_modelled g.P.Place.child c.args.options.now c.plan_build-plan.result c.look_ahead.result c.fail.result planned ahead new (g.E.Out.heard c.note.new.err) said after (c.look_ahead.ensures heard) ends told ∙ c.plan_build-plan.ensures.quiet.world;
      query = none_more before.counts.starts planned.counts.starts new.counts.starts c.plan_build-plan.ensures.unstarted
          (looked_starts g.P.Place.is_modelled g.P.Place.child c.args.options.now c.plan_build-plan.result c.look_ahead.result c.fail.result planned ahead new (g.E.Out.heard c.note.new.err) said after (c.look_ahead.ensures heard) ends);
      heard = refl;
      plan = c.plan_build-plan.result;
      planned = planned;
      plans = record {
        is = c.plan_build-plan.ensures.plan;
        refused = c.plan_build-plan.ensures.refused;
        stays = λ told. c.plan_build-plan.ensures.quiet.world;
        takes = c.plan_build-plan.ensures.quiet.takes;
        named = c.plan_build-plan.ensures.quiet.names;
        calls = c.plan_build-plan.ensures.calls;
        most = c.plan_build-plan.ensures.quiet.most;
        heard = refl;
      };
      noted = (g.E.Out.heard c.note.new.err);
      notes = c.note.ensures;
      answer = c.look_ahead.result;
      ahead = ahead;
      said = said;
      looks = c.look_ahead.ensures heard;
      ends = ends;
    }
