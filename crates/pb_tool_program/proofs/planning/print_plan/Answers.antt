use Rattle.std.proofs.Common.{refl}
use Rattle.pb_build_turns.specs.Executor.{moment}
use Rattle.pb_tool_program.proofs.planning.print_plan.Goals as goal

pub returns : goal.returns
returns g c = record {
  plan = c.plan_build-plan.result;
  planned = moment (g.P.Place.at c.plan_build-plan.new.place) (g.O.Out.heard c.args.out.now);
  plans = record {
    is = c.plan_build-plan.ensures.plan;
    refused = c.plan_build-plan.ensures.refused;
    stays = λ told. c.plan_build-plan.ensures.quiet.world;
    takes = c.plan_build-plan.ensures.quiet.takes;
    named = c.plan_build-plan.ensures.quiet.names;
    calls = c.plan_build-plan.ensures.calls;
    most = c.plan_build-plan.ensures.quiet.most;
    heard = refl;
  };
  heard = (g.O.Out.heard c.print_planned.new.out);
  prints = c.print_planned.ensures;
  rests = refl;
}
