use Rattle.std.proofs.Common.{refl}
use Rattle.pb_build_turns.specs.Executor.{moment}
use Rattle.pb_build.specs.Ending.{PicksFirstOf}
use Rattle.pb_build.proofs.Lending.{built_by}
use Rattle.pb_build.proofs.builder.build_plan.Goals as goal

pub returns-clause-on : goal.returns-clause-on
returns-clause-on g c = (record { pick = record {}; jobs = c.args.options.now.jobs }, refl, c.build_plan_turns.new.turn, c.build_plan_turns.ensures.on)

pub returns-clause-builds : goal.returns-clause-builds
returns-clause-builds g c = λ from planned.
    built_by PicksFirstOf g.P.Place.is_modelled g.P.Place.child c.args.options.now _ c.build_plan_turns.new.turn c.build_plan_turns.result from
    (moment (g.P.Place.at c.build_plan_turns.new.place) (g.O.Out.heard c.build_plan_turns.new.out)) (c.build_plan_turns.ensures.builds from planned)
