use Rattle.std.proofs.Common.{refl}
use Rattle.pb_build_turns.specs.Executor.{moment}
use Rattle.pb_build.proofs.Headline.{headline}
use Rattle.pb_build.proofs.Staying.{builds_stay, builds_landed}
use Rattle.pb_build.proofs.builder.build_turns.Goals as goal

pub returns-clause-builds : goal.returns-clause-builds
returns-clause-builds g c =
    c.build_plan_turns.ensures.builds (moment (g.P.Place.at c.args.place.now) (g.O.Out.heard c.args.out.now)) record {
      is = c.plan_build-plan.ensures.plan;
      refused = c.plan_build-plan.ensures.refused;
      stays = λ told. c.plan_build-plan.ensures.quiet.world;
      takes = c.plan_build-plan.ensures.quiet.takes;
      named = c.plan_build-plan.ensures.quiet.names;
      calls = c.plan_build-plan.ensures.calls;
      most = c.plan_build-plan.ensures.quiet.most;
      heard = refl;
    }

pub returns-clause-headline : goal.returns-clause-headline
returns-clause-headline g c =
    let old = moment (g.P.Place.at c.args.place.now) (g.O.Out.heard c.args.out.now) in
    let new = moment (g.P.Place.at c.build_plan_turns.new.place) (g.O.Out.heard c.build_plan_turns.new.out) in
    headline g.P.Place.is_modelled g.P.Place.child g.T.Turn.turns c.args.options.now c.args.turn.now c.build_plan_turns.new.turn c.build_plan_turns.result old new (returns-clause-builds g c)

pub returns-clause-kept : goal.returns-clause-kept
returns-clause-kept g c told =
    let old = moment (g.P.Place.at c.args.place.now) (g.O.Out.heard c.args.out.now) in
    let new = moment (g.P.Place.at c.build_plan_turns.new.place) (g.O.Out.heard c.build_plan_turns.new.out) in
    builds_stay g.P.Place.is_modelled g.P.Place.child g.T.Turn.turns c.args.options.now c.args.turn.now c.build_plan_turns.new.turn c.build_plan_turns.result old new told (returns-clause-builds g c)

pub returns-clause-landed : goal.returns-clause-landed
returns-clause-landed g c =
    let old = moment (g.P.Place.at c.args.place.now) (g.O.Out.heard c.args.out.now) in
    let new = moment (g.P.Place.at c.build_plan_turns.new.place) (g.O.Out.heard c.build_plan_turns.new.out) in
    builds_landed g.P.Place.is_modelled g.P.Place.child g.T.Turn.turns c.args.options.now c.args.turn.now c.build_plan_turns.new.turn c.build_plan_turns.result old new (returns-clause-builds g c)
