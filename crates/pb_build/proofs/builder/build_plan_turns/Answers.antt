use Rattle.pb_build_turns.specs.Executor.{moment}
use Rattle.pb_build.proofs.Staying.{built_kept, built_landed}
use Rattle.pb_build.proofs.builder.build_plan_turns.Goals as goal

pub returns-clause-on : goal.returns-clause-on
returns-clause-on g c = record {
  inner = c.work-inner.result;
  heard = (g.O.Out.heard c.work-inner.new.out);
  works = c.work-inner.ensures.on;
  closes = c.close.ensures;
}

pub returns-clause-kept : goal.returns-clause-kept
returns-clause-kept g c told =
    built_kept g.P.Place.is_modelled g.P.Place.child g.T.Turn.turns c.args.options.now c.args.turn.now c.work-inner.new.turn c.args.plan c.close.result
    (moment (g.P.Place.at c.args.place.now) (g.O.Out.heard c.args.out.now))
    (moment (g.P.Place.at c.work-inner.new.place) (g.O.Out.heard c.close.new.out)) told (returns-clause-on g c)

pub returns-clause-landed : goal.returns-clause-landed
returns-clause-landed g c =
    built_landed g.P.Place.is_modelled g.P.Place.child g.T.Turn.turns c.args.options.now c.args.turn.now c.work-inner.new.turn c.args.plan c.close.result
    (moment (g.P.Place.at c.args.place.now) (g.O.Out.heard c.args.out.now))
    (moment (g.P.Place.at c.work-inner.new.place) (g.O.Out.heard c.close.new.out)) c.requires.none (returns-clause-on g c)

pub returns-clause-builds : goal.returns-clause-builds
returns-clause-builds g c = λ from planned. record {
  inner = c.work-inner.result;
  heard = (g.O.Out.heard c.work-inner.new.out);
  works = c.work-inner.ensures.works from planned;
  closes = c.close.ensures;
}
