use Rattle.std.proofs.Common.{◌∙◌, refl, inl, inr}
use Rattle.pb_build_turns.specs.Executor.{moment}
use Rattle.pb_build.specs.AnyPlan as plan
use Rattle.pb_build.proofs.Preparing.{most_from, unheard}
use Rattle.pb_build.proofs.builder.work.Goals as goal

pub returns-in-Err-clause-works : goal.returns-in-Err-clause-works
returns-in-Err-clause-works g c = λ from planned. inl record {
  none_began = record {
    fault = c.in-Err.fault;
    answer = refl;
    why = c.in-Err.ensures.fails from (unheard g.P.Place.is_modelled c.args.options.now c.args.plan from _ planned);
    stays = λ told. c.in-Err.ensures.same ∙ planned.stays told;
    most = most_from _ _ _ planned.most c.in-Err.ensures.most;
    heard = planned.heard;
    landed = c.in-Err.ensures.landed;
  };
  unasked = refl;
  calls = λ told. c.in-Err.ensures.stops told from (unheard g.P.Place.is_modelled c.args.options.now c.args.plan from _ planned);
}

pub returns-clause-works : goal.returns-clause-works
returns-clause-works g c = λ from planned. inr record {
  prepared = c.in-Ok.prepared;
  mid = moment (g.P.Place.at c.prepare.new.place) (g.O.Out.heard c.args.out.now);
  heard = planned.heard;
  prepares = c.in-Ok.ensures.prepares from (unheard g.P.Place.is_modelled c.args.options.now c.args.plan from _ planned);
  ends = c.run_turns.ensures;
}

pub returns-in-Err-clause-on : goal.returns-in-Err-clause-on
returns-in-Err-clause-on g c =
    plan.stopped c.in-Err.fault
    (moment (g.P.Place.at c.args.place.now) (g.O.Out.heard c.args.out.now))
    (moment (g.P.Place.at c.prepare.new.place) (g.O.Out.heard c.args.out.now))
    (c.in-Err.ensures.readies (g.O.Out.heard c.args.out.now))

pub returns-clause-on : goal.returns-clause-on
returns-clause-on g c =
    plan.worked c.in-Ok.prepared c.run_turns.new.turn c.run_turns.result
    (moment (g.P.Place.at c.args.place.now) (g.O.Out.heard c.args.out.now))
    (moment (g.P.Place.at c.prepare.new.place) (g.O.Out.heard c.args.out.now))
    (moment (g.P.Place.at c.run_turns.new.place) (g.O.Out.heard c.run_turns.new.out))
    (c.in-Ok.ensures.readies (g.O.Out.heard c.args.out.now)) c.run_turns.ensures
