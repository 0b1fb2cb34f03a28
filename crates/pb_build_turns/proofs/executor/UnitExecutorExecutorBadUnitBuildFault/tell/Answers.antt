use Rattle.std.proofs.Common.{◌∷◌, inl, refl, subst}
use Rattle.std.specs.Io.KnownBytes.{Appends}
use Rattle.pb_build_result.specs.declared.fault.BuildFault.TheVariants.{Sink}
use Rattle.pb_run_flight.specs.Events.{Gave}
use Rattle.pb_place_types.specs.Sinks.{TakesPart}
use Rattle.pb_build_turns.proofs.Changing.{beside_none}
use Rattle.pb_build_turns.proofs.Counting.{goes_told, stops_sink}
use Rattle.pb_build_turns.proofs.Staying.{none_began}
use Rattle.pb_build_turns.proofs.executor.UnitExecutorExecutorBadUnitBuildFault.tell.Goals as goal

pub returns-then-write_all-clause-story : goal.returns-then-write_all-clause-story
returns-then-write_all-clause-story g c = λ first first_place first_out es given unit answer s lawful was lines. record {
  setup = s.setup;
  project = s.project;
  goes = goes_told _ _ _ _ _ _ _ _ s.goes refl refl (subst (Appends (g.O.Out.heard c.args.out.now).taken (g.O.Out.heard c.write_all.new.out).taken) lines (c.write_all.ensures.all c.if-write_all.true)) (c.write_all.ensures.whole c.if-write_all.true);
  numbers = s.numbers;
  taken = s.taken;
  changes = s.changes;
  unrecorded = s.unrecorded;
  childless = s.childless;
  again = s.again;
  anew = s.anew;
  left = s.left;
  began = s.began;
  happened = s.happened;
  quiet = s.quiet;
  calls = s.calls;
  calls_on_any = s.calls_on_any;
  unnoted = s.unnoted;
  noted = s.noted;
}

pub returns-else-write_all-clause-story : goal.returns-else-write_all-clause-story
returns-else-write_all-clause-story g c = λ first first_place first_out es given unit answer s lawful was lines.
    record {
      setup = s.setup;
      project = s.project;
      stops = stops_sink _ _ _ _ _ _ _ _ s.goes refl refl g.P.Place.is_modelled es unit answer refl was (subst (λ l. TakesPart l (g.O.Out.heard c.args.out.now).taken (g.O.Out.heard c.write_all.new.out).taken) lines (c.write_all.ensures.part c.if-write_all.false))
          (c.write_all.ensures.fault c.if-write_all.false);
      spent = tt;
      before = Gave unit answer ∷ es;
      came = refl;
      names = tt;
      most = s.goes.most;
      changes = s.changes;
      beside = λ t. beside_none _ _ _ (Gave unit answer ∷ es) _ _ (s.changes t) _ refl;
      unrecorded = s.unrecorded;
      childless = s.childless;
      again = λ t. (s.again t).gave;
      anew = λ t. (s.anew t).gave;
      left = λ t. (s.left t).gave;
      began = s.began;
      started = λ t. none_began _ _ _ Sink (Gave unit answer ∷ es) _ _;
      happened = s.happened;
      caused = λ t. tt;
      calls = λ t f sources keeps. ((g.P.Place.at c.args.place.now).world, (g.P.Place.at c.args.place.now).counts, s.calls t f sources keeps, inl (inl refl, refl, refl));
      calls_on_any = λ t. ((g.P.Place.at c.args.place.now).world, (g.P.Place.at c.args.place.now).counts, s.calls_on_any t, inl (inl refl, refl, refl));
    }
