use Rattle.std.proofs.Common.{rules}
use Rattle.pb_build_turns.specs.Executor.{moment}
use Rattle.pb_run_flight.specs.Steps.{TurnsOfJobs}
use Rattle.pb_build.proofs.Headline.{headline}
use Rattle.pb_build.proofs.Lending.{built_lent}
use Rattle.pb_build.proofs.builder.build_with.Goals as goal

pub returns-clause-builds : goal.returns-clause-builds
returns-clause-builds g c =
    built_lent g.K.Pick.picks g.P.Place.is_modelled g.P.Place.child c.args.options.now _ c.build_turns.new.turn _ c.build_turns.result
    (moment (g.P.Place.at c.args.place.now) (g.O.Out.heard c.args.out.now))
    (moment (g.P.Place.at c.build_turns.new.place) (g.O.Out.heard c.build_turns.new.out)) c.build_turns.ensures.builds (search rules)

pub returns-clause-headline : goal.returns-clause-headline
returns-clause-headline g c =
    headline g.P.Place.is_modelled g.P.Place.child (TurnsOfJobs g.K.Pick.picks) c.args.options.now _ _ c.build_turns.result
    (moment (g.P.Place.at c.args.place.now) (g.O.Out.heard c.args.out.now))
    (moment (g.P.Place.at c.build_turns.new.place) (g.O.Out.heard c.build_turns.new.out)) (returns-clause-builds g c)
