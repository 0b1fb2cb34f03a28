use Rattle.std.proofs.Common.{sym, subst}
use Rattle.pb_build_session.specs.declared.pick.PickBy.{PickBy}
use Rattle.pb_build_turns.specs.Executor.{moment}
use Rattle.pb_build.specs.Headline.{Headline}
use Rattle.pb_build.specs.Session.{ByPicked}
use Rattle.pb_build.proofs.sessions.build_picked.Goals as goal

pub returns-in-Last-clause-headline : goal.returns-in-Last-clause-headline
returns-in-Last-clause-headline g c =
    let options = c.args.options.now in
    let old = moment (g.P.Place.at c.args.place.now) (g.O.Out.heard c.args.out.now) in
    let new = moment (g.P.Place.at c.build_with.new.place) (g.O.Out.heard c.build_with.new.out) in
    subst (λ (p : PickBy). Headline g.P.Place.is_modelled g.P.Place.child (ByPicked p options) options c.build_with.result old new) (sym c.in-Last.is) c.build_with.ensures.headline
