use Rattle.std.proofs.Common.{◌∙◌, ap, refl}
use Rattle.pb_place_types.specs.Counts.{Counts}
use Rattle.pb_run.specs.UnitSteps.{child_in, child_of}
use Rattle.pb_run.proofs.Settling.{dropped_keeps, dropped_others, finish_flying}
use Rattle.pb_run.proofs.Writes.{dropped_in, stays_apart}
use Rattle.pb_run.proofs.unit_steps.drop_unit.Goals as goal

pub returns-clause-build : goal.returns-clause-build
returns-clause-build g c b index unit next order there told = record {
  keeps = λ states done can. dropped_keeps b order index unit there (g.P.Place.at c.args.place.now).world (g.P.Place.at c.finish.new.self).world next _ _ c.args.begun.now _ c.in-Child.is states done can c.finish.ensures.finishes.only;
  others = λ states done other its can apart. dropped_others b order index unit there (g.P.Place.at c.args.place.now).world (g.P.Place.at c.finish.new.self).world next _ _ c.args.begun.now _ c.in-Child.is states done can
      c.finish.ensures.finishes.only other its _ _ (g.P.Place.at c.args.place.now).counts (g.P.Place.at c.finish.new.self).counts refl c.finish.ensures.finishes.counts refl c.finish.ensures.finishes.still apart;
}

pub returns-clause-only : goal.returns-clause-only
returns-clause-only g c out writes =
    dropped_in (child_of c.args.begun.now) c.in-Child.launched (ap child_in c.in-Child.is) (g.P.Place.at c.args.place.now).counts.starts.flying out (g.P.Place.at c.args.place.now).world (g.P.Place.at c.finish.new.self).world c.requires.flies writes c.finish.ensures.finishes.only

pub returns-clause-stay : goal.returns-clause-stay
returns-clause-stay g c ticket its apart there =
    stays_apart (child_of c.args.begun.now) c.in-Child.launched (ap child_in c.in-Child.is) (g.P.Place.at c.args.place.now).counts.starts.flying (g.P.Place.at c.finish.new.self).counts.starts.flying ticket its
    (ap (λ (s : Counts). s.starts.flying) c.finish.ensures.finishes.counts ∙ finish_flying c.in-Child.launched.ticket _ (g.P.Place.at c.args.place.now).counts) apart there
