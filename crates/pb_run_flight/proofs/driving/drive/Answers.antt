use Rattle.std.proofs.Common.{◌∙◌, [], refl, sym, ap, subst}
use Rattle.pb_run_flight.specs.Driving.{IsFlown}
use Rattle.pb_run_flight.specs.Laws.{IsInPlanOrder}
use Rattle.pb_run_flight.specs.Table.{Table}
use Rattle.pb_run_flight.proofs.Driven.{flown_fresh}
use Rattle.pb_run_flight.proofs.driving.drive.Goals as goal

pub loop-alloc-init : goal.loop-alloc-init
loop-alloc-init g c =
    let flown = flown_fresh g.T.Turn.turns (g.C.Executor.needs c.args.crew.now) c.args.turn.now c.args.flight.now (g.C.Executor.flying c.args.crew.now) c.requires.fresh c.requires.none in
    record {
      holds = c.requires.holds;
      able = c.requires.able;
      needs = refl;
      flown = ([], flown);
      goes = λ first first_place first_out story. ([], flown, subst (λ n. g.C.Executor.story first first_place first_out c.args.crew.now c.args.place.now c.args.out.now [] n) (ap (λ (t : Table g.row.F.Denot). t.given) (sym c.requires.fresh)) story);
    }

pub step-requires-clause-order : goal.step-requires-clause-order
step-requires-clause-order g c = subst IsInPlanOrder (sym c.loop-alloc.invariant.needs) c.requires.order

pub loop-alloc-preserved : goal.loop-alloc-preserved
loop-alloc-preserved g c =
    let same = c.loop-alloc.invariant.needs in
    record {
      holds = c.step.ensures.holds;
      able = c.in-Ok.ensures.able;
      needs = c.step.ensures.needs ∙ same;
      flown =
          let (es, flown) = c.loop-alloc.invariant.flown in
          let (more, flies) = c.in-Ok.ensures.flown c.args.turn.now es (subst (λ ns. IsFlown g.T.Turn.turns ns c.args.turn.now es c.loop-alloc.turn c.loop-alloc.flight (g.C.Executor.flying c.loop-alloc.crew)) (sym same) flown) in
          (more, subst (λ ns. IsFlown g.T.Turn.turns ns c.args.turn.now more c.step.new.turn c.step.new.flight (g.C.Executor.flying c.step.new.crew)) same flies);
      goes = λ first first_place first_out story.
          let (es, flown, told) = c.loop-alloc.invariant.goes first first_place first_out story in
          let (more, flies, tale) = c.in-Ok.ensures.goes c.args.turn.now first first_place first_out es (subst (λ ns. IsFlown g.T.Turn.turns ns c.args.turn.now es c.loop-alloc.turn c.loop-alloc.flight (g.C.Executor.flying c.loop-alloc.crew)) (sym same) flown) told in
          (more, subst (λ ns. IsFlown g.T.Turn.turns ns c.args.turn.now more c.step.new.turn c.step.new.flight (g.C.Executor.flying c.step.new.crew)) same flies, tale);
    }
