use Rattle.std.proofs.Common.{Ok, Err, rules}
use Rattle.pb_workspace.proofs.Walking.{walk_end, walk_led, walk_looks, walk_made, walk_stop}
use Rattle.pb_workspace.proofs.member_folders.led_to.Goals as goal

pub returns-in_err-led-clause-looks : goal.returns-in_err-led-clause-looks
returns-in_err-led-clause-looks g c told =
    let h = c.loop-part.invariant.looks told (Err c.in_err-led.field-0.0) (g.P.Place.at c.all_steps.new.place).counts
    (walk_stop c.args.target.now (g.P.Place.at c.args.place.now).world c.args.frame.now c.args.parts.now c.loop-part.part-index (g.P.Place.at c.loop-part.place).world c.part-item.result c.as_slice.result.now c.loop-part.led c.as_slice.ensures c.loop-part-test.true c.part-item.is
    c.in_err-led.field-0.0 _ _ c.in_err-led.ensures.outside c.in_err-led.ensures.looks) in
    search (rules, h)

pub loop-part-preserved : goal.loop-part-preserved
loop-part-preserved g c = record {
  led = λ told. walk_led c.args.target.now (g.P.Place.at c.args.place.now).world c.args.frame.now c.args.parts.now c.loop-part.part-index (g.P.Place.at c.loop-part.place).world c.part-item.result c.as_slice.result.now c.loop-part.led c.as_slice.ensures c.loop-part-test.true c.part-item.is
      _ _ c.loop-part.invariant.quiet.world (c.in_ok-led.ensures.ok told) (c.loop-part.invariant.led told);
  quiet = search rules;
  looks = λ told r new more. c.loop-part.invariant.looks told r new
      (walk_looks c.args.target.now (g.P.Place.at c.args.place.now).world c.args.frame.now c.args.parts.now c.loop-part.part-index (g.P.Place.at c.loop-part.place).world c.part-item.result c.as_slice.result.now c.loop-part.led c.as_slice.ensures c.loop-part-test.true c.part-item.is
      _ r _ _ new c.loop-part.invariant.quiet.world (c.in_ok-led.ensures.ok told) c.in_ok-led.ensures.looks more);
}

pub returns-clause-ok : goal.returns-clause-ok
returns-clause-ok g c told = walk_made c.args.target.now (g.P.Place.at c.args.place.now).world c.args.frame.now c.args.parts.now c.loop-part.part-index _ _ c.loop-part-test.false (c.loop-part.invariant.led told)

pub returns-clause-looks : goal.returns-clause-looks
returns-clause-looks g c told =
    c.loop-part.invariant.looks told (Ok c.loop-part.led) (g.P.Place.at c.loop-part.place).counts
    (walk_end c.args.target.now (g.P.Place.at c.args.place.now).world c.args.frame.now c.args.parts.now c.loop-part.part-index c.loop-part.led (g.P.Place.at c.loop-part.place).counts c.loop-part-test.false)
