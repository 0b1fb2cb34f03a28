use Rattle.std.proofs.Common.{rules}
use Rattle.pb_place_types.specs.World.{World}
use Rattle.pb_store_soundness.specs.Inputs.{name_of}
use Rattle.pb_store.specs.Differences.{IsPresent}
use Rattle.pb_store.proofs.Firsts.{one_fails, one_holds}
use Rattle.pb_record.specs.declared.record.Input.{Input}
use Rattle.pb_store.specs.Looking.{is_present, name_looked}
use Rattle.pb_store.proofs.Alike.{differs_here, present_decides, same_here}
use Rattle.pb_store.proofs.Looking.{row_refused, row_stops}
use Rattle.pb_store.proofs.differing.first_input.Goals as goal

pub returns-in-Ok-clause-ok : goal.returns-in-Ok-clause-ok
returns-in-Ok-clause-ok g c is_modelled =
    one_fails (λ (w : World). IsPresent c.args.target.now w) name_of (g.P.Place.at c.args.place.now).world (g.P.Place.at c.loop-input.place).world c.args.inputs.now c.loop-input.input-index c.input-item.result c.loop-input-test.true c.input-item.is (c.loop-input.invariant.quiet.world) _ c.in-Ok.name
    (c.loop-input.invariant.all is_modelled) (c.in-Ok-false.ensures.ok is_modelled) c.in-Ok-false.field-0-test (search rules)

pub returns-in-Ok-clause-looks : goal.returns-in-Ok-clause-looks
returns-in-Ok-clause-looks g c is_modelled =
    differs_here (λ (w : World). IsPresent c.args.target.now w) (λ (w : World). is_present c.args.target.now w) (λ (w : World) (i : Input). name_looked c.args.target.now w (name_of i)) (λ w i. present_decides c.args.target.now w i)
    (g.P.Place.at c.args.place.now).world (g.P.Place.at c.loop-input.place).world c.args.inputs.now c.loop-input.input-index c.input-item.result c.loop-input-test.true c.input-item.is (c.loop-input.invariant.quiet.world) _ _ _ _ _
    (c.loop-input.invariant.looks is_modelled) (c.in-Ok-false.ensures.looks is_modelled) (c.in-Ok-false.ensures.ok is_modelled) c.in-Ok-false.field-0-test

pub returns-in-Err-name_of-clause-looks : goal.returns-in-Err-name_of-clause-looks
returns-in-Err-name_of-clause-looks g c is_modelled =
    row_refused (λ (w : World). is_present c.args.target.now w) (λ (w : World) (i : Input). name_looked c.args.target.now w (name_of i))
    (g.P.Place.at c.args.place.now).world (g.P.Place.at c.loop-input.place).world c.args.inputs.now c.loop-input.input-index c.input-item.result c.loop-input-test.true c.input-item.is (c.loop-input.invariant.quiet.world) _ _ _ _
    (c.loop-input.invariant.looks is_modelled) (c.in-Ok-false.ensures.looks is_modelled)

pub returns-in-Err-clause-looks : goal.returns-in-Err-clause-looks
returns-in-Err-clause-looks g c is_modelled =
    row_stops (λ (w : World). is_present c.args.target.now w) (λ (w : World) (i : Input). name_looked c.args.target.now w (name_of i))
    (g.P.Place.at c.args.place.now).world (g.P.Place.at c.loop-input.place).world c.args.inputs.now c.loop-input.input-index c.input-item.result c.loop-input-test.true c.input-item.is (c.loop-input.invariant.quiet.world) _ _ _ _ _
    (c.loop-input.invariant.looks is_modelled) (c.in-Err.ensures.looks is_modelled)

pub loop-input-preserved : goal.loop-input-preserved
loop-input-preserved g c = record {
  quiet = search rules;
  all = λ is_modelled. one_holds (λ (w : World). IsPresent c.args.target.now w) name_of (g.P.Place.at c.args.place.now).world (g.P.Place.at c.loop-input.place).world c.args.inputs.now c.loop-input.input-index c.input-item.result c.loop-input-test.true c.input-item.is (c.loop-input.invariant.quiet.world) _
      (c.loop-input.invariant.all is_modelled) (c.in-Ok-true.ensures.ok is_modelled) c.in-Ok-true.field-0-test;
  looks = λ is_modelled. same_here (λ (w : World). IsPresent c.args.target.now w) (λ (w : World). is_present c.args.target.now w) (λ (w : World) (i : Input). name_looked c.args.target.now w (name_of i)) (λ w i. present_decides c.args.target.now w i)
      (g.P.Place.at c.args.place.now).world (g.P.Place.at c.loop-input.place).world c.args.inputs.now c.loop-input.input-index c.input-item.result c.loop-input-test.true c.input-item.is (c.loop-input.invariant.quiet.world) _ _ _ _ _
      (c.loop-input.invariant.looks is_modelled) (c.in-Ok-true.ensures.looks is_modelled) (c.in-Ok-true.ensures.ok is_modelled) c.in-Ok-true.field-0-test;
}
