use Rattle.std.proofs.Common.{rules, arith, refl, true}
use Rattle.std.proofs.lemmas.Grind.{common_steps}
use Rattle.pb_place_types.specs.World.{World}
use Rattle.pb_record.specs.declared.record.InputName.{InputName}
use Rattle.pb_store.specs.Looking.{name_looked}
use Rattle.pb_store.proofs.Looking.{looks_told, row_on, row_refused, row_stops}
use Rattle.pb_store.proofs.inputs.present.Goals as goal

pub returns-in_err-input-clause-looks : goal.returns-in_err-input-clause-looks
returns-in_err-input-clause-looks g c is_modelled = looks_told c.from_residual.result c.in_err-input.field-0.0 _ _ _ (search rules)
    (row_stops (λ (w : World) (name : InputName). true) (name_looked c.args.target.now) (g.P.Place.at c.args.place.now).world (g.P.Place.at c.loop-name.place).world c.args.names.now c.loop-name.name-index c.name-item.result c.loop-name-test.true c.name-item.is (c.loop-name.invariant.quiet.world) _ _ _ _ _
    (c.loop-name.invariant.looks is_modelled) (c.in_err-input.ensures.looks is_modelled))

pub returns-in-Err-clause-looks : goal.returns-in-Err-clause-looks
returns-in-Err-clause-looks g c is_modelled =
    row_refused (λ (w : World) (name : InputName). true) (name_looked c.args.target.now) (g.P.Place.at c.args.place.now).world (g.P.Place.at c.loop-name.place).world c.args.names.now c.loop-name.name-index c.name-item.result c.loop-name-test.true c.name-item.is (c.loop-name.invariant.quiet.world) _ _ _ _
    (c.loop-name.invariant.looks is_modelled) (c.in_ok-input.ensures.looks is_modelled)

pub loop-name-preserved : goal.loop-name-preserved
loop-name-preserved g c = record {
  quiet = search rules;
  inputs = first_of (search rules, grind (arith, common_steps));
  looks = λ is_modelled. row_on (λ (w : World) (name : InputName). true) (name_looked c.args.target.now) (g.P.Place.at c.args.place.now).world (g.P.Place.at c.loop-name.place).world c.args.names.now c.loop-name.name-index c.name-item.result c.loop-name-test.true c.name-item.is (c.loop-name.invariant.quiet.world) _ _ _ _
      (c.loop-name.invariant.looks is_modelled) (c.in_ok-input.ensures.looks is_modelled) refl;
}
