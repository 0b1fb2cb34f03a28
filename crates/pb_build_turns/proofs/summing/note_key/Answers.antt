use Rattle.std.proofs.Common.{◌∙◌, ◌++◌, ◌∷◌, [], sym, ap, refl, append-nil, length}
use Rattle.std.proofs.lemmas.Option.{slice_get_past, slice_get_read}
use Rattle.pb_run.specs.UnitSteps.{key_in}
use Rattle.pb_unit.specs.declared.plan.Planned.{Planned}
use Rattle.pb_build_turns.proofs.summing.note_key.Goals as goal

pub returns-then-index-units : goal.returns-then-index-units
returns-then-index-units c = sym (ap (λ o. c.args.keys.now ++ key_in o) (slice_get_past c.args.units.now c.args.index c.if-index-units.true) ∙ append-nil c.args.keys.now)

pub returns : goal.returns
returns c =
    c.in_ok-push.ensures.ok ∙ ap (λ k. c.args.keys.now ++ k ∷ []) (c.in_ok-copy.ensures ∙ ap (λ (u : Planned). u.key) (sym c.index-units-index.is))
    ∙ sym (ap (λ o. c.args.keys.now ++ key_in o) (slice_get_read c.args.units.now (length c.args.units.now) c.args.index c.index-units-index.result refl c.if-index-units.false c.index-units-index.is))
