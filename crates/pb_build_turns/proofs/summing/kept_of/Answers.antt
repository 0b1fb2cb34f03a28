use Rattle.std.proofs.Common.{◌≡◌, ◌∙◌, ◌++◌, ◌<◌, ◌+◌, suc, sym, ap, refl, arith, length, take}
use Rattle.std.proofs.lemmas.Option.{slice_get_read}
use Rattle.pb_build_turns.specs.Rows.{kept_key, kept_of}
use Rattle.pb_build_turns.proofs.Noting.{kept_more}
use Rattle.pb_unit.specs.declared.plan.Planned.{Planned}
use Rattle.pb_build_turns.proofs.summing.kept_of.Goals as goal

pub loop-index-preserved : goal.loop-index-preserved
loop-index-preserved c =
    let within : c.loop-index.index < length c.args.units.now = omega (arith, c.loop-index-test.true) in
    let next : c.loop-index.index + 1 ≡ suc c.loop-index.index = omega arith in
    c.in_ok-note_kept.ensures ∙ ap (λ (u : Planned). c.loop-index.kept ++ kept_key u.key c.index-reasons-index.result) (sym c.index-units-index.is)
    ∙ ap (λ l. l ++ kept_key c.index-units-index.result.key c.index-reasons-index.result) c.loop-index.invariant
    ∙ sym (kept_more c.args.units.now c.args.reasons.now c.loop-index.index c.index-units-index.result c.index-reasons-index.result
    (slice_get_read c.args.units.now (length c.args.units.now) c.loop-index.index c.index-units-index.result refl within c.index-units-index.is)
    (slice_get_read c.args.reasons.now (length c.args.units.now) c.loop-index.index c.index-reasons-index.result c.requires.long within c.index-reasons-index.is))
    ∙ sym (ap (λ n. kept_of (take n c.args.units.now) (take n c.args.reasons.now)) next)
