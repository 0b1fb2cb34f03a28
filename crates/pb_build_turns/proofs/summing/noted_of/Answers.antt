use Rattle.std.proofs.Common.{◌≡◌, ◌∙◌, ◌++◌, ◌<◌, ◌+◌, suc, sym, ap, refl, arith, length, take}
use Rattle.std.proofs.lemmas.Option.{slice_get_read}
use Rattle.pb_build_turns.specs.Rows.{keyed}
use Rattle.pb_build_turns.specs.Rows.{noted_of}
use Rattle.pb_build_turns.proofs.Noting.{noted_more}
use Rattle.pb_unit.specs.declared.plan.Planned.{Planned}
use Rattle.pb_build_turns.proofs.summing.noted_of.Goals as goal

pub loop-index-preserved : goal.loop-index-preserved
loop-index-preserved c =
    let within : c.loop-index.index < length c.args.units.now = omega (arith, c.loop-index-test.true, c.requires.within) in
    let next : c.loop-index.index + 1 ≡ suc c.loop-index.index = omega arith in
    c.in_ok-note_directives.ensures ∙ ap (λ (u : Planned). c.loop-index.noted ++ keyed u.key c.index-done-index.result) (sym c.index-units-index.is)
    ∙ ap (λ l. l ++ keyed c.index-units-index.result.key c.index-done-index.result) c.loop-index.invariant
    ∙ sym (noted_more c.args.units.now c.args.done.now c.loop-index.index c.index-units-index.result c.index-done-index.result
    (slice_get_read c.args.units.now (length c.args.units.now) c.loop-index.index c.index-units-index.result refl within c.index-units-index.is)
    (slice_get_read c.args.done.now (length c.args.units.now) c.loop-index.index c.index-done-index.result c.requires.long within c.index-done-index.is))
    ∙ sym (ap (λ n. noted_of (take n c.args.units.now) (take n c.args.done.now)) next)
