use Rattle.std.proofs.Common.{◌∙◌, ◌++◌, sym, ap, refl, append-nil, length}
use Rattle.std.proofs.lemmas.Option.{slice_get_past, slice_get_read}
use Rattle.pb_build_turns.specs.Rows.{difference_in}
use Rattle.pb_build_turns.proofs.summing.note_difference.Goals as goal

pub returns-then-index-reasons : goal.returns-then-index-reasons
returns-then-index-reasons c = sym (ap (λ o. c.args.found.now ++ difference_in o) (slice_get_past c.args.reasons.now c.args.index c.if-index-reasons.true) ∙ append-nil c.args.found.now)

pub returns : goal.returns
returns c =
    c.in_ok-note_reason.ensures
    ∙ sym (ap (λ o. c.args.found.now ++ difference_in o) (slice_get_read c.args.reasons.now (length c.args.reasons.now) c.args.index c.index-reasons-index.result refl c.if-index-reasons.false c.index-reasons-index.is))
