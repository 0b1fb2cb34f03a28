use Rattle.std.proofs.Common.{◌≡◌, ◌==◌, ◌∙◌, inl, inr, length, false, true, refl, sym, subst}
use Rattle.pb_tool_notes_pages.specs.Notes.{lines_of}
use Rattle.pb_tool_program.specs.Building.{look_lost}
use Rattle.pb_tool_program.specs.Writing.{TellsOr}
use Rattle.pb_tool_program.proofs.Lines.{lines_none, lines_some, tells_by, tells_some}
use Rattle.pb_place_types.specs.Sinks.{SinkState}
use Rattle.pb_tool_program.proofs.building.tell_notes.Goals as goal

pub returns-then-is_empty : goal.returns-then-is_empty
returns-then-is_empty g c =
    let old : SinkState = (g.E.Out.heard c.args.err.now) in
    subst (λ lines. TellsOr look_lost lines old old) (sym (lines_none c.args.notes.now (subst (λ ns. length ns == 0 ≡ true) c.texts.ensures.texts (sym c.is_empty.ensures ∙ c.if-is_empty.true)))) refl

pub returns-in-Ok : goal.returns-in-Ok
returns-in-Ok g c =
    let old : SinkState = (g.E.Out.heard c.args.err.now) in
    let new : SinkState = (g.E.Out.heard c.write_all.new.out) in
    tells_some look_lost (lines_of c.args.notes.now) old new (lines_some c.args.notes.now (subst (λ ns. length ns == 0 ≡ false) c.texts.ensures.texts (sym c.is_empty.ensures ∙ c.if-is_empty.false)))
    (inl (tells_by c.write_all.result (lines_of c.args.notes.now) c.as_bytes.result.now old new (c.as_bytes.ensures.value ∙ c.in-Ok.ensures) c.write_all.ensures.all c.write_all.ensures.whole c.write_all.ensures.part c.write_all.ensures.fault))

pub returns-in-Err : goal.returns-in-Err
returns-in-Err g c =
    let old : SinkState = (g.E.Out.heard c.args.err.now) in
    let new : SinkState = (g.E.Out.heard c.write_all-in-Err.new.out) in
    tells_some look_lost (lines_of c.args.notes.now) old new (lines_some c.args.notes.now (subst (λ ns. length ns == 0 ≡ false) c.texts.ensures.texts (sym c.is_empty.ensures ∙ c.if-is_empty.false)))
    (inr (tells_by c.write_all-in-Err.result look_lost look_lost old new refl c.write_all-in-Err.ensures.all c.write_all-in-Err.ensures.whole c.write_all-in-Err.ensures.part c.write_all-in-Err.ensures.fault))
