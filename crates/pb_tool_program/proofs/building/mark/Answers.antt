use Rattle.std.proofs.Common.{◌∙◌, inl, inr, refl, sym}
use Rattle.pb_tool_program.specs.Building.{moved_lost, moved_notes}
use Rattle.pb_tool_program.proofs.Lines.{moved_some, tells_by, tells_some}
use Rattle.pb_place_types.specs.Sinks.{SinkState}
use Rattle.pb_tool_program.proofs.building.mark.Goals as goal

pub returns-in-Ok : goal.returns-in-Ok
returns-in-Ok g c =
    let old : SinkState = (g.E.Out.heard c.args.err.now) in
    let new : SinkState = (g.E.Out.heard c.write_all.new.out) in
    tells_some moved_lost (moved_notes c.args.moved.now) old new (moved_some c.args.moved.now (sym c.is_empty.ensures ∙ c.if-is_empty.false))
    (inl (tells_by c.write_all.result (moved_notes c.args.moved.now) c.as_bytes.result.now old new (c.as_bytes.ensures.value ∙ c.in-Ok.ensures) c.write_all.ensures.all c.write_all.ensures.whole c.write_all.ensures.part c.write_all.ensures.fault))

pub returns-in-Err : goal.returns-in-Err
returns-in-Err g c =
    let old : SinkState = (g.E.Out.heard c.args.err.now) in
    let new : SinkState = (g.E.Out.heard c.write_all-in-Err.new.out) in
    tells_some moved_lost (moved_notes c.args.moved.now) old new (moved_some c.args.moved.now (sym c.is_empty.ensures ∙ c.if-is_empty.false))
    (inr (tells_by c.write_all-in-Err.result moved_lost moved_lost old new refl c.write_all-in-Err.ensures.all c.write_all-in-Err.ensures.whole c.write_all-in-Err.ensures.part c.write_all-in-Err.ensures.fault))
