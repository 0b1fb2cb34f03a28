use Rattle.std.proofs.Common.{inr, refl}
use Rattle.pb_tool_program.specs.Building.{detail_lost}
use Rattle.pb_tool_sentences.specs.Details.{detail}
use Rattle.pb_tool_program.proofs.Lines.{tells_by, tells_some}
use Rattle.pb_place_types.specs.Sinks.{SinkState}
use Rattle.pb_tool_program.proofs.building.tell_detail.Goals as goal

pub returns-in-Err : goal.returns-in-Err
returns-in-Err g c =
    let old : SinkState = (g.E.Out.heard c.args.err.now) in
    let new : SinkState = (g.E.Out.heard c.write_all-in-Err.new.out) in
    tells_some detail_lost (detail c.args.rendered c.args.answer.now) old new c.in-Err.ensures.some
    (inr (tells_by c.write_all-in-Err.result detail_lost detail_lost old new refl c.write_all-in-Err.ensures.all c.write_all-in-Err.ensures.whole c.write_all-in-Err.ensures.part c.write_all-in-Err.ensures.fault))
