use Rattle.std.proofs.Common.{◌∙◌, inl}
use Rattle.pb_place_types.specs.Sinks.{SinkState}
use Rattle.pb_tool_program.specs.Cleaning.{nothing_told}
use Rattle.pb_tool_program.proofs.Lines.{tells_by}
use Rattle.pb_tool_program.proofs.cleaning.tell_nothing.Goals as goal

pub returns-in-Ok : goal.returns-in-Ok
returns-in-Ok g c =
    let old : SinkState = (g.E.Out.heard c.args.err.now) in
    let new : SinkState = (g.E.Out.heard c.write_all.new.out) in
    inl (tells_by c.write_all.result (nothing_told c.args.wanted c.args.folder.now) c.as_bytes.result.now old new (c.as_bytes.ensures.value ∙ c.in-Ok.ensures)
    c.write_all.ensures.all c.write_all.ensures.whole c.write_all.ensures.part c.write_all.ensures.fault)
