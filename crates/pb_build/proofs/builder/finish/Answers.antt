use Rattle.pb_message.specs.Message.{finish_line}
use Rattle.pb_place_types.specs.Sinks.{SinkState}
use Rattle.pb_build.proofs.Closing.{finishes_all}
use Rattle.pb_build.proofs.builder.finish.Goals as goal

pub returns-in-Ok : goal.returns-in-Ok
returns-in-Ok g c =
    let old : SinkState = (g.O.Out.heard c.args.out.now) in
    let new : SinkState = (g.O.Out.heard c.write_lines.new.out) in
    finishes_all (finish_line c.args.success) c.finish_line.result.now c.args.inner old new c.finish_line.ensures c.in-Ok.ensures.all c.in-Ok.ensures.whole
