use Rattle.std.proofs.Common.{◌≡◌, ◌==◌, ◌∙◌, inr, length, not, Result, false, refl, sym, ap, subst}
use Rattle.pb_build_result.specs.Said.{said_by_bad}
use Rattle.pb_build_result.specs.declared.fault.BuildFault.{BuildFault}
use Rattle.pb_build_result.specs.declared.summary.Summary.{Summary}
use Rattle.pb_tool_program.specs.Building.{TellsSaid, said_lost}
use Rattle.pb_tool_program.proofs.Lines.{said_some, tells_by, tells_some}
use Rattle.pb_place_types.specs.Sinks.{SinkState}
use Rattle.pb_tool_program.proofs.building.repeat_to.Goals as goal

pub returns-in-Err-summary_text : goal.returns-in-Err-summary_text
returns-in-Err-summary_text g c =
    let old : SinkState = (g.E.Out.heard c.args.err.now) in
    let new : SinkState = (g.E.Out.heard c.write_all-in-Err-summary_text.new.out) in
    subst (λ (answer : Result Summary BuildFault). TellsSaid answer old new) (sym c.in-Ok.is)
    (tells_some said_lost (said_by_bad c.in-Ok.summary.bad c.in-Ok.summary.said) old new
    (said_some c.in-Ok.summary.bad c.in-Ok.summary.said (c.is_none.ensures ∙ ap not c.if-is_none.false) (subst (λ bytes. length bytes == 0 ≡ false) c.as_slice.ensures (sym c.is_empty.ensures ∙ c.if-is_empty.false)))
    (inr (tells_by c.write_all-in-Err-summary_text.result said_lost said_lost old new refl c.write_all-in-Err-summary_text.ensures.all c.write_all-in-Err-summary_text.ensures.whole c.write_all-in-Err-summary_text.ensures.part c.write_all-in-Err-summary_text.ensures.fault)))
