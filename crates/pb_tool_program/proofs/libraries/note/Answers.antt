use Rattle.std.proofs.Common.{◌∙◌, inl, inr, Result, refl, sym, subst}
use Rattle.pb_build_result.specs.declared.fault.BuildFault.{BuildFault}
use Rattle.pb_build.specs.declared.builder.BuildPlan.{BuildPlan}
use Rattle.pb_tool_program.specs.Libraries.{NotesOf, notes_lost}
use Rattle.pb_tool_sentences.specs.Libraries.{notes_of}
use Rattle.pb_tool_program.proofs.Lines.{notes_some, tells_by, tells_some}
use Rattle.pb_place_types.specs.Sinks.{SinkState}
use Rattle.pb_tool_program.proofs.libraries.note.Goals as goal

pub returns-in-Ok-plan_notes : goal.returns-in-Ok-plan_notes
returns-in-Ok-plan_notes g c =
    let old : SinkState = (g.E.Out.heard c.args.err.now) in
    let new : SinkState = (g.E.Out.heard c.write_all.new.out) in
    let packages = c.in-Ok.plan.project.workspace.packages in
    let names = c.in-Ok.plan.project.plan.without_library in
    subst (λ (plan : Result BuildPlan BuildFault). NotesOf plan old new) (sym c.in-Ok.is)
    (tells_some notes_lost (notes_of packages names) old new (notes_some packages names (sym c.has_libraries.ensures ∙ c.if-has_libraries.false))
    (inl (tells_by c.write_all.result (notes_of packages names) c.as_bytes.result.now old new (c.as_bytes.ensures.value ∙ c.in-Ok-plan_notes.ensures) c.write_all.ensures.all c.write_all.ensures.whole c.write_all.ensures.part c.write_all.ensures.fault)))

pub returns-in-Err-plan_notes : goal.returns-in-Err-plan_notes
returns-in-Err-plan_notes g c =
    let old : SinkState = (g.E.Out.heard c.args.err.now) in
    let new : SinkState = (g.E.Out.heard c.write_all-in-Err-plan_notes.new.out) in
    let packages = c.in-Ok.plan.project.workspace.packages in
    let names = c.in-Ok.plan.project.plan.without_library in
    subst (λ (plan : Result BuildPlan BuildFault). NotesOf plan old new) (sym c.in-Ok.is)
    (tells_some notes_lost (notes_of packages names) old new (notes_some packages names (sym c.has_libraries.ensures ∙ c.if-has_libraries.false))
    (inr (tells_by c.write_all-in-Err-plan_notes.result notes_lost notes_lost old new refl c.write_all-in-Err-plan_notes.ensures.all c.write_all-in-Err-plan_notes.ensures.whole c.write_all-in-Err-plan_notes.ensures.part c.write_all-in-Err-plan_notes.ensures.fault)))
