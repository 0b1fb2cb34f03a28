use Rattle.std.proofs.Common.{Bool, inl, inr, subst}
use Rattle.pb_tool_program.specs.Session.{SessionWritten}
use Rattle.pb_tool_program.proofs.session.run_session.Goals as goal

pub returns-in-Ok-true-clause-written : goal.returns-in-Ok-true-clause-written
returns-in-Ok-true-clause-written g c zero =
    let old = c.args.out.now in
    let new = c.carry_out.new.out in
    subst (λ (whole : Bool). SessionWritten whole c.args.bytes.now (g.O.Out.heard old) (g.O.Out.heard new)) c.in-Ok-true.field-0-test
    c.in-Ok-true.ensures.written

pub returns-in-Ok-false-clause-cut : goal.returns-in-Ok-false-clause-cut
returns-in-Ok-false-clause-cut g c one =
    let old = c.args.out.now in
    let new = c.carry_out.new.out in
    inr
    (subst (λ (whole : Bool). SessionWritten whole c.args.bytes.now (g.O.Out.heard old) (g.O.Out.heard new)) c.in-Ok-false.field-0-test
    c.in-Ok-false.ensures.written)

pub returns-in-Err-clause-cut : goal.returns-in-Err-clause-cut
returns-in-Err-clause-cut g c one = inl c.in-Err.ensures.stopped
