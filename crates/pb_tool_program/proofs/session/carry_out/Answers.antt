use Rattle.std.proofs.Common.{ap, inl, refl}
use Rattle.pb_build.specs.Session.{point}
use Rattle.pb_place_types.proofs.Failing.{on_err}
use Rattle.pb_tool_program.proofs.Lines.{session_broken, session_untold, session_written}
use Rattle.pb_tool_program.proofs.session.carry_out.Goals as goal

pub returns-clause-written : goal.returns-clause-written
returns-clause-written g c =
    session_written c.in_ok-written.written c.args.bytes.now c.in_ok-steps.steps c.as_slice.result.now c.new-memory.result c.session.new.memory (g.O.Out.heard c.args.out.now) (g.O.Out.heard c.session.new.out) (g.O.Out.heard c.write_results.new.out)
    c.in_ok-answers.answers c.as_slice-2.result.now c.in_ok-steps.ensures c.as_slice.ensures c.new-memory.ensures c.in_ok-answers.ensures.taken c.as_slice-2.ensures c.in_ok-written.ensures.written

pub returns-in_err-answers-clause-stopped : goal.returns-in_err-answers-clause-stopped
returns-in_err-answers-clause-stopped g c =
    on_err c.from_residual-in_err-answers.result
    (session_broken c.args.bytes.now c.in_ok-steps.steps c.as_slice.result.now c.new-memory.result (g.O.Out.heard c.args.out.now)
    (point c.session.new.memory (g.O.Out.heard c.session.new.out) c.in_err-answers.ensures.broken.0)
    c.in_ok-steps.ensures c.as_slice.ensures c.new-memory.ensures c.in_err-answers.ensures.broken.1)

pub returns-in_err-written-clause-stopped : goal.returns-in_err-written-clause-stopped
returns-in_err-written-clause-stopped g c =
    on_err c.from_residual-in_err-written.result
    (session_untold c.args.bytes.now c.in_ok-steps.steps c.as_slice.result.now c.new-memory.result c.session.new.memory (g.O.Out.heard c.args.out.now) (g.O.Out.heard c.session.new.out) (g.O.Out.heard c.write_results.new.out)
    c.in_ok-answers.answers c.in_ok-steps.ensures c.as_slice.ensures c.new-memory.ensures c.in_ok-answers.ensures.taken
    (ap g.O.Out.heard c.in_err-written.ensures.memory))

pub returns-in_err-steps-clause-stopped : goal.returns-in_err-steps-clause-stopped
returns-in_err-steps-clause-stopped g c = on_err c.from_residual.result (inl refl)
