use Rattle.std.proofs.Common.{[], ap}
use Rattle.pb_build.specs.Session.{point}
use Rattle.pb_place_types.proofs.Failing.{on_err}
use Rattle.pb_build.proofs.StepsTaken.{none_taken, none_passed, step_taken, step_passed, step_lost, steps_taken}
use Rattle.pb_build.proofs.sessions.session.Goals as goal

pub loop-step-init : goal.loop-step-init
loop-step-init g c = record {
  reaches =
      none_taken g.C.Child.answers c.args.steps.now (point c.args.memory.now (g.O.Out.heard c.args.out.now) []) _
      (ap (point c.args.memory.now (g.O.Out.heard c.args.out.now)) c.new-answers.ensures);
  breaks =
      none_passed g.C.Child.answers c.args.steps.now (point c.args.memory.now (g.O.Out.heard c.args.out.now) []) _
      (ap (point c.args.memory.now (g.O.Out.heard c.args.out.now)) c.new-answers.ensures);
  none = c.requires.none;
}

pub loop-step-preserved : goal.loop-step-preserved
loop-step-preserved g c = record {
  reaches =
      step_taken g.C.Child.answers c.args.steps.now c.loop-step.step-index c.step-item.result (point c.args.memory.now (g.O.Out.heard c.args.out.now) [])
      (point c.loop-step.memory (g.O.Out.heard c.loop-step.out) c.loop-step.answers) (point c.take_step.new.memory (g.O.Out.heard c.take_step.new.out) c.take_step.new.answers)
      c.loop-step-test.true c.step-item.is c.loop-step.invariant.reaches c.in_ok-take_step.ensures.taken;
  breaks =
      step_passed g.C.Child.answers c.args.steps.now c.loop-step.step-index c.step-item.result (point c.args.memory.now (g.O.Out.heard c.args.out.now) [])
      (point c.loop-step.memory (g.O.Out.heard c.loop-step.out) c.loop-step.answers) (point c.take_step.new.memory (g.O.Out.heard c.take_step.new.out) c.take_step.new.answers)
      c.loop-step-test.true c.step-item.is c.loop-step.invariant.breaks c.in_ok-take_step.ensures.taken;
  none = c.in_ok-take_step.ensures.none;
}

pub returns-clause-taken : goal.returns-clause-taken
returns-clause-taken g c =
    steps_taken g.C.Child.answers c.args.steps.now c.loop-step.step-index (point c.args.memory.now (g.O.Out.heard c.args.out.now) [])
    (point c.loop-step.memory (g.O.Out.heard c.loop-step.out) c.loop-step.answers) c.loop-step-test.false c.loop-step.invariant.reaches

pub returns-in_err-take_step-clause-broken : goal.returns-in_err-take_step-clause-broken
returns-in_err-take_step-clause-broken g c =
    let out = c.take_step.new.out in
    on_err c.from_residual.result (
      c.take_step.new.answers,
      step_lost g.C.Child.answers c.args.steps.now c.loop-step.step-index c.step-item.result (point c.args.memory.now (g.O.Out.heard c.args.out.now) [])
          (point c.loop-step.memory (g.O.Out.heard c.loop-step.out) c.loop-step.answers) (point c.take_step.new.memory (g.O.Out.heard out) c.take_step.new.answers)
          c.loop-step-test.true c.step-item.is c.loop-step.invariant.breaks c.in_err-take_step.ensures.lost,
    )
