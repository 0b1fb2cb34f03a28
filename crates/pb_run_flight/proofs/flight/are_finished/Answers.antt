use Rattle.std.proofs.Common.{true, false}
use Rattle.std.proofs.lemmas.List.{drop_all}
use Rattle.pb_run_flight.specs.declared.flight.State.TheVariants.{Untouched, Begun, Answered}
use Rattle.pb_run_flight.proofs.Looking.{rest_here, none_when}
use Rattle.pb_run_flight.proofs.flight.are_finished.Goals as goal

pub returns-in-Untouched : goal.returns-in-Untouched
returns-in-Untouched g c = rw (rest_here c.args.states.now c.loop-state.state-index c.state-item.result Untouched c.loop-state-test.true c.state-item.is c.in-Untouched.is) at c.loop-state.invariant

pub returns-in-Begun : goal.returns-in-Begun
returns-in-Begun g c = rw (rest_here c.args.states.now c.loop-state.state-index c.state-item.result Begun c.loop-state-test.true c.state-item.is c.in-Begun.is) at c.loop-state.invariant

pub returns-then-is_some : goal.returns-then-is_some
returns-then-is_some g c =
    let here = rest_here c.args.states.now c.loop-state.state-index c.state-item.result (Answered c.in-Answered.answer) c.loop-state-test.true c.state-item.is c.in-Answered.is in
    rw (here, none_when c.in-Answered.answer.fault c.is_some.result true c.is_some.ensures c.if-is_some.true) at c.loop-state.invariant

pub loop-state-preserved : goal.loop-state-preserved
loop-state-preserved g c =
    let here = rest_here c.args.states.now c.loop-state.state-index c.state-item.result (Answered c.in-Answered.answer) c.loop-state-test.true c.state-item.is c.in-Answered.is in
    rw (here, none_when c.in-Answered.answer.fault c.is_some.result false c.is_some.ensures c.if-is_some.false) at c.loop-state.invariant

pub returns : goal.returns
returns g c = rw (drop_all c.loop-state.state-index c.args.states.now c.loop-state-test.false) at c.loop-state.invariant
