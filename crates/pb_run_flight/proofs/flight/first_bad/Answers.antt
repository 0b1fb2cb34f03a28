use Rattle.std.proofs.Common.{add-one, true, false}
use Rattle.std.proofs.lemmas.List.{drop_all}
use Rattle.pb_run_flight.specs.declared.flight.State.TheVariants.{Untouched, Begun, Answered}
use Rattle.pb_run_flight.proofs.Looking.{rest_here, none_when}
use Rattle.pb_run_flight.proofs.flight.first_bad.Goals as goal

pub returns-in-Untouched : goal.returns-in-Untouched
returns-in-Untouched g c = rw (rest_here c.args.states.now c.loop-i.i c.index-states-i.result Untouched c.loop-i-test.true c.index-states-i.is c.in-Untouched.is) at c.loop-i.invariant

pub returns-in-Begun : goal.returns-in-Begun
returns-in-Begun g c = rw (rest_here c.args.states.now c.loop-i.i c.index-states-i.result Begun c.loop-i-test.true c.index-states-i.is c.in-Begun.is) at c.loop-i.invariant

pub returns-then-is_some : goal.returns-then-is_some
returns-then-is_some g c =
    let here = rest_here c.args.states.now c.loop-i.i c.index-states-i.result (Answered c.in-Answered.answer) c.loop-i-test.true c.index-states-i.is c.in-Answered.is in
    rw (here, none_when c.in-Answered.answer.fault c.is_some.result true c.is_some.ensures c.if-is_some.true) at c.loop-i.invariant

pub loop-i-preserved : goal.loop-i-preserved
loop-i-preserved g c =
    let here = rest_here c.args.states.now c.loop-i.i c.index-states-i.result (Answered c.in-Answered.answer) c.loop-i-test.true c.index-states-i.is c.in-Answered.is in
    rw (here, none_when c.in-Answered.answer.fault c.is_some.result false c.is_some.ensures c.if-is_some.false, ← add-one c.loop-i.i) at c.loop-i.invariant

pub returns : goal.returns
returns g c = rw (drop_all c.loop-i.i c.args.states.now c.loop-i-test.false) at c.loop-i.invariant
