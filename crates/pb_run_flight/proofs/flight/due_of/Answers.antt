use Rattle.std.proofs.Common.{true, false, arith, add-zero, append_assoc, append-nil}
use Rattle.std.proofs.lemmas.List.{drop_all}
use Rattle.pb_run_flight.specs.declared.flight.State.TheVariants.{Untouched, Begun, Answered}
use Rattle.pb_run_flight.proofs.Looking.{rest_here, none_when}
use Rattle.pb_run_flight.proofs.flight.due_of.Goals as goal

pub returns-in-Untouched-clause-lines : goal.returns-in-Untouched-clause-lines
returns-in-Untouched-clause-lines g c = rw (rest_here c.args.states.now c.loop-i.i c.index-states-i.result Untouched c.loop-i-test.true c.index-states-i.is c.in-Untouched.is, append-nil) at c.loop-i.invariant.lines

pub returns-in-Untouched-clause-count : goal.returns-in-Untouched-clause-count
returns-in-Untouched-clause-count g c = rw (rest_here c.args.states.now c.loop-i.i c.index-states-i.result Untouched c.loop-i-test.true c.index-states-i.is c.in-Untouched.is, add-zero) at c.loop-i.invariant.count

pub returns-in-Begun-clause-lines : goal.returns-in-Begun-clause-lines
returns-in-Begun-clause-lines g c = rw (rest_here c.args.states.now c.loop-i.i c.index-states-i.result Begun c.loop-i-test.true c.index-states-i.is c.in-Begun.is, append-nil) at c.loop-i.invariant.lines

pub returns-in-Begun-clause-count : goal.returns-in-Begun-clause-count
returns-in-Begun-clause-count g c = rw (rest_here c.args.states.now c.loop-i.i c.index-states-i.result Begun c.loop-i-test.true c.index-states-i.is c.in-Begun.is, add-zero) at c.loop-i.invariant.count

pub returns-then-is_some-clause-lines : goal.returns-then-is_some-clause-lines
returns-then-is_some-clause-lines g c =
    let here = rest_here c.args.states.now c.loop-i.i c.index-states-i.result (Answered c.in-Answered.answer) c.loop-i-test.true c.index-states-i.is c.in-Answered.is in
    rw (c.in_ok-extend_from_slice-in-Answered.ensures.items, c.as_slice.ensures)
    (rw (here, none_when c.in-Answered.answer.fault c.is_some.result true c.is_some.ensures c.if-is_some.true, append-nil) at c.loop-i.invariant.lines)

pub returns-then-is_some-clause-count : goal.returns-then-is_some-clause-count
returns-then-is_some-clause-count g c =
    let here = rest_here c.args.states.now c.loop-i.i c.index-states-i.result (Answered c.in-Answered.answer) c.loop-i-test.true c.index-states-i.is c.in-Answered.is in
    rw (here, none_when c.in-Answered.answer.fault c.is_some.result true c.is_some.ensures c.if-is_some.true) at c.loop-i.invariant.count

pub loop-i-preserved : goal.loop-i-preserved
loop-i-preserved g c =
    let here = rest_here c.args.states.now c.loop-i.i c.index-states-i.result (Answered c.in-Answered.answer) c.loop-i-test.true c.index-states-i.is c.in-Answered.is in
    let none = none_when c.in-Answered.answer.fault c.is_some.result false c.is_some.ensures c.if-is_some.false in
    let counted = rw (here, none) at c.loop-i.invariant.count in
    record {
      lines = rw (c.in_ok-extend_from_slice-in-Answered.ensures.items, c.as_slice.ensures, append_assoc) (rw (here, none) at c.loop-i.invariant.lines);
      count = omega (arith, counted);
    }

pub returns-clause-lines : goal.returns-clause-lines
returns-clause-lines g c = rw (drop_all c.loop-i.i c.args.states.now c.loop-i-test.false, append-nil) at c.loop-i.invariant.lines

pub returns-clause-count : goal.returns-clause-count
returns-clause-count g c =
    let counted = rw (drop_all c.loop-i.i c.args.states.now c.loop-i-test.false) at c.loop-i.invariant.count in omega (arith, counted)
