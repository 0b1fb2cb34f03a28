use Rattle.std.proofs.Common.{rules}
use Rattle.pb_graph.proofs.Looking.{begun, turned, taken, ended}
use Rattle.pb_graph.proofs.closure.least.Goals as goal

pub loop-thing-init : goal.loop-thing-init
loop-thing-init g c = begun _ _ c.in_ok-marks.marks.items _ _ (search rules) c.requires.seeds (search rules)

pub put_given-requires-clause-thing : goal.put_given-requires-clause-thing
put_given-requires-clause-thing g c = taken _ _ _ _ _ _ _ _ c.loop-thing.invariant c.as_slice.ensures.value c.in-Some.ensures.items

pub loop-thing-smaller : goal.loop-thing-smaller
loop-thing-smaller g c = (turned _ _ _ _ _ _ _ _ _ _ (c.mark-in-Some.new.marks.items, c.mark-in-Some.new.todo.items) c.loop-thing.invariant c.in-Some.ensures.items c.as_slice.ensures.value c.in_ok-put_given.ensures.given c.in_ok-put_given.ensures.within c.as_slice-in-Some.ensures.value c.in_ok-mark-2.ensures.marked).1

pub loop-thing-preserved : goal.loop-thing-preserved
loop-thing-preserved g c = (turned _ _ _ _ _ _ _ _ _ _ (c.mark-in-Some.new.marks.items, c.mark-in-Some.new.todo.items) c.loop-thing.invariant c.in-Some.ensures.items c.as_slice.ensures.value c.in_ok-put_given.ensures.given c.in_ok-put_given.ensures.within c.as_slice-in-Some.ensures.value c.in_ok-mark-2.ensures.marked).0

pub returns : goal.returns
returns g c = ended _ _ _ _ _ c.loop-thing.invariant (search rules)
