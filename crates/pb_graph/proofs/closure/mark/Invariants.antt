use Rattle.std.proofs.Common.{◌≡◌, drop, length}
use Rattle.pb_graph.specs.Closure.{with_marks}
use Rattle.pb_graph.proofs.closure.mark.Given as goal

abbrev pub invariant-loop-thing : goal.invariant-loop-thing
invariant-loop-thing l = record {
  long : length l.marks.items ≡ length l.fn.marks.items;
  rest : with_marks (l.marks.items, l.todo.items) (drop l.thing-index l.things) ≡ with_marks (l.fn.marks.items, l.fn.todo.items) l.things;
}
