use Rattle.std.proofs.Common.{take}
use Rattle.pb_graph.specs.Index.{either_way, IsIndex}
use Rattle.pb_graph.proofs.index.index_of.Given as goal

abbrev pub invariant-loop-rule : goal.invariant-loop-rule
invariant-loop-rule l = IsIndex l.count (either_way (take l.rule-index l.rules)) l.index.heads.items l.index.links.items
