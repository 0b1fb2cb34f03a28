use Rattle.std.proofs.Common.{◌≡◌, take}
use Rattle.std.specs.List.{sum_by}
use Rattle.pb_graph.specs.Index.{links_of}
use Rattle.pb_graph.proofs.index.count_links.Given as goal

abbrev pub invariant-loop-rule : goal.invariant-loop-rule
invariant-loop-rule l = l.count ≡ sum_by links_of (take l.rule-index l.rules)
