use Rattle.std.proofs.Common.{arith, rules}
use Rattle.pb_graph.proofs.Indexing.{index_begun, index_step}
use Rattle.pb_graph.proofs.index.index_of.Goals as goal

pub loop-rule-init : goal.loop-rule-init
loop-rule-init c = index_begun _ _ _ (search rules) c.in_ok-with_capacity.ensures.items

pub loop-rule-preserved : goal.loop-rule-preserved
loop-rule-preserved c = index_step _ _ _ _ _ _ _ _ c.loop-rule.invariant (omega arith) c.requires c.in_ok-add_rule.ensures.added
