use Rattle.std.proofs.Common.{List, ℕ, subst}
use Rattle.pb_graph.specs.declared.ranks.Rank.{Rank}
use Rattle.pb_graph.specs.Working.{AreRanked, AreSteps}
use Rattle.pb_graph.proofs.Circles.{nodes_within, ranks_within, all_apart}
use Rattle.pb_graph.proofs.Crowds.{by_key_within, by_key_same, steps_few}
use Rattle.pb_graph.proofs.order.order_nodes.Goals as goal

pub within-requires-clause-list : goal.within-requires-clause-list
within-requires-clause-list c = nodes_within _ _ _ _ c.requires.within c.in_ok-reached.ensures c.deref.ensures.value

pub rank_nodes-requires-clause-list : goal.rank_nodes-requires-clause-list
rank_nodes-requires-clause-list c = by_key_within _ _ _ _ _ _ _ c.requires.within c.in_ok-reached.ensures c.deref.ensures.value c.in-Ok.ensures.listed c.as_slice.ensures

pub steps_of-requires-clause-within : goal.steps_of-requires-clause-within
steps_of-requires-clause-within c =
    ranks_within _ _ _ _ _ _ c.in_ok-ranks.ensures (by_key_within _ _ _ _ _ _ _ c.requires.within c.in_ok-reached.ensures c.deref.ensures.value c.in-Ok.ensures.listed c.as_slice.ensures) c.deref-3.ensures.value

pub steps_of-requires-clause-apart : goal.steps_of-requires-clause-apart
steps_of-requires-clause-apart c = all_apart _ _ _ _ _ c.in_ok-ranks.ensures c.deref-3.ensures.value

pub returns-clause-ordered : goal.returns-clause-ordered
returns-clause-ordered c = record {
  levels = c.in_ok-levels.levels.items;
  leveled = c.in_ok-levels.ensures;
  among = c.as_slice.result.now;
  same = by_key_same _ _ _ _ _ _ c.in_ok-reached.ensures c.deref.ensures.value c.in-Ok.ensures.listed c.as_slice.ensures;
  ranks = c.in_ok-ranks.ranks.items;
  ranked = subst (λ (l : List ℕ). AreRanked c.args.nodes.now c.as_slice.result.now l c.in_ok-ranks.ranks.items) c.deref-2.ensures.value c.in_ok-ranks.ensures;
  steps = subst (λ (l : List Rank). AreSteps c.args.nodes.now l c.in_ok-plan.plan.items) c.deref-3.ensures.value c.in_ok-plan.ensures;
}

pub returns-clause-few : goal.returns-clause-few
returns-clause-few c = steps_few _ _ _ _ _ _ _ _ c.in-Ok.ensures.few c.as_slice.ensures c.in_ok-ranks.ensures c.deref-3.ensures.value c.in_ok-plan.ensures
