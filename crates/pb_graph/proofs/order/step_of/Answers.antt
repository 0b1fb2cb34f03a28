use Rattle.std.proofs.Common.{ℕ, List, arith, refl, subst}
use Rattle.pb_graph.specs.Working.{AreIndicesBy, AreReached}
use Rattle.pb_graph.proofs.Extents.{needs_nodes}
use Rattle.pb_graph.proofs.PlacingSteps.{reached_nodes}
use Rattle.pb_graph.proofs.order.step_of.Goals as goal

pub reached_from-requires-clause-roots : goal.reached_from-requires-clause-roots
reached_from-requires-clause-roots c = needs_nodes _ _ _ c.requires.graph c.needs_at.ensures

pub indices_of-requires : goal.indices_of-requires
indices_of-requires c k d lt = let below = needs_nodes _ _ _ c.requires.graph c.needs_at-2.ensures k d lt in omega (arith, below, c.requires.indices)

pub indices_of-requires-2 : goal.indices_of-requires-2
indices_of-requires-2 c = reached_nodes _ _ _ _ _ c.in_ok-reached.ensures.reached c.deref.ensures.value c.requires.indices

pub returns-clause-step : goal.returns-clause-step
returns-clause-step c =
    record {
      node = refl;
      key = c.in_ok-key.ensures;
      level = refl;
      needs = subst (λ (l : List ℕ). AreIndicesBy c.args.indices.now l c.in_ok-needs.needs) c.needs_at-2.ensures c.in_ok-needs.ensures;
      reached = c.in_ok-reached.reached.items;
      are = subst (λ (l : List ℕ). AreReached c.args.nodes.now l c.in_ok-reached.reached.items) c.needs_at.ensures c.in_ok-reached.ensures.reached;
      reaches = subst (λ (l : List ℕ). AreIndicesBy c.args.indices.now l c.in_ok-reaches.reaches) c.deref.ensures.value c.in_ok-reaches.ensures;
    }
