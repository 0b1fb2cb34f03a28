use Rattle.std.proofs.Common.{rules}
use Rattle.std.proofs.lemmas.List.Sorted.{IsNonDecreasingBy-from_sort_by_key}
use Rattle.pb_graph.specs.declared.levels.Extent.{Extent}
use Rattle.pb_graph.proofs.PlacingSteps.{reached_nodes}
use Rattle.pb_graph.proofs.Circles.{surveyed}
use Rattle.pb_graph.proofs.order.survey.Goals as goal
use Rattle.std.proofs.Common.{refl}

pub extents_of-requires-clause-list : goal.extents_of-requires-clause-list
extents_of-requires-clause-list c = reached_nodes _ _ _ _ _ c.in_ok-reached.ensures.reached c.deref.ensures.value refl

pub returns-clause-survey : goal.returns-clause-survey
returns-clause-survey c =
    surveyed _ _ _ _ _ _ c.in_ok-reached.ensures.reached c.deref.ensures.value c.in_ok-extents.ensures.nodes c.in_ok-extents.ensures.extents c.in_ok-sort_by_key.ensures.permutation
    (IsNonDecreasingBy-from_sort_by_key (λ (e : Extent). e.count) _ c.in_ok-sort_by_key.ensures.sorted (λ a r q k. search rules))
