use Rattle.std.proofs.Common.{◌∙◌, ap, map}
use Rattle.pb_graph.specs.Working.{rank_node}
use Rattle.pb_graph.proofs.Circles.{by_key_all}
use Rattle.pb_graph.proofs.order.by_key.Goals as goal

pub returns : goal.returns
returns c = by_key_all _ _ _ _ _ _ c.in_ok-ranks.ensures (c.deref.ensures.value ∙ c.in_ok-levels.ensures) (c.from_vec.ensures ∙ c.in_ok-found.ensures ∙ ap (map rank_node) c.deref-2.ensures.value)
