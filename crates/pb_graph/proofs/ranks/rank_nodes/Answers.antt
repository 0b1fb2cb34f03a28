use Rattle.pb_graph.proofs.Ranking.{ranked_all, same_node}
use Rattle.pb_graph.proofs.ranks.rank_nodes.Goals as goal

pub returns : goal.returns
returns c =
    ranked_all _ _ _ _ _ c.requires.graph c.requires.list c.in_ok-ranks.ensures.nodes c.in_ok-ranks.ensures.ranks c.sort_once.ensures.rises
    (λ x has. let (k, y, lt, at, same) = c.sort_once.ensures.keeps x has in (y, (k, lt, at), same_node _ x.node y.node _ same))
    c.sort_once.ensures.adds_none
    c.sort_once.ensures.few
