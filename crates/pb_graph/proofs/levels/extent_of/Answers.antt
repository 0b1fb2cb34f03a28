use Rattle.std.proofs.Common.{◌≡◌, length, arith}
use Rattle.std.specs.Cmp.{unsigned_Decides}
use Rattle.std.proofs.lemmas.List.Elements.{contains_decides, Decides-contains}
use Rattle.pb_graph.proofs.Extents.{needs_nodes, extent_from}
use Rattle.pb_graph.proofs.levels.extent_of.Goals as goal

pub reached_from-requires-clause-roots : goal.reached_from-requires-clause-roots
reached_from-requires-clause-roots c = needs_nodes _ _ _ c.requires.graph c.needs_at.ensures

pub returns-clause-extent : goal.returns-clause-extent
returns-clause-extent c =
    let count : c.len.result ≡ length c.in_ok-reached.reached.items = omega (arith, c.len.ensures) in
    extent_from _ c.args.node c.len.result c.contains.result _ _ c.deref.result.now c.needs_at.ensures c.in_ok-reached.ensures.reached c.deref.ensures.value count
    (Decides-contains _ _ _ (contains_decides _ unsigned_Decides _ _ _ c.contains.ensures.cases))
