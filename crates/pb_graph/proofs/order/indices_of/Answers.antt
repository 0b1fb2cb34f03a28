use Rattle.std.proofs.Common.{◌≡◌, map, slice_index, ap, ◌∙◌}
use Rattle.std.proofs.lemmas.List.{take_all}
use Rattle.pb_graph.proofs.PlacingSteps.{placed_all}
use Rattle.pb_graph.proofs.order.indices_of.Goals as goal

pub returns : goal.returns
returns c =
    let is : c.loop-node.found.items ≡ map (slice_index c.args.indices.now) c.args.list.now = c.loop-node.invariant ∙ ap (map (slice_index c.args.indices.now)) (take_all c.loop-node.node-index c.args.list.now c.loop-node-test.false) in
    placed_all _ _ _ _ _ is c.sort_once.ensures.rises c.sort_once.ensures.keeps c.sort_once.ensures.adds_none c.from_vec.ensures
