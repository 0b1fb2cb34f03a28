use Rattle.std.proofs.Common.{◌<◌, length, refl, sym, arith, subst}
use Rattle.std.proofs.lemmas.Option.{slice_get_read}
use Rattle.pb_graph.specs.declared.ranks.Rank.{Rank}
use Rattle.pb_graph.proofs.PlacingSteps.{indices_more}
use Rattle.pb_graph.proofs.order.indices_by_node.Goals as goal

pub loop-index-preserved : goal.loop-index-preserved
loop-index-preserved c =
    let r = c.index-ranks-index.result in
    let inside : c.loop-index.index < length c.args.ranks.now = c.loop-index-test.true in
    let below = subst (λ (x : Rank). x.node < length c.args.nodes.now) (sym c.index-ranks-index.is) (c.requires.within c.loop-index.index r inside) in
    let here : r.node < length c.loop-index.indices.items = omega (arith, below, c.loop-index.invariant.long) in
    indices_more _ _ c.loop-index.index _ c.loop-index.invariant c.requires.apart r (slice_get_read c.args.ranks.now (length c.args.ranks.now) c.loop-index.index r refl inside c.index-ranks-index.is) here
