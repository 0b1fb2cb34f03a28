use Rattle.std.proofs.Common.{◌≡◌, ◌<◌, length, ap, arith, slice_index_or, false}
use Rattle.std.proofs.lemmas.Option.{slice_get-get_or}
use Rattle.pb_graph.specs.declared.levels.Extent.{Extent}
use Rattle.pb_graph.proofs.Extents.{needs_nodes}
use Rattle.pb_graph.proofs.Leveling.{leveled_more, leveled_all, level_is}
use Rattle.pb_graph.proofs.levels.levels_of.Goals as goal

pub level_above-level-requires-clause-needs : goal.level_above-level-requires-clause-needs
level_above-level-requires-clause-needs c k d h =
    let lt = needs_nodes _ _ _ c.requires.graph c.needs_at.ensures k d h in
    let long : length c.deref.result.now ≡ length c.loop-extent.levels.items = ap length c.deref.ensures.value in
    omega (arith, lt, long, c.loop-extent.invariant.long)

pub loop-extent-preserved : goal.loop-extent-preserved
loop-extent-preserved c =
    let none : Extent = record { node = 0; count = 0; turns = false } in
    let i = c.loop-extent.extent-index in
    let levels = c.loop-extent.levels.items in
    let e : Extent = slice_index_or c.args.extents.now i none in
    let inside : i < length c.args.extents.now = c.loop-extent-test.true in
    let below : e.node < length levels = let lt = c.requires.within i none inside in omega (arith, lt, c.loop-extent.invariant.long) in
    leveled_more _ _ c.requires.extents i levels c.loop-extent.invariant e (slice_get-get_or c.args.extents.now i none inside) below c.level_above-level.result
    (level_is _ e.node levels _ _ _ c.deref.ensures.value c.needs_at.ensures c.level_above-level.ensures)

pub returns : goal.returns
returns c = leveled_all _ _ c.requires.extents _ _ c.loop-extent.invariant c.loop-extent-test.false
