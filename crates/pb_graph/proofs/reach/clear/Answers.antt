use Rattle.std.proofs.Common.{refl, ◌<◌, length, get_or, arith}
use Rattle.pb_graph.proofs.Reaching.{cleared_more, cleared_all}
use Rattle.pb_graph.proofs.reach.clear.Goals as goal

pub loop-v-preserved : goal.loop-v-preserved
loop-v-preserved c =
    let below : get_or c.args.list.now c.loop-v.v-index 0 < length c.loop-v.marks = omega (arith, c.requires.within c.loop-v.v-index 0 c.loop-v-test.true) in
    cleared_more _ _ _ _ _ c.loop-v.invariant refl below

pub returns-clause-clear : goal.returns-clause-clear
returns-clause-clear c = cleared_all _ _ _ _ c.loop-v.invariant c.loop-v-test.false
