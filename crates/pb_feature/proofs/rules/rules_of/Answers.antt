use Rattle.pb_feature.specs.Rules.{package_rules}
use Rattle.pb_graph.proofs.Placing.{rest_here, placed_more}
use Rattle.pb_feature.proofs.rules.rules_of.Goals as goal

pub loop-pkg-preserved : goal.loop-pkg-preserved
loop-pkg-preserved c =
    let rest = rest_here c.args.ground.now.packages.now c.loop-pkg.pkg c.index-ground-pkg.result c.loop-pkg-test.true c.index-ground-pkg.is in
    placed_more (package_rules c.args.ground.now.packages.now c.args.ground.now.bases.now) c.args.ground.now.packages.now c.loop-pkg.pkg c.index-ground-pkg.result c.loop-pkg.rules.items c.add_package.new.rules.items _
    rest (rw (← c.index-ground-pkg.is) at c.in_ok-add_package.ensures) c.loop-pkg.invariant
