use Rattle.std.proofs.Common.{arith}
use Rattle.pb_feature.proofs.Firsts.{turned}
use Rattle.pb_feature.proofs.checks.first_fault.Goals as goal

pub loop-pkg-preserved : goal.loop-pkg-preserved
loop-pkg-preserved c =
    turned c.args.packages.now c.loop-pkg.pkg c.index-packages-pkg.result c.loop-pkg.first c.first_of-first.result c.package_fault-fault.result c.is_lesser_at-lesser.result (omega arith) c.index-packages-pkg.is c.loop-pkg.invariant
    c.package_fault-fault.ensures c.is_lesser_at-lesser.ensures c.first_of-first.ensures
