use Rattle.pb_workspace.proofs.EachOne.{all_next, all_of}
use Rattle.pb_workspace.specs.NormalPaths.{HasOwnPaths}
use Rattle.pb_workspace.proofs.normal_paths.packages_have_paths.Goals as goal

pub loop-owner-preserved : goal.loop-owner-preserved
loop-owner-preserved c = all_next HasOwnPaths c.args.packages.now c.loop-owner.owner-index c.owner-item.result c.loop-owner-test.true c.owner-item.is c.loop-owner.invariant c.package_has_paths.ensures

pub returns : goal.returns
returns c = all_of HasOwnPaths c.args.packages.now c.loop-owner.owner-index c.loop-owner-test.false c.loop-owner.invariant
