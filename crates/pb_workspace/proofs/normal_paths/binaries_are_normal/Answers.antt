use Rattle.pb_workspace.proofs.EachOne.{all_next, all_of}
use Rattle.pb_workspace.specs.NormalPaths.{HasSource}
use Rattle.pb_workspace.proofs.normal_paths.binaries_are_normal.Goals as goal

pub loop-binary-preserved : goal.loop-binary-preserved
loop-binary-preserved c = all_next HasSource c.args.binaries.now c.loop-binary.binary-index c.binary-item.result c.loop-binary-test.true c.binary-item.is c.loop-binary.invariant c.binary_is_normal.ensures

pub returns : goal.returns
returns c = all_of HasSource c.args.binaries.now c.loop-binary.binary-index c.loop-binary-test.false c.loop-binary.invariant
