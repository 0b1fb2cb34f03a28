use Rattle.pb_manifest.specs.Binaries.{binary_of}
use Rattle.pb_manifest.proofs.Loops.{next_item}
use Rattle.pb_manifest.proofs.target.each_binary.Goals as goal

pub loop-value-preserved : goal.loop-value-preserved
loop-value-preserved c =
    next_item binary_of _ _ _ _ _ _ _ c.loop-value-test.true c.value-item.is c.in_ok-binary_of.ensures c.in_ok-push.ensures.ok c.loop-value.invariant
