use Rattle.pb_manifest.specs.Library.{crate_type_of}
use Rattle.pb_manifest.proofs.Loops.{next_item}
use Rattle.pb_manifest.proofs.target.each_crate_type.Goals as goal

pub loop-value-preserved : goal.loop-value-preserved
loop-value-preserved c =
    next_item crate_type_of _ _ _ _ _ _ _ c.loop-value-test.true c.value-item.is c.in_ok-crate_type_of.ensures c.in_ok-push.ensures.ok c.loop-value.invariant
