use Rattle.pb_manifest.specs.Values.{text_of}
use Rattle.pb_manifest.proofs.Loops.{next_item}
use Rattle.pb_manifest.proofs.values.each_text.Goals as goal

pub loop-value-preserved : goal.loop-value-preserved
loop-value-preserved c =
    next_item (text_of c.args.key) _ _ _ _ _ _ _ c.loop-value-test.true c.value-item.is c.in_ok-text_of.ensures c.in_ok-push.ensures.ok c.loop-value.invariant
