use Rattle.pb_manifest.specs.Features.{feature_of}
use Rattle.pb_manifest.proofs.Loops.{next_entry}
use Rattle.pb_manifest.proofs.feature.each_feature.Goals as goal

pub loop-name-preserved : goal.loop-name-preserved
loop-name-preserved c =
    next_entry feature_of _ _ _ _ _ _ _ _ _ c.in-Some.ensures.steps c.as_str.ensures.value c.in_ok-feature_of.ensures c.in_ok-push.ensures.ok c.loop-name.invariant
