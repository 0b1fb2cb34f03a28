use Rattle.std.proofs.Common.{◌∙◌}
use Rattle.pb_manifest.proofs.Loops.{next_key}
use Rattle.pb_manifest.proofs.values.keys_of.Goals as goal

pub loop-name-preserved : goal.loop-name-preserved
loop-name-preserved c =
    next_key _ _ _ _ _ _ _ _ c.in-Some.ensures.steps (c.in_ok-from_str.ensures ∙ c.as_str.ensures.value) c.in_ok-push.ensures.ok c.loop-name.invariant
