use Rattle.pb_manifest.specs.Profiles.{override_of}
use Rattle.pb_manifest.proofs.Loops.{next_entry}
use Rattle.pb_manifest.proofs.profile.each_override.Goals as goal

pub loop-name-preserved : goal.loop-name-preserved
loop-name-preserved c =
    next_entry override_of _ _ _ _ _ _ _ _ _ c.in-Some.ensures.steps c.as_str.ensures.value c.in_ok-override_of.ensures c.in_ok-push.ensures.ok c.loop-name.invariant
