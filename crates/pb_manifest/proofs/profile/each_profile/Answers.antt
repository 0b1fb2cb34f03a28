use Rattle.pb_manifest.specs.Profiles.{profile_of}
use Rattle.pb_manifest.proofs.Loops.{next_entry}
use Rattle.pb_manifest.proofs.profile.each_profile.Goals as goal

pub loop-name-preserved : goal.loop-name-preserved
loop-name-preserved c =
    next_entry profile_of _ _ _ _ _ _ _ _ _ c.in-Some.ensures.steps c.as_str.ensures.value c.in_ok-profile_of.ensures c.in_ok-push.ensures.ok c.loop-name.invariant
