use Rattle.pb_manifest.specs.Dependencies.{shared_dependency_of}
use Rattle.pb_manifest.proofs.Loops.{next_entry}
use Rattle.pb_manifest.proofs.shared_dependency.each_shared_dependency.Goals as goal

pub loop-name-preserved : goal.loop-name-preserved
loop-name-preserved c =
    next_entry shared_dependency_of _ _ _ _ _ _ _ _ _ c.in-Some.ensures.steps c.as_str.ensures.value c.in_ok-shared_dependency_of.ensures c.in_ok-push.ensures.ok c.loop-name.invariant
