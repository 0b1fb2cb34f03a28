use Rattle.pb_manifest.specs.Dependencies.{dependency_of}
use Rattle.pb_manifest.proofs.Loops.{next_entry}
use Rattle.pb_manifest.proofs.dependency.each_dependency.Goals as goal

pub loop-name-preserved : goal.loop-name-preserved
loop-name-preserved c =
    next_entry (dependency_of c.args.key) _ _ _ _ _ _ _ _ _ c.in-Some.ensures.steps c.as_str.ensures.value c.in_ok-dependency_of.ensures c.in_ok-push.ensures.ok c.loop-name.invariant
