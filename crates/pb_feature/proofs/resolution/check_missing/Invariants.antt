use Rattle.pb_feature.specs.Marked.{NoneMarkedMissing}
use Rattle.pb_feature.proofs.resolution.check_missing.Given as goal

abbrev pub invariant-loop-pkg : goal.invariant-loop-pkg
invariant-loop-pkg l = NoneMarkedMissing l.marks l.ground.bases.now l.pkg
