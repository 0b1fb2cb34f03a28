use Rattle.pb_feature.specs.Checked.{IsSofar}
use Rattle.pb_feature.proofs.checks.first_fault.Given as goal

abbrev pub invariant-loop-pkg : goal.invariant-loop-pkg
invariant-loop-pkg l = IsSofar l.packages l.pkg l.first
