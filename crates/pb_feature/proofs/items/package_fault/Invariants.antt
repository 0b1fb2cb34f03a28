use Rattle.std.proofs.Common.{◌≡◌, drop}
use Rattle.pb_feature.specs.Faults.{features_fault}
use Rattle.pb_feature.proofs.items.package_fault.Given as goal

abbrev pub invariant-loop-feature : goal.invariant-loop-feature
invariant-loop-feature l = features_fault l.owner (drop l.feature-index l.owner.features) ≡ features_fault l.owner l.owner.features
