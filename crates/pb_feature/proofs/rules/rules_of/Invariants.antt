use Rattle.std.proofs.Common.{◌≡◌, ◌++◌, drop}
use Rattle.pb_graph.specs.Placed.{placed}
use Rattle.pb_feature.specs.Rules.{package_rules}
use Rattle.pb_feature.proofs.rules.rules_of.Given as goal

abbrev pub invariant-loop-pkg : goal.invariant-loop-pkg
invariant-loop-pkg l = l.rules.items ++ placed (package_rules l.ground.packages.now l.ground.bases.now) l.pkg (drop l.pkg l.ground.packages.now) ≡ placed (package_rules l.ground.packages.now l.ground.bases.now) 0 l.ground.packages.now
