use Rattle.std.proofs.Common.{◌≡◌, ◌++◌, drop}
use Rattle.pb_graph.specs.Placed.{placed}
use Rattle.pb_feature.specs.Rules.{feature_rules}
use Rattle.pb_feature.proofs.rules.add_package.Given as goal

abbrev pub invariant-loop-index : goal.invariant-loop-index
invariant-loop-index l = l.rules.items ++ placed (feature_rules l.ground.packages.now l.ground.bases.now l.pkg l.owner) l.index (drop l.index l.features) ≡ l.initial.rules.items ++ placed (feature_rules l.ground.packages.now l.ground.bases.now l.pkg l.owner) 0 l.features
