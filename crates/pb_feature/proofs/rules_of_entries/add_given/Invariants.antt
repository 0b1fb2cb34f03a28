use Rattle.std.proofs.Common.{◌≡◌, ◌++◌, drop}
use Rattle.pb_graph.specs.Placed.{placed}
use Rattle.pb_feature.specs.Rules.{given_rules}
use Rattle.pb_feature.proofs.rules_of_entries.add_given.Given as goal

abbrev pub invariant-loop-feature : goal.invariant-loop-feature
invariant-loop-feature l = l.rules.items ++ placed (given_rules l.ground.packages.now l.ground.bases.now l.from l.pkg l.side) l.feature-index (drop l.feature-index l.features) ≡ l.fn.rules.items ++ placed (given_rules l.ground.packages.now l.ground.bases.now l.from l.pkg l.side) 0 l.features
