use Rattle.std.proofs.Common.{◌≡◌, ◌++◌, drop}
use Rattle.pb_graph.specs.Placed.{placed}
use Rattle.pb_feature.specs.Rules.{entry_rules}
use Rattle.pb_feature.proofs.rules_of_entries.add_entries.Given as goal

abbrev pub invariant-loop-index : goal.invariant-loop-index
invariant-loop-index l = l.rules.items ++ placed (entry_rules l.ground.packages.now l.ground.bases.now l.side l.pkg l.features) l.index (drop l.index l.entries) ≡ l.fn.rules.items ++ placed (entry_rules l.ground.packages.now l.ground.bases.now l.side l.pkg l.features) 0 l.entries
