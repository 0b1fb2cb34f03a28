use Rattle.std.proofs.Common.{◌≡◌, ◌++◌, drop}
use Rattle.pb_graph.specs.Placed.{placed}
use Rattle.pb_feature.specs.Rules.{one_item_rules}
use Rattle.pb_feature.proofs.rules_of_items.add_feature.Given as goal

abbrev pub invariant-loop-item : goal.invariant-loop-item
invariant-loop-item l = l.rules.items ++ placed (one_item_rules l.ground.packages.now l.ground.bases.now l.pkg l.owner l.feature) l.item-index (drop l.item-index l.items) ≡ l.fn.rules.items ++ placed (one_item_rules l.ground.packages.now l.ground.bases.now l.pkg l.owner l.feature) 0 l.items
