use Rattle.std.proofs.Common.{◌≡◌, ◌++◌, drop}
use Rattle.pb_graph.specs.Placed.{placed}
use Rattle.pb_feature.specs.Rules.{chosen_seeds}
use Rattle.pb_feature.proofs.seeds.add_owner.Given as goal

abbrev pub invariant-loop-index : goal.invariant-loop-index
invariant-loop-index l = l.seeds.items ++ placed (chosen_seeds l.ground.bases.now l.selection l.pkg l.name) l.index (drop l.index l.features) ≡ l.initial.seeds.items ++ placed (chosen_seeds l.ground.bases.now l.selection l.pkg l.name) 0 l.features
