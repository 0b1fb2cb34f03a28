use Rattle.std.proofs.Common.{◌≡◌, ◌++◌, drop}
use Rattle.pb_graph.specs.Placed.{placed}
use Rattle.pb_feature.specs.Rules.{selected_seeds, seeds_of}
use Rattle.pb_feature.proofs.seeds.seeds_of.Given as goal

abbrev pub invariant-loop-pkg : goal.invariant-loop-pkg
invariant-loop-pkg l = l.seeds.items ++ placed (selected_seeds l.ground.packages.now l.ground.bases.now l.selection) l.pkg-index (drop l.pkg-index l.selection.packages) ≡ seeds_of l.ground.packages.now l.ground.bases.now l.selection
