use Rattle.std.proofs.Common.{◌≡◌, drop, map}
use Rattle.pb_command_types.specs.NamedTexts.{all_set}
use Rattle.pb_command_environment.specs.Pairs.{feature_pair}
use Rattle.pb_command_environment.proofs.run_pairs.set_features.Given as goal

abbrev pub invariant-loop-feature : goal.invariant-loop-feature
invariant-loop-feature l = all_set l.all (map feature_pair (drop l.feature-index l.features)) ≡ all_set l.fn.all (map feature_pair l.features)
