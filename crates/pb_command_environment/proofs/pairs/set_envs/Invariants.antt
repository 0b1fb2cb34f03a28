use Rattle.std.proofs.Common.{◌≡◌, drop}
use Rattle.std.specs.List.{flat_map}
use Rattle.pb_command_types.specs.NamedTexts.{all_set}
use Rattle.pb_command_environment.specs.Pairs.{env_pair}
use Rattle.pb_command_environment.proofs.pairs.set_envs.Given as goal

abbrev pub invariant-loop-directive : goal.invariant-loop-directive
invariant-loop-directive l = all_set l.all (flat_map env_pair (drop l.directive-index l.said)) ≡ all_set l.fn.all (flat_map env_pair l.said)
