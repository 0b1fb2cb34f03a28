use Rattle.std.proofs.Common.{◌≡◌, drop}
use Rattle.pb_command_types.specs.NamedTexts.{all_set}
use Rattle.pb_command_environment.proofs.run_pairs.set_all.Given as goal

abbrev pub invariant-loop-pair : goal.invariant-loop-pair
invariant-loop-pair l = all_set l.all (drop l.pair-index l.pairs) ≡ all_set l.fn.all l.pairs
