use Rattle.std.proofs.Common.{◌≡◌, drop}
use Rattle.std.specs.List.{flat_map}
use Rattle.pb_command_types.specs.NamedTexts.{all_set}
use Rattle.pb_command_environment.specs.Pairs.{passed_at}
use Rattle.pb_command_environment.proofs.run_pairs.set_passed.Given as goal

abbrev pub invariant-loop-index : goal.invariant-loop-index
invariant-loop-index l = all_set l.all (flat_map (passed_at l.project l.done) (drop l.index-index l.indices)) ≡ all_set l.fn.all (flat_map (passed_at l.project l.done) l.indices)
