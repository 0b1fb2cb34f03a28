use Rattle.std.proofs.Common.{◌≡◌, ◌++◌, drop}
use Rattle.std.specs.List.{flat_map}
use Rattle.pb_command_arguments.specs.Externs.{read_at}
use Rattle.pb_command_arguments.proofs.externs.push_reads.Given as goal

abbrev pub invariant-loop-index : goal.invariant-loop-index
invariant-loop-index l = l.reads ++ flat_map (read_at l.project) (drop l.index-index l.indices) ≡ l.fn.reads ++ flat_map (read_at l.project) l.indices
