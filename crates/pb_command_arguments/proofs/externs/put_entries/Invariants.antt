use Rattle.std.proofs.Common.{◌≡◌, drop}
use Rattle.pb_graph.specs.Placed.{placed}
use Rattle.pb_command_types.specs.NamedTexts.{all_set}
use Rattle.pb_command_arguments.specs.Externs.{entry_extern}
use Rattle.pb_command_arguments.proofs.externs.put_entries.Given as goal

abbrev pub invariant-loop-index : goal.invariant-loop-index
invariant-loop-index l = all_set l.all (placed (entry_extern l.project l.unit) l.index (drop l.index l.entries)) ≡ all_set l.fn.all (placed (entry_extern l.project l.unit) 0 l.entries)
