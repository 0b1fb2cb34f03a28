use Rattle.std.proofs.Common.{◌∙◌, ◌+◌, sym, ap, drop}
use Rattle.pb_graph.specs.Placed.{placed}
use Rattle.pb_command_types.specs.NamedTexts.{all_set}
use Rattle.pb_command_arguments.specs.Externs.{entry_extern}
use Rattle.pb_command_arguments.proofs.Setting.{set_placed}
use Rattle.pb_command_arguments.proofs.externs.put_entries.Goals as goal

pub loop-index-preserved : goal.loop-index-preserved
loop-index-preserved c =
    ap (λ m. all_set m (placed (entry_extern c.args.project.now c.args.unit.now) (c.loop-index.index + 1) (drop (c.loop-index.index + 1) c.args.entries.now))) c.in_ok-put_entry.ensures
    ∙ sym (set_placed (entry_extern c.args.project.now c.args.unit.now) c.args.entries.now c.loop-index.index c.index-entries-index.result c.loop-index.all c.loop-index-test.true c.index-entries-index.is)
    ∙ c.loop-index.invariant
