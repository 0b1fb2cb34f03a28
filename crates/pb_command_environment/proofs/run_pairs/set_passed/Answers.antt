use Rattle.std.proofs.Common.{◌∙◌, ◌+◌, sym, ap, drop}
use Rattle.std.specs.List.{flat_map}
use Rattle.pb_command_types.specs.NamedTexts.{all_set}
use Rattle.pb_command_environment.specs.Pairs.{passed_at}
use Rattle.pb_command_types.proofs.NamedTexts.{set_flat}
use Rattle.pb_command_environment.proofs.run_pairs.set_passed.Goals as goal

pub loop-index-preserved : goal.loop-index-preserved
loop-index-preserved c =
    ap (λ m. all_set m (flat_map (passed_at c.args.project.now c.args.done.now) (drop (c.loop-index.index-index + 1) c.args.indices.now))) c.in_ok-set_passed_at.ensures
    ∙ sym (set_flat (passed_at c.args.project.now c.args.done.now) c.args.indices.now c.loop-index.index-index 0 c.loop-index.all c.loop-index-test.true)
    ∙ c.loop-index.invariant
