use Rattle.std.proofs.Common.{◌+◌, ◌-◌, ◌<◌, length, get_or, reverse, true, arith, ap, ◌∙◌}
use Rattle.pb_workspace.specs.Rows.{plain_cells, stepped}
use Rattle.pb_workspace.proofs.RowLemmas.{plain_row, step_at}
use Rattle.pb_workspace.proofs.glob.row_of.Goals as goal

pub loop-done-init : goal.loop-done-init
loop-done-init c =
    c.in_ok-row.ensures ∙ ap (λ b. record { empty = true; cells = plain_cells b }) (c.as_slice.ensures.value ∙ c.in_ok-before.ensures)
    ∙ plain_row c.args.pattern.now (reverse c.args.name.now) (length c.args.pattern.now - 0) (omega arith)

pub loop-done-preserved : goal.loop-done-preserved
loop-done-preserved c =
    let lt : c.loop-done.done < length c.args.pattern.now = c.loop-done-test.true in
    c.in_ok-row-2.ensures ∙ ap (stepped (get_or c.args.pattern.now (length c.args.pattern.now - 1 - c.loop-done.done) 0)) c.loop-done.invariant
    ∙ step_at c.args.pattern.now (reverse c.args.name.now) (length c.args.pattern.now - 1 - c.loop-done.done) (length c.args.pattern.now - c.loop-done.done) (length c.args.pattern.now - (c.loop-done.done + 1)) (omega arith) (omega arith) (omega arith)
