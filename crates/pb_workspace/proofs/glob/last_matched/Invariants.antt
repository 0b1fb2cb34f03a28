use Rattle.std.proofs.Common.{◌≡◌, drop}
use Rattle.pb_workspace.specs.Rows.{last_matched}
use Rattle.pb_workspace.proofs.glob.last_matched.Given as goal

abbrev pub invariant-loop-cell : goal.invariant-loop-cell
invariant-loop-cell l = last_matched l.matched (drop l.cell-index l.row.cells) ≡ last_matched l.row.empty l.row.cells
