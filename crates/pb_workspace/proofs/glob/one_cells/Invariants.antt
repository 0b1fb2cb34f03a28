use Rattle.std.proofs.Common.{◌≡◌, ◌++◌, drop}
use Rattle.pb_workspace.specs.Rows.{one_cells}
use Rattle.pb_workspace.proofs.glob.one_cells.Given as goal

abbrev pub invariant-loop-cell : goal.invariant-loop-cell
invariant-loop-cell l = l.made ++ one_cells l.past (drop l.cell-index l.cells) ≡ one_cells l.empty l.cells
