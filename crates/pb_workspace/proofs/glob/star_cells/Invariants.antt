use Rattle.std.proofs.Common.{◌≡◌, ◌++◌, drop}
use Rattle.pb_workspace.specs.Rows.{star_cells}
use Rattle.pb_workspace.proofs.glob.star_cells.Given as goal

abbrev pub invariant-loop-cell : goal.invariant-loop-cell
invariant-loop-cell l = l.made ++ star_cells l.shorter (drop l.cell-index l.cells) ≡ star_cells l.empty l.cells
