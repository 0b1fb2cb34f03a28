use Rattle.std.proofs.Common.{◌≡◌, ◌++◌, drop}
use Rattle.pb_workspace.specs.Rows.{byte_cells}
use Rattle.pb_workspace.proofs.glob.byte_cells.Given as goal

abbrev pub invariant-loop-cell : goal.invariant-loop-cell
invariant-loop-cell l = l.made ++ byte_cells l.byte l.shorter (drop l.cell-index l.cells) ≡ byte_cells l.byte l.empty l.cells
