use Rattle.std.proofs.Common.{◌≡◌, ◌++◌, drop}
use Rattle.pb_workspace.specs.Rows.{plain_cells}
use Rattle.pb_workspace.proofs.glob.last_row.Given as goal

abbrev pub invariant-loop-byte : goal.invariant-loop-byte
invariant-loop-byte l = l.cells ++ plain_cells (drop l.byte-index l.before) ≡ plain_cells l.before
