use Rattle.std.proofs.Common.{◌≡◌, ◌-◌, drop, length}
use Rattle.std.specs.Prelude.{reverse}
use Rattle.pb_workspace.specs.Globs.{matches}
use Rattle.pb_workspace.specs.Rows.{row_of}
use Rattle.pb_workspace.proofs.glob.row_of.Given as goal

abbrev pub invariant-loop-done : goal.invariant-loop-done
invariant-loop-done l = l.row ≡ row_of (matches (drop (length l.pattern - l.done) l.pattern)) (reverse l.name)
