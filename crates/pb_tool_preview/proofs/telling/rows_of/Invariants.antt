use Rattle.std.proofs.Common.{◌≡◌, ◌++◌, drop}
use Rattle.pb_tool_preview.specs.Telling.{rows_of}
use Rattle.pb_tool_preview.proofs.telling.rows_of.Given as goal

abbrev pub invariant-loop-index : goal.invariant-loop-index
invariant-loop-index l = l.rows ++ rows_of l.units (drop l.index l.units) (drop l.index l.fates) ≡ rows_of l.units l.units l.fates
