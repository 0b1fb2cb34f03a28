use Rattle.std.proofs.Common.{◌≡◌, ◌++◌, drop}
use Rattle.pb_tool_reasons.specs.Started.{rows_of}
use Rattle.pb_tool_reasons.proofs.started.rows_of.Given as goal

abbrev pub invariant-loop-index : goal.invariant-loop-index
invariant-loop-index l = l.rows ++ rows_of (drop l.index l.keys) (drop l.index l.differences) (drop l.index l.details) ≡ rows_of l.keys l.differences l.details
