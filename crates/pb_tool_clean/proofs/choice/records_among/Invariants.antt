use Rattle.std.proofs.Common.{◌≡◌, ◌++◌, drop}
use Rattle.pb_tool_clean.specs.Names.{records_among}
use Rattle.pb_tool_clean.proofs.choice.records_among.Given as goal

abbrev pub invariant-loop-path : goal.invariant-loop-path
invariant-loop-path l = l.records ++ records_among l.choice (drop l.path-index l.paths) ≡ records_among l.choice l.paths
