use Rattle.std.proofs.Common.{◌≡◌, ◌++◌, drop}
use Rattle.pb_tool_clean.specs.Names.{folders_among}
use Rattle.pb_tool_clean.proofs.choice.push_folders.Given as goal

abbrev pub invariant-loop-path : goal.invariant-loop-path
invariant-loop-path l = l.chosen ++ folders_among l.choice (drop l.path-index l.paths) ≡ l.initial.chosen ++ folders_among l.choice l.paths
