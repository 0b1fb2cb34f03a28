use Rattle.std.proofs.Common.{◌≡◌, ◌++◌, drop}
use Rattle.pb_tool_clean.proofs.looking.push_all.Given as goal

abbrev pub invariant-loop-path : goal.invariant-loop-path
invariant-loop-path l = l.paths ++ drop l.path-index l.more ≡ l.initial.paths ++ l.more
