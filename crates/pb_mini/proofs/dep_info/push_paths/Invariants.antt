use Rattle.std.proofs.Common.{◌≡◌, ◌++◌, drop}
use Rattle.pb_mini.specs.DepInfo.{paths_text}
use Rattle.pb_mini.proofs.dep_info.push_paths.Given as goal

abbrev pub invariant-loop-path : goal.invariant-loop-path
invariant-loop-path l = l.text.items ++ paths_text (drop l.path-index l.paths) ≡ l.fn.text.items ++ paths_text l.paths
