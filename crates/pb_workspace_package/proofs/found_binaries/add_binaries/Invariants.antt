use Rattle.std.proofs.Common.{◌≡◌, ◌++◌, drop}
use Rattle.std.specs.List.{filter_map}
use Rattle.pb_workspace_package.specs.FoundBinaries.{binary_at}
use Rattle.pb_workspace_package.proofs.found_binaries.add_binaries.Given as goal

abbrev pub invariant-loop-path : goal.invariant-loop-path
invariant-loop-path l = l.binaries ++ filter_map (binary_at l.nested l.bin) (drop l.path-index l.paths) ≡ l.fn.binaries ++ filter_map (binary_at l.nested l.bin) l.paths
