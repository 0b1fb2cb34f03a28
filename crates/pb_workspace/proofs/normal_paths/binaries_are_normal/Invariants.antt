use Rattle.std.proofs.Common.{take}
use Rattle.std.specs.Prelude.{All}
use Rattle.pb_workspace.specs.NormalPaths.{HasSource}
use Rattle.pb_workspace.proofs.normal_paths.binaries_are_normal.Given as goal

abbrev pub invariant-loop-binary : goal.invariant-loop-binary
invariant-loop-binary l = All HasSource (take l.binary-index l.binaries)
