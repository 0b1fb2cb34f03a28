use Rattle.std.proofs.Common.{take}
use Rattle.std.specs.Prelude.{All}
use Rattle.pb_workspace.specs.NormalPaths.{HasOwnPaths}
use Rattle.pb_workspace.proofs.normal_paths.packages_have_paths.Given as goal

abbrev pub invariant-loop-owner : goal.invariant-loop-owner
invariant-loop-owner l = All HasOwnPaths (take l.owner-index l.packages)
