use Rattle.std.proofs.Common.{◌≡◌, ◌++◌}
use Rattle.std.specs.Vec.Iter.{into_iter_items}
use Rattle.pb_workspace.proofs.member_folders.add_folders.Given as goal

abbrev pub invariant-loop-folder : goal.invariant-loop-folder
invariant-loop-folder l = l.made ++ into_iter_items l.folder-iterator ≡ l.fn.made ++ l.fn.folders
