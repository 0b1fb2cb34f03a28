use Rattle.std.proofs.Common.{◌≡◌}
use Rattle.std.specs.Vec.Iter.{into_iter_items}
use Rattle.pb_workspace.specs.ByFolder.{with_folders}
use Rattle.pb_workspace.proofs.by_folder.put_folders.Given as goal

abbrev pub invariant-loop-folder : goal.invariant-loop-folder
invariant-loop-folder l = with_folders l.entries (into_iter_items l.folder-iterator) ≡ with_folders l.fn.entries l.fn.folders
