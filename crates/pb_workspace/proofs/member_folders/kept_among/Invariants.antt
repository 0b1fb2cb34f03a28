use Rattle.std.proofs.Common.{◌≡◌, ◌++◌}
use Rattle.std.specs.Prelude.{filter}
use Rattle.std.specs.Vec.Iter.{into_iter_items}
use Rattle.pb_workspace.specs.MemberFolders.{is_kept}
use Rattle.pb_workspace.proofs.member_folders.kept_among.Given as goal

abbrev pub invariant-loop-folder : goal.invariant-loop-folder
invariant-loop-folder l = l.kept ++ filter (is_kept l.frame) (into_iter_items l.folder-iterator) ≡ filter (is_kept l.frame) l.fn.folders
