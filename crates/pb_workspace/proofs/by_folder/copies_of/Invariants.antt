use Rattle.std.proofs.Common.{◌≡◌, ◌++◌, drop, map}
use Rattle.pb_workspace.proofs.by_folder.copies_of.Given as goal

abbrev pub invariant-loop-folder : goal.invariant-loop-folder
invariant-loop-folder l = l.made ++ map (λ folder. folder.now) (drop l.folder-index l.folders) ≡ map (λ folder. folder.now) l.folders
