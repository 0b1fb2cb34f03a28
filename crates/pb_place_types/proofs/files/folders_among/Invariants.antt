use Rattle.std.proofs.Common.{◌≡◌, drop, map}
use Rattle.std.specs.List.{fold}
use Rattle.pb_place_types.specs.World.{folder_towards, folders_among, with_new}
use Rattle.pb_place_types.proofs.files.folders_among.Given as goal

abbrev pub invariant-loop-path : goal.invariant-loop-path
invariant-loop-path l = fold with_new l.folders (map (folder_towards l.folder) (drop l.path-index l.paths)) ≡ folders_among l.folder l.paths
