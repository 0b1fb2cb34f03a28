use Rattle.std.proofs.Common.{◌≡◌, ◌++◌}
use Rattle.std.specs.Prelude.{filter}
use Rattle.std.specs.Vec.Iter.{into_iter_items}
use Rattle.pb_place_types.specs.Paths.{last_part}
use Rattle.pb_workspace.specs.Globs.{matches}
use Rattle.pb_workspace.proofs.member_folders.folders_matching.Given as goal

abbrev pub invariant-loop-folder : goal.invariant-loop-folder
invariant-loop-folder l = l.named ++ filter (λ folder. matches l.pattern (last_part folder)) (into_iter_items l.folder-iterator) ≡ filter (λ folder. matches l.pattern (last_part folder)) l.fn.folders
