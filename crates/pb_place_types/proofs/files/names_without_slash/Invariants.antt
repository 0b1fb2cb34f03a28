use Rattle.std.proofs.Common.{◌≡◌, ◌==◌, ◌+◌, ◌++◌, not, length, drop}
use Rattle.std.specs.List.{filter, list_any}
use Rattle.std.specs.Vec.Iter.{into_iter_items}
use Rattle.pb_place_types.specs.Paths.{stem}
use Rattle.pb_place_types.proofs.files.names_without_slash.Given as goal

abbrev pub invariant-loop-name : goal.invariant-loop-name
invariant-loop-name l = l.kept.items ++ filter (λ q. not (list_any (λ b. b == 47) (drop (length (stem l.folder) + 1) q))) (into_iter_items l.name-iterator) ≡ filter (λ q. not (list_any (λ b. b == 47) (drop (length (stem l.folder) + 1) q))) l.fn.names.items
