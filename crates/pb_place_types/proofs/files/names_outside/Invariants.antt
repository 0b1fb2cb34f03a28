use Rattle.std.proofs.Common.{◌≡◌, ◌++◌, not}
use Rattle.std.specs.List.{filter}
use Rattle.std.specs.Vec.Iter.{into_iter_items}
use Rattle.pb_place_types.specs.Paths.{is_at_or_below}
use Rattle.pb_place_types.proofs.files.names_outside.Given as goal

abbrev pub invariant-loop-name : goal.invariant-loop-name
invariant-loop-name l = l.kept.items ++ filter (λ q. not (is_at_or_below l.left_out q)) (into_iter_items l.name-iterator) ≡ filter (λ q. not (is_at_or_below l.left_out q)) l.fn.names.items
