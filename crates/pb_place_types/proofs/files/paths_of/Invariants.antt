use Rattle.std.proofs.Common.{◌≡◌, ◌++◌, true}
use Rattle.std.specs.List.{list_all}
use Rattle.std.specs.Vec.Iter.{into_iter_items}
use Rattle.pb_place_types.specs.Paths.{is_path}
use Rattle.pb_place_types.proofs.files.paths_of.Given as goal

abbrev pub invariant-loop-name : goal.invariant-loop-name
invariant-loop-name l = record {
  all : list_all is_path (into_iter_items l.name-iterator) ≡ true;
  same : l.paths ++ into_iter_items l.name-iterator ≡ l.fn.names.items;
}
