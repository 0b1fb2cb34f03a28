use Rattle.std.proofs.Common.{◌≡◌, ◌++◌}
use Rattle.std.specs.List.{flat_map, AllByRecursion}
use Rattle.std.specs.Vec.Iter.{into_iter_items}
use Rattle.pb_record.proofs.put.put_items.Given as goal

abbrev pub invariant-loop-item : goal.invariant-loop-item
invariant-loop-item g l = record {
  added : l.out ++ flat_map g.T.Part.spelled (into_iter_items l.item-iterator) ≡ l.fn.out ++ flat_map g.T.Part.spelled l.fn.items;
  are : AllByRecursion g.T.Part.is_part (into_iter_items l.item-iterator) → AllByRecursion g.T.Part.is_part l.fn.items;
}
