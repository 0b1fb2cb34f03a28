use Rattle.std.proofs.Common.{◌≡◌, ◌++◌, map}
use Rattle.std.specs.Vec.Iter.{into_iter_items}
use Rattle.pb_workspace.specs.Assembled.{entry_at}
use Rattle.pb_workspace.proofs.assembled.entries_of.Given as goal

abbrev pub invariant-loop-one : goal.invariant-loop-one
invariant-loop-one l = l.entries ++ map (entry_at l.indices) (into_iter_items l.one-iterator) ≡ map (entry_at l.indices) l.fn.wanted
