use Rattle.std.proofs.Common.{◌≡◌, ◌++◌}
use Rattle.std.specs.Vec.Iter.{into_iter_items}
use Rattle.pb_workspace_package.proofs.settling.join_entries.Given as goal

abbrev pub invariant-loop-wanted : goal.invariant-loop-wanted
invariant-loop-wanted l = l.made ++ into_iter_items l.wanted-iterator ≡ l.fn.first ++ l.fn.second
