use Rattle.std.proofs.Common.{◌≡◌, ◌++◌, drop}
use Rattle.pb_workspace.specs.Selected.{indices_from, indices_where, is_named_member}
use Rattle.pb_workspace.proofs.selecting.members_named.Given as goal

abbrev pub invariant-loop-index : goal.invariant-loop-index
invariant-loop-index l = l.indices ++ indices_from (is_named_member l.names) l.index (drop l.index l.packages) ≡ indices_where (is_named_member l.names) l.packages
