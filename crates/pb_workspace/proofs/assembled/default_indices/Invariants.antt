use Rattle.std.proofs.Common.{◌≡◌, ◌++◌, drop}
use Rattle.pb_workspace.specs.Assembled.{is_default}
use Rattle.pb_workspace.specs.Selected.{indices_from, indices_where}
use Rattle.pb_workspace.proofs.assembled.default_indices.Given as goal

abbrev pub invariant-loop-index : goal.invariant-loop-index
invariant-loop-index l = l.indices ++ indices_from (is_default l.root l.texts) l.index (drop l.index l.packages) ≡ indices_where (is_default l.root l.texts) l.packages
