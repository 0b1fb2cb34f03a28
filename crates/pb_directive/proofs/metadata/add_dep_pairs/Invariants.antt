use Rattle.std.proofs.Common.{◌≡◌, drop}
use Rattle.pb_data.specs.Table.{with_entries}
use Rattle.pb_directive.specs.Metadata.{passed}
use Rattle.pb_directive.proofs.metadata.add_dep_pairs.Given as goal

abbrev pub invariant-loop-directive : goal.invariant-loop-directive
invariant-loop-directive l = with_entries l.after (passed l.links (drop l.directive-index l.directive-items)) ≡ with_entries l.fn.pairs (passed l.links l.directive-items)
