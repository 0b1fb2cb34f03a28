use Rattle.std.proofs.Common.{◌≡◌, drop}
use Rattle.pb_data.specs.Table.{with_entries, table_of}
use Rattle.pb_mini.proofs.lookups.table_of.Given as goal

abbrev pub invariant-loop-pair : goal.invariant-loop-pair
invariant-loop-pair l = with_entries l.table (drop l.pair-index l.pairs) ≡ table_of l.pairs
