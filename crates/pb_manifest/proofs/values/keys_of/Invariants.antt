use Rattle.std.proofs.Common.{◌≡◌, ◌++◌}
use Rattle.toml.specs.View.{members_view, table_view}
use Rattle.pb_manifest.specs.Values.{keys_of}
use Rattle.pb_manifest.proofs.values.keys_of.Given as goal

abbrev pub invariant-loop-name : goal.invariant-loop-name
invariant-loop-name l = l.keys ++ keys_of (members_view l.name-iterator) ≡ keys_of (table_view l.table)
