use Rattle.std.proofs.Common.{◌≡◌, ◌++◌, Ok}
use Rattle.toml.specs.View.{members_view, table_view}
use Rattle.pb_data.specs.UnlessOom.{◌>>=◌}
use Rattle.pb_manifest.specs.Values.{each_entry}
use Rattle.pb_manifest.specs.Dependencies.{dependency_of}
use Rattle.pb_manifest.proofs.dependency.each_dependency.Given as goal

abbrev pub invariant-loop-name : goal.invariant-loop-name
invariant-loop-name l = (each_entry (dependency_of l.key) (members_view l.name-iterator) >>= (λ rest. Ok (l.dependencies ++ rest))) ≡ each_entry (dependency_of l.key) (table_view l.table)
