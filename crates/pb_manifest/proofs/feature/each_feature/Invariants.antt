use Rattle.std.proofs.Common.{◌≡◌, ◌++◌, Ok}
use Rattle.toml.specs.View.{members_view, table_view}
use Rattle.pb_data.specs.UnlessOom.{◌>>=◌}
use Rattle.pb_manifest.specs.Values.{each_entry}
use Rattle.pb_manifest.specs.Features.{feature_of}
use Rattle.pb_manifest.proofs.feature.each_feature.Given as goal

abbrev pub invariant-loop-name : goal.invariant-loop-name
invariant-loop-name l = (each_entry feature_of (members_view l.name-iterator) >>= (λ rest. Ok (l.features ++ rest))) ≡ each_entry feature_of (table_view l.table)
