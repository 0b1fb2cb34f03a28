use Rattle.std.proofs.Common.{◌≡◌, ◌++◌, drop, Ok}
use Rattle.toml.specs.View.{items_view}
use Rattle.pb_data.specs.UnlessOom.{◌>>=◌}
use Rattle.pb_manifest.specs.Values.{each}
use Rattle.pb_manifest.specs.Features.{feature_item_of}
use Rattle.pb_manifest.proofs.feature.each_feature_item.Given as goal

abbrev pub invariant-loop-value : goal.invariant-loop-value
invariant-loop-value l = (each feature_item_of (items_view (drop l.value-index l.values)) >>= (λ rest. Ok (l.items ++ rest))) ≡ each feature_item_of (items_view l.values)
