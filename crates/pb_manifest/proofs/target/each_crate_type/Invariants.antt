use Rattle.std.proofs.Common.{◌≡◌, ◌++◌, drop, Ok}
use Rattle.toml.specs.View.{items_view}
use Rattle.pb_data.specs.UnlessOom.{◌>>=◌}
use Rattle.pb_manifest.specs.Values.{each}
use Rattle.pb_manifest.specs.Library.{crate_type_of}
use Rattle.pb_manifest.proofs.target.each_crate_type.Given as goal

abbrev pub invariant-loop-value : goal.invariant-loop-value
invariant-loop-value l = (each crate_type_of (items_view (drop l.value-index l.values)) >>= (λ rest. Ok (l.crate_types ++ rest))) ≡ each crate_type_of (items_view l.values)
