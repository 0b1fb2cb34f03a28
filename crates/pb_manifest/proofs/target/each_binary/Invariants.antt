use Rattle.std.proofs.Common.{◌≡◌, ◌++◌, drop, Ok}
use Rattle.toml.specs.View.{items_view}
use Rattle.pb_data.specs.UnlessOom.{◌>>=◌}
use Rattle.pb_manifest.specs.Values.{each}
use Rattle.pb_manifest.specs.Binaries.{binary_of}
use Rattle.pb_manifest.proofs.target.each_binary.Given as goal

abbrev pub invariant-loop-value : goal.invariant-loop-value
invariant-loop-value l = (each binary_of (items_view (drop l.value-index l.values)) >>= (λ rest. Ok (l.binaries ++ rest))) ≡ each binary_of (items_view l.values)
