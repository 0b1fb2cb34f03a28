use Rattle.std.proofs.Common.{◌≡◌, ◌++◌, drop, Ok}
use Rattle.toml.specs.View.{items_view}
use Rattle.pb_data.specs.UnlessOom.{◌>>=◌}
use Rattle.pb_manifest.specs.Values.{each, path_of}
use Rattle.pb_manifest.proofs.values.each_path.Given as goal

abbrev pub invariant-loop-value : goal.invariant-loop-value
invariant-loop-value l = (each (path_of l.key) (items_view (drop l.value-index l.values)) >>= (λ rest. Ok (l.paths ++ rest))) ≡ each (path_of l.key) (items_view l.values)
