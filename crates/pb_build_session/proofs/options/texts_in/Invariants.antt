use Rattle.std.proofs.Common.{◌≡◌, ◌++◌, drop, Ok}
use Rattle.serde_json.specs.View.{items_view}
use Rattle.pb_data.specs.UnlessOom.{◌>>=◌}
use Rattle.pb_build_session.specs.Options.{texts_in}
use Rattle.pb_build_session.proofs.options.texts_in.Given as goal

abbrev pub invariant-loop-value : goal.invariant-loop-value
invariant-loop-value l = (texts_in (items_view (drop l.value-index l.values)) >>= (λ rest. Ok (l.texts ++ rest))) ≡ texts_in (items_view l.values)
