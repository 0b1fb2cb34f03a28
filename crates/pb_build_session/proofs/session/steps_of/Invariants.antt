use Rattle.std.proofs.Common.{◌≡◌, ◌++◌, drop, Ok}
use Rattle.serde_json.specs.View.{items_view}
use Rattle.pb_data.specs.UnlessOom.{◌>>=◌}
use Rattle.pb_build_session.specs.Sessions.{steps_of}
use Rattle.pb_build_session.proofs.session.steps_of.Given as goal

abbrev pub invariant-loop-value : goal.invariant-loop-value
invariant-loop-value l = (steps_of (items_view (drop l.value-index l.values)) >>= (λ rest. Ok (l.steps ++ rest))) ≡ steps_of (items_view l.values)
