-- A list that is no pair.
use Rattle.std.proofs.Common.{◌≡◌, ◌<◌, List, [], ◌∷◌, length, Err, refl, arith}
use Rattle.serde_json.specs.View.{items_view}
use Rattle.serde_json.specs.declared.value.Value.{Value}
use Rattle.pb_build_session.specs.Values.{pair_in}
use Rattle.pb_build_session.specs.declared.fault.BadSession.TheVariants.{BadForm}

pub too_short : (vs : List Value) → length vs < 2 → pair_in (items_view vs) ≡ Err BadForm
too_short [] h = refl
too_short (a ∷ []) h = refl
too_short (a ∷ b ∷ vs) h = absurd (omega arith)

pub too_long : (vs : List Value) → 2 < length vs → pair_in (items_view vs) ≡ Err BadForm
too_long [] h = refl
too_long (a ∷ []) h = refl
too_long (a ∷ b ∷ []) h = absurd (omega arith)
too_long (a ∷ b ∷ c ∷ vs) h = refl

pub ruleset pair_laws = (too_short, too_long)
