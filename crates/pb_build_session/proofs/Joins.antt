-- Steps of some values and then of others.
use Rattle.std.proofs.Common.{◌≡◌, List, [], ◌∷◌, ◌++◌, Ok, Err, refl, ap, ◌∙◌}
use Rattle.serde_json.specs.Data.{Data}
use Rattle.serde_json.specs.View.{items_of}
use Rattle.pb_data.specs.UnlessOom.{◌>>=◌}
use Rattle.pb_build_session.specs.Faults.{Read}
use Rattle.pb_build_session.specs.Laws.{both}
use Rattle.pb_build_session.specs.Sessions.{step_of, steps_of}
use Rattle.pb_build_session.specs.declared.step.SessionStep.{SessionStep}

abbrev before : Read SessionStep → Read (List SessionStep) → Read (List SessionStep)
before first rest = first >>= (λ step. rest >>= (λ steps. Ok (step ∷ steps)))

none_before : (rest : Read (List SessionStep)) → rest ≡ both (Ok []) rest
none_before (Ok steps) = refl
none_before (Err e) = refl

one_before : (first : Read SessionStep) (some more : Read (List SessionStep)) → before first (both some more) ≡ both (before first some) more
one_before (Err e) some more = refl
one_before (Ok step) (Err e) more = refl
one_before (Ok step) (Ok steps) (Err e) = refl
one_before (Ok step) (Ok steps) (Ok others) = refl

pub steps_join : (ds es : List Data) → steps_of (items_of (ds ++ es)) ≡ both (steps_of (items_of ds)) (steps_of (items_of es))
steps_join [] es = none_before (steps_of (items_of es))
steps_join (d ∷ ds) es = ap (before (step_of d)) (steps_join ds es) ∙ one_before (step_of d) (steps_of (items_of ds)) (steps_of (items_of es))
