-- A step of a loop over what each of a list gives by its index alone.
use Rattle.std.proofs.Common.{◌≡◌, ℕ, ◌+◌, ◌<◌, List, ◌++◌, length, get_or, drop, sym, ◌∙◌, ap}
use Rattle.std.proofs.lemmas.List.{drop_more, append_assoc}
use Rattle.pb_graph.specs.Placed.{placed}
use Rattle.pb_feature.proofs.Sound.{one_at}

pub placed_step : {A B : Type 0} (g : ℕ → A → List B) (xs : List A) (ys zs all w : List B) (i : ℕ) → i < length xs → ((x : A) → g i x ≡ w)
    → ys ++ placed g i (drop i xs) ≡ all → zs ≡ ys ++ w → zs ++ placed g (i + 1) (drop (i + 1) xs) ≡ all
placed_step g xs ys zs all w i lt same before grown =
    let e = one_at xs i lt in
    let rest : List _ = placed g (i + 1) (drop (i + 1) xs) in
    ap (λ vs. vs ++ rest) grown ∙ append_assoc ys w rest ∙ ap (λ vs. ys ++ (vs ++ rest)) (sym (same (get_or xs i e.0))) ∙ ap (λ vs. ys ++ placed g i vs) (sym (drop_more xs i e.0 lt)) ∙ before
