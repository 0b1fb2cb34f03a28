-- The laws of tables.
use Rattle.std.proofs.Common.{◌≡◌, ℕ, zero, suc, ◌+◌, List, [], ◌∷◌, ◌++◌, length, take, Some, refl, sym, ap, ◌∙◌, rules, arith, append_assoc, length-append, slice_get}
use Rattle.std.proofs.Math.Seq.{take-append_seam}
use Rattle.pb_run.specs.Outcome.{tabled, tabled_from}

-- what is done stays
pub tabled_grows : {U A : Type 0} (step : List A → U → A) (done : List A) (us : List U) → (rest : List A) × (tabled_from step done us ≡ done ++ rest)
tabled_grows step done [] = ([], search rules)
tabled_grows step done (u ∷ us) =
    let (rest, same) = tabled_grows step (done ++ step done u ∷ []) us in
    (step done u ∷ rest, same ∙ append_assoc done (step done u ∷ []) rest)

seam : {A : Type 0} (done : List A) (x : A) (rest : List A) → slice_get (done ++ x ∷ rest) (length done) ≡ Some x
seam [] x rest = refl
seam (y ∷ done) x rest = seam done x rest

seam_at : {A : Type 0} (done whole : List A) (x : A) (rest : List A) → whole ≡ done ++ x ∷ rest → slice_get whole (length done) ≡ Some x
seam_at done whole x rest same = ap (λ w. slice_get w (length done)) same ∙ seam done x rest

-- an entry, from those before it
pub tabled_from-unfold : {U A : Type 0} (step : List A → U → A) (done : List A) (us : List U) (i : ℕ) (u : U) → slice_get us i ≡ Some u → (n : ℕ) → n ≡ length done + i → slice_get (tabled_from step done us) n ≡ Some (step (take n (tabled_from step done us)) u)
tabled_from-unfold step done [] i u at n is = cc
tabled_from-unfold step done (v ∷ us) zero u at n is =
    let (rest, same) = tabled_grows step (done ++ step done v ∷ []) us in
    let whole = tabled_from step (done ++ step done v ∷ []) us in
    let split : whole ≡ done ++ step done v ∷ rest = same ∙ append_assoc done (step done v ∷ []) rest in
    let here : n ≡ length done = omega arith in
    let before : take n whole ≡ done = ap (λ k. take k whole) here ∙ ap (take (length done)) split ∙ take-append_seam done (step done v ∷ rest) in
    let which : v ≡ u = cc in
    ap (slice_get whole) here ∙ seam_at done whole (step done v) rest split ∙ ap (λ d. Some (step d v)) (sym before) ∙ ap (λ x. Some (step (take n whole) x)) which
tabled_from-unfold step done (v ∷ us) (suc i) u at n is =
    tabled_from-unfold step (done ++ step done v ∷ []) us i u at n (omega (arith, length-append done (step done v ∷ [])))

pub tabled-unfold : {U A : Type 0} (step : List A → U → A) (us : List U) (i : ℕ) (u : U) → slice_get us i ≡ Some u → slice_get (tabled step us) i ≡ Some (step (take i (tabled step us)) u)
tabled-unfold step us i u at = tabled_from-unfold step [] us i u at i (omega arith)

pub length-tabled_from : {U A : Type 0} (step : List A → U → A) (done : List A) (us : List U) → length (tabled_from step done us) ≡ length done + length us
length-tabled_from step done [] = omega arith
length-tabled_from step done (u ∷ us) = length-tabled_from step (done ++ step done u ∷ []) us ∙ omega (arith, length-append done (step done u ∷ []))
