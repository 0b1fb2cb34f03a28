-- Lemmas on lists that are added to, unless there was a fault.
use Rattle.std.proofs.Common.{◌≡◌, List, [], ◌∷◌, ◌++◌, Ok, Err, Result, refl, sym, ◌∙◌, ap, append_assoc}
use Rattle.pb_data.specs.UnlessOom.{◌>>=◌, lifted}

-- one item put in front of the rest is one added behind what is done
pub then_push : {A E : Type 0} (r : Result (List A) E) (done new : List A) (x : A) → new ≡ done ++ x ∷ []
    → ((r >>= (λ more. Ok (x ∷ more))) >>= (λ more. Ok (done ++ more))) ≡ (r >>= (λ more. Ok (new ++ more)))
then_push (Ok more) done new x is = ap Ok (sym (ap (λ n. n ++ more) is ∙ append_assoc done (x ∷ []) more))
then_push (Err e) done new x is = refl

-- the same of several items
pub then_append : {A E : Type 0} (r : Result (List A) E) (done new xs : List A) → new ≡ done ++ xs
    → ((r >>= (λ more. Ok (xs ++ more))) >>= (λ more. Ok (done ++ more))) ≡ (r >>= (λ more. Ok (new ++ more)))
then_append (Ok more) done new xs is = ap Ok (sym (ap (λ n. n ++ more) is ∙ append_assoc done xs more))
then_append (Err e) done new xs is = refl

-- a fault of what was made from an answer is the answer's
pub then_err : {A B E : Type 0} (r : Result A E) (f : A → B) (e : E) → (r >>= (λ x. Ok (f x))) ≡ Err e → r ≡ Err e
then_err (Ok x) f e is = absurd (cc)
then_err (Err d) f e is =
    let same : d ≡ e = cc in
    ap Err same

-- what a line gave was added, and the later lines are still to come
pub then_line : {A E F : Type 0} (wrap : E → F) (r : Result (List A) E) (later : Result (List A) F) (done new : List A) → (r >>= (λ more. Ok (done ++ more))) ≡ Ok new
    → ((lifted wrap r >>= (λ here. later >>= (λ more. Ok (here ++ more)))) >>= (λ more. Ok (done ++ more))) ≡ (later >>= (λ more. Ok (new ++ more)))
then_line wrap (Ok here) later done new added =
    let is : new ≡ done ++ here = cc in
    then_append later done new here is
then_line wrap (Err e) later done new added = absurd (cc)
