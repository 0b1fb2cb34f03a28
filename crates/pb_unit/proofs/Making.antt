-- Units of the plan, made of steps one after another.
use Rattle.std.proofs.Common.{◌≡◌, suc, List, [], ◌∷◌, ◌++◌, All, sym, ap, subst, ◌∙◌, arith, append_assoc}
use Rattle.std.specs.List.{AllZip}

-- what holds of all holds of the rest, and of the first
pub rest_all : {A : Type 0} (P : A → Type 0) (old rest : List A) (x : A) → old ≡ x ∷ rest → All P old → All P rest
rest_all P old rest x cut all =
    let whole : All P (x ∷ rest) = subst (λ xs. All P xs) cut all in
    λ k d lt. whole (suc k) d (omega arith)

pub first_all : {A : Type 0} (P : A → Type 0) (old rest : List A) (x : A) → old ≡ x ∷ rest → All P old → P x
first_all P old rest x cut all =
    let whole : All P (x ∷ rest) = subst (λ xs. All P xs) cut all in
    whole 0 x (omega arith)

-- one more is made
pub one_made : {A B : Type 0} (R : A → B → Type 0) (whole old rest : List A) (made now_made : List B) (x : A) (y : B) → old ≡ x ∷ rest → now_made ≡ made ++ y ∷ [] → R x y
    → ((more : List B) → AllZip R old more → AllZip R whole (made ++ more)) → (more : List B) → AllZip R rest more → AllZip R whole (now_made ++ more)
one_made R whole old rest made now_made x y cut pushed is before more h =
    let e : now_made ++ more ≡ made ++ (y ∷ more) = ap (λ l. l ++ more) pushed ∙ append_assoc made (y ∷ []) more in
    subst (λ l. AllZip R whole l) (sym e) (before (y ∷ more) (subst (λ l. AllZip R l (y ∷ more)) (sym cut) (is, h)))

-- all are made
pub all_made : {A B : Type 0} (R : A → B → Type 0) (whole old : List A) (made : List B) → old ≡ [] → made ++ [] ≡ made → ((more : List B) → AllZip R old more → AllZip R whole (made ++ more)) → AllZip R whole made
all_made R whole old made none same before = subst (λ l. AllZip R whole l) same (before [] (subst (λ l. AllZip R l []) (sym none) tt))
