-- What holds of each of the first elements of a list, one element further.
use Rattle.std.proofs.Common.{◌≡◌, ◌∙◌, ◌<◌, ◌≤◌, ◌+◌, ◌++◌, ◌∷◌, ℕ, suc, All, List, [], take, get_or, length, sym, ap, subst, arith}
use Rattle.std.proofs.Math.Seq.{take-suc}
use Rattle.std.proofs.lemmas.List.{take_all}
use Rattle.std.proofs.lemmas.List.Elements.{All-push}

pub all_next : {A : Type 0} (P : A → Type 0) (xs : List A) (i : ℕ) (x : A) → i < length xs → x ≡ get_or xs i x → All P (take i xs) → P x → All P (take (i + 1) xs)
all_next P xs i x lt is all here =
    let next : suc i ≡ i + 1 = omega arith in
    subst (λ n. All P (take n xs)) next (subst (λ ys. All P ys) (sym (take-suc xs i x lt ∙ ap (λ y. take i xs ++ y ∷ []) (sym is))) (All-push P (take i xs) x all here))

pub all_of : {A : Type 0} (P : A → Type 0) (xs : List A) (i : ℕ) → length xs ≤ i → All P (take i xs) → All P xs
all_of P xs i end all = subst (λ ys. All P ys) (take_all i xs end) all
