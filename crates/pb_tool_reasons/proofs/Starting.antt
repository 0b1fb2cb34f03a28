-- The rows of the units that were started, one after another.
use Rattle.std.proofs.Common.{◌≡◌, ◌∙◌, ◌++◌, List, [], ◌∷◌, ℕ, zero, suc, Some, None, refl, ap, slice_get, drop}
use Rattle.pb_tool_reasons.specs.Started.{row_if, rows_of}
use Rattle.pb_store.specs.declared.difference.Difference.{Difference}
use Rattle.pb_tool_reasons.specs.declared.detail.Detail.{Detail}

clash : {A : Type 0} {x : A} → None ≡ Some x → ⊥
clash e = cc

injective : {A : Type 0} {x y : A} → Some x ≡ Some y → x ≡ y
injective e = cc

first_of : {A : Type 0} (xs : List A) (i : ℕ) → slice_get (drop i xs) 0 ≡ slice_get xs i
first_of [] zero = refl
first_of [] (suc i) = refl
first_of (x ∷ xs) zero = refl
first_of (x ∷ xs) (suc i) = first_of xs i

rest_of : {A : Type 0} (xs : List A) (i : ℕ) → drop 1 (drop i xs) ≡ drop (suc i) xs
rest_of [] zero = refl
rest_of [] (suc i) = refl
rest_of (x ∷ xs) zero = refl
rest_of (x ∷ xs) (suc i) = rest_of xs i

taken : (keys : List (List ℕ)) (others : List Difference) (more : List Detail) (i : ℕ) (key : List ℕ) → slice_get keys i ≡ Some key
    → rows_of (drop i keys) others more ≡ row_if key (slice_get others 0) (slice_get more 0) ++ rows_of (drop (suc i) keys) (drop 1 others) (drop 1 more)
taken [] others more i key at = absurd (clash at)
taken (k ∷ keys) others more zero key at = ap (λ x. row_if x (slice_get others 0) (slice_get more 0) ++ rows_of keys (drop 1 others) (drop 1 more)) (injective at)
taken (k ∷ keys) others more (suc i) key at = taken keys others more i key at

pub one_row : (keys : List (List ℕ)) (differences : List Difference) (details : List Detail) (i : ℕ) (key : List ℕ) → slice_get keys i ≡ Some key
    → rows_of (drop i keys) (drop i differences) (drop i details)
    ≡ row_if key (slice_get differences i) (slice_get details i) ++ rows_of (drop (suc i) keys) (drop (suc i) differences) (drop (suc i) details)
one_row keys differences details i key at =
    taken keys (drop i differences) (drop i details) i key at
    ∙ ap (λ d. row_if key d (slice_get (drop i details) 0) ++ rows_of (drop (suc i) keys) (drop 1 (drop i differences)) (drop 1 (drop i details))) (first_of differences i)
    ∙ ap (λ e. row_if key (slice_get differences i) e ++ rows_of (drop (suc i) keys) (drop 1 (drop i differences)) (drop 1 (drop i details))) (first_of details i)
    ∙ ap (λ ds. row_if key (slice_get differences i) (slice_get details i) ++ rows_of (drop (suc i) keys) ds (drop 1 (drop i details))) (rest_of differences i)
    ∙ ap (λ es. row_if key (slice_get differences i) (slice_get details i) ++ rows_of (drop (suc i) keys) (drop (suc i) differences) es) (rest_of details i)
