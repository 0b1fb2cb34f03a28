-- The rows of units, one after another.
use Rattle.std.proofs.Common.{◌≡◌, ◌∙◌, ◌++◌, List, [], ◌∷◌, ℕ, zero, suc, Some, None, refl, ap, slice_get, drop}
use Rattle.pb_tool_preview.specs.Telling.{row_at, rows_of}
use Rattle.pb_tool_preview.specs.declared.fate.Fate.{Fate}
use Rattle.pb_unit.specs.declared.plan.Planned.{Planned}

clash : {A : Type 0} {x : A} → None ≡ Some x → ⊥
clash e = cc

injective : {A : Type 0} {x y : A} → Some x ≡ Some y → x ≡ y
injective e = cc

first_of : {A : Type 0} (xs : List A) (i : ℕ) → slice_get (drop i xs) 0 ≡ slice_get xs i
first_of [] zero = refl
first_of [] (suc i) = refl
first_of (x ∷ xs) zero = refl
first_of (x ∷ xs) (suc i) = first_of xs i

rest_of : {A : Type 0} (xs : List A) (i : ℕ) → drop 1 (drop i xs) ≡ drop (suc i) xs
rest_of [] zero = refl
rest_of [] (suc i) = refl
rest_of (x ∷ xs) zero = refl
rest_of (x ∷ xs) (suc i) = rest_of xs i

taken : (all units : List Planned) (others : List Fate) (i : ℕ) (unit : Planned) → slice_get units i ≡ Some unit → rows_of all (drop i units) others ≡ row_at all unit.key (slice_get others 0) ++ rows_of all (drop (suc i) units) (drop 1 others)
taken all [] others i unit at = absurd (clash at)
taken all (u ∷ units) others zero unit at = ap (λ (x : Planned). row_at all x.key (slice_get others 0) ++ rows_of all units (drop 1 others)) (injective at)
taken all (u ∷ units) others (suc i) unit at = taken all units others i unit at

pub one_unit : (all units : List Planned) (fates : List Fate) (i : ℕ) (unit : Planned) → slice_get units i ≡ Some unit
    → rows_of all (drop i units) (drop i fates) ≡ row_at all unit.key (slice_get fates i) ++ rows_of all (drop (suc i) units) (drop (suc i) fates)
one_unit all units fates i unit at =
    taken all units (drop i fates) i unit at
    ∙ ap (λ f. row_at all unit.key f ++ rows_of all (drop (suc i) units) (drop 1 (drop i fates))) (first_of fates i)
    ∙ ap (λ fs. row_at all unit.key (slice_get fates i) ++ rows_of all (drop (suc i) units) fs) (rest_of fates i)
