-- Needs the other way round.
use Rattle.std.proofs.Common.{◌≡◌, ◌∙◌, ◌++◌, ◌<◌, ◌+◌, ◌⊎◌, inl, inr, List, [], ◌∷◌, ℕ, zero, suc, refl, sym, ap, subst, arith, take, length, Contains}
use Rattle.std.specs.Prelude.{slice_set, slice_index_or, slice_index}
use Rattle.std.proofs.lemmas.Bool.{cases_eq}
use Rattle.std.proofs.lemmas.List.{take_more}
use Rattle.std.proofs.lemmas.List.Elements.{Contains-append_cases, Contains-append_left, Contains-append_right}
use Rattle.pb_run_flight.specs.Working.{units_at, AreListed}
use Rattle.pb_run_flight.proofs.Lists.{contains_head, contains_cases, contains_none}

pub units_set_same : (lists : List (List ℕ)) (n : ℕ) (xs : List ℕ) → n < length lists → units_at (slice_set lists n xs) n ≡ xs
units_set_same [] n xs lt = absurd (omega (arith, lt))
units_set_same (l ∷ lists) zero xs lt = refl
units_set_same (l ∷ lists) (suc n) xs lt = units_set_same lists n xs (omega (arith, lt))

pub units_set_other : (lists : List (List ℕ)) (n v : ℕ) (xs : List ℕ) → (n ≡ v → ⊥) → units_at (slice_set lists n xs) v ≡ units_at lists v
units_set_other [] n v xs ne = refl
units_set_other (l ∷ lists) zero zero xs ne = absurd (ne refl)
units_set_other (l ∷ lists) zero (suc v) xs ne = refl
units_set_other (l ∷ lists) (suc n) zero xs ne = refl
units_set_other (l ∷ lists) (suc n) (suc v) xs ne = units_set_other lists n v xs (λ e. ne (ap suc e))

-- a list that is put in the place of one keeps what is listed, where it has what that one had
pub set_kept : (lists : List (List ℕ)) (n : ℕ) (xs : List ℕ) → n < length lists → ((u : ℕ) → Contains (units_at lists n) u → Contains xs u) → (u v : ℕ) → Contains (units_at lists v) u → Contains (units_at (slice_set lists n xs) v) u
set_kept lists n xs lt more u v h = elim (cases_eq n v) [
  | inl same ↦ subst (λ w. Contains (units_at (slice_set lists n xs) w) u) same (subst (λ ys. Contains ys u) (sym (units_set_same lists n xs lt)) (more u (subst (λ w. Contains (units_at lists w) u) (sym same) h)))
  | inr ne ↦ subst (λ ys. Contains ys u) (sym (units_set_other lists n v xs ne)) h
]

pub push_has : (xs : List ℕ) (u : ℕ) → Contains (xs ++ u ∷ []) u
push_has xs u = Contains-append_right xs (u ∷ []) u (contains_head u [])

pub any_default : {X : Type 0} (xs : List X) (i : ℕ) (d x : X) → i < length xs → x ≡ slice_index_or xs i x → slice_index_or xs i d ≡ x
any_default [] i d x lt at = absurd (omega (arith, lt))
any_default (y ∷ xs) zero d x lt at = sym at
any_default (y ∷ xs) (suc i) d x lt at = any_default xs i d x (omega (arith, lt)) at

-- what the first one more contain
pub take_cases : (xs : List ℕ) (k v : ℕ) → k < length xs → Contains (take (k + 1) xs) v → Contains (take k xs) v ⊎ (slice_index xs k ≡ v)
take_cases xs k v lt h = elim (Contains-append_cases (take k xs) (slice_index xs k ∷ []) v (subst (λ ys. Contains ys v) (take_more xs k 0 lt) h)) [
  | inl before ↦ inl before
  | inr here ↦ elim (contains_cases (slice_index xs k) [] v here) [ inl e ↦ inr e | inr none ↦ absurd (contains_none v none) ]
]

-- one unit more is listed
pub listed_more : (needs : List (List ℕ)) (k : ℕ) (wanted : List ℕ) (old new : List (List ℕ)) → k < length needs → wanted ≡ slice_index_or needs k wanted → AreListed needs k old → length new ≡ length old
    → ((v : ℕ) → Contains wanted v → v < length old → Contains (units_at new v) k) → ((u v : ℕ) → Contains (units_at old v) u → Contains (units_at new v) u) → AreListed needs (k + 1) new
listed_more needs k wanted old new lt at listed long here kept = record { each = λ u v less need within. by u v less need (omega (arith, long, within)) }
  where
    by : (u v : ℕ) → u < k + 1 → Contains (units_at needs u) v → v < length old → Contains (units_at new v) u
    by u v less need within = elim (cases_eq u k) [
      | inl same ↦ subst (Contains (units_at new v)) (sym same) (here v (subst (λ ws. Contains ws v) (ap (units_at needs) same ∙ any_default needs k [] wanted lt at) need) within)
      | inr ne ↦ kept u v (listed.each u v (omega (arith, less, ne)) need within)
    ]

-- a unit pushed to a list keeps what is listed
pub push_kept : (lists : List (List ℕ)) (n : ℕ) (old new : List ℕ) (unit : ℕ) → n < length lists → old ≡ slice_index_or lists n old → new ≡ old ++ unit ∷ [] → (u v : ℕ) → Contains (units_at lists v) u → Contains (units_at (slice_set lists n new) v) u
push_kept lists n old new unit lt at is u v h =
    set_kept lists n new lt (λ w k. subst (λ xs. Contains xs w) (sym is) (Contains-append_left old (unit ∷ []) w (subst (λ xs. Contains xs w) (any_default lists n [] old lt at) k))) u v h
