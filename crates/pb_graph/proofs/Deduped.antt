-- How many items are left where neighbours that are equal are dropped.
use Rattle.std.proofs.Common.{◌≤◌, ◌+◌, Bool, List, [], ◌∷◌, length, arith, inl, inr}
use Rattle.std.specs.List.{dedup, dedup_from}
use Rattle.std.specs.List.Sorted.{IsPermutation}
use Rattle.std.proofs.lemmas.Bool.{cases_Bool}
use Rattle.std.proofs.lemmas.List.Sorted.{length_permutation}

from_le : {A : Type 0} (same : A → A → Bool) (k : A) (xs : List A) → length (dedup_from same k xs) ≤ length xs + 1
from_le same k [] = omega arith
from_le same k (x ∷ xs) = elim (cases_Bool (same x k)) [
  | inl dropped ↦ rw dropped (omega (arith, from_le same k xs))
  | inr kept ↦ rw kept (omega (arith, from_le same x xs))
]

dedup_le : {A : Type 0} (same : A → A → Bool) (xs : List A) → length (dedup same xs) ≤ length xs
dedup_le same [] = omega arith
dedup_le same (x ∷ xs) = omega (arith, from_le same x xs)

pub few_left : {A : Type 0} (same : A → A → Bool) (old sorted : List A) → IsPermutation old sorted → length (dedup same sorted) ≤ length old
few_left same old sorted moved = omega (arith, dedup_le same sorted, length_permutation old sorted moved)
