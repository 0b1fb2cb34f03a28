-- What a look into a slice says of the element there.
use Rattle.std.proofs.Common.{◌≡◌, ℕ, List, length, slice_get, slice_index_or, nat_lt, true, false, Some, None, sym, refl}
use Rattle.std.proofs.lemmas.Bool.{ltb-true, ltb-false}
use Rattle.std.proofs.lemmas.Option.{slice_get_past, slice_get_read}

pub looked_past : {A : Type 0} (xs : List A) (i : ℕ) → false ≡ nat_lt i (length xs) → slice_get xs i ≡ None
looked_past xs i e = slice_get_past xs i (ltb-false i (length xs) (sym e))

pub looked_within : {A : Type 0} (xs : List A) (i : ℕ) (x : A) → true ≡ nat_lt i (length xs) → x ≡ slice_index_or xs i x → slice_get xs i ≡ Some x
looked_within xs i x e is = slice_get_read xs (length xs) i x refl (ltb-true i (length xs) (sym e)) is
