-- What a loop over a slice says of the elements before it and behind.
use Rattle.std.proofs.Common.{◌≡◌, ◌∙◌, ◌<◌, ◌+◌, ◌∷◌, ◌++◌, [], ℕ, List, map, take, length, slice_index_or, drop, Bool, not, Option, Some, None, is_some, is_none, ap, sym}
use Rattle.std.proofs.lemmas.List.{drop_more, take_more, map-append}

-- in a loop, the rest begins with the element
pub rest_here : {A : Type 0} (xs : List A) (i : ℕ) (x y : A) → i < length xs → x ≡ slice_index_or xs i x → x ≡ y → drop i xs ≡ y ∷ drop (i + 1) xs
rest_here xs i x y lt is at = drop_more xs i x lt ∙ ap (λ z. z ∷ drop (i + 1) xs) (sym is ∙ at)

-- what `is_some` said is what `is_none` says not
pub none_when : {A : Type 0} (o : Option A) (said b : Bool) → said ≡ is_some o → said ≡ b → is_none o ≡ not b
none_when None said b e at = ap not (sym e ∙ at)
none_when (Some x) said b e at = ap not (sym e ∙ at)

-- one more of what is the same for each
pub same_more : {A B : Type 0} (y : B) (xs : List A) (i : ℕ) (x : A) (ys zs : List B) → i < length xs → ys ≡ map (λ _. y) (take i xs) → zs ≡ ys ++ y ∷ [] → zs ≡ map (λ _. y) (take (i + 1) xs)
same_more y xs i x ys zs lt at is = rw (is, at, take_more xs i x lt, map-append)
