-- What a loop has placed so far.
use Rattle.std.proofs.Common.{◌≡◌, ◌∙◌, ◌<◌, ◌≤◌, ◌+◌, ◌∷◌, ◌++◌, ℕ, List, length, drop, slice_index_or, sym, ap, append_assoc, append-nil}
use Rattle.std.proofs.lemmas.List.{drop_more, drop_all}
use Rattle.pb_graph.specs.Placed.{placed}

-- the rest begins with the element
pub rest_here : {A : Type 0} (xs : List A) (i : ℕ) (x : A) → i < length xs → x ≡ slice_index_or xs i x → drop i xs ≡ x ∷ drop (i + 1) xs
rest_here xs i x lt at = drop_more xs i x lt ∙ ap (λ y. y ∷ drop (i + 1) xs) (sym at)

pub placed_more : {A B : Type 0} (f : ℕ → A → List B) (xs : List A) (i : ℕ) (x : A) (out new whole : List B) → drop i xs ≡ x ∷ drop (i + 1) xs → new ≡ out ++ f i x
    → out ++ placed f i (drop i xs) ≡ whole → new ++ placed f (i + 1) (drop (i + 1) xs) ≡ whole
placed_more f xs i x out new whole rest is so_far = rw (is, append_assoc) (rw rest at so_far)

pub placed_all : {A B : Type 0} (f : ℕ → A → List B) (xs : List A) (i : ℕ) (out whole : List B) → length xs ≤ i → out ++ placed f i (drop i xs) ≡ whole → out ≡ whole
placed_all f xs i out whole past so_far = rw (drop_all i xs past, append-nil) at so_far
