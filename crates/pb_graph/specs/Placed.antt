-- A list that is made from the items of another list and their indices.
use Rattle.std.specs.Prelude.{ℕ, ◌+◌, List, [], ◌∷◌, ◌++◌}

-- what `f` makes of each item and its index, as one list; the first item has index `n`
abbrev pub placed : {A B : Type 0} → (ℕ → A → List B) → ℕ → List A → List B
placed f n [] = []
placed f n (x ∷ xs) = f n x ++ placed f (n + 1) xs
