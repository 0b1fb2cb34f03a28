-- Variables that are sorted by name.
use Rattle.std.specs.Prelude.{ℕ, Bool, true, ◌&&◌, List, [], ◌∷◌}
use Rattle.std.specs.Ordering.{nat_cmp, is_lt}
use Rattle.std.specs.Cmp.Lexicographic.{slice_cmp}

-- the name is less, in byte order, than the name of the first pair, if there is one
abbrev pub leads : List ℕ → List (List ℕ × List ℕ) → Bool
leads name [] = true
leads name (next ∷ pairs) = is_lt (slice_cmp nat_cmp name next.0)

-- each name is less than the next name, so that the names are sorted and all different
abbrev pub are_sorted : List (List ℕ × List ℕ) → Bool
are_sorted [] = true
are_sorted (pair ∷ pairs) = leads pair.0 pairs && are_sorted pairs
