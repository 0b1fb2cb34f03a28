-- Texts with names. The texts are set one after another.
use Rattle.std.specs.Prelude.{ℕ, List, [], ◌∷◌}
use Rattle.std.specs.FinMap as map
use Rattle.pb_place_types.specs.World.{Map}

-- The map that results if these texts are set one after another. A later text replaces an earlier
-- text of the same name.
abbrev pub all_set : Map → List (List ℕ × List ℕ) → Map
all_set m [] = m
all_set m (pair ∷ pairs) = all_set (map.insert m pair.0 pair.1) pairs

-- The names with their texts, in byte order of the names. Each name occurs once, with its last
-- text.
abbrev pub in_order : List (List ℕ × List ℕ) → List (List ℕ × List ℕ)
in_order pairs = map.entries (all_set map.empty pairs)
