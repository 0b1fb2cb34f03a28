-- Removals that did not begin.
use Rattle.std.proofs.Common.{◌≡◌, ℕ, List, [], ◌∷◌, inl, refl}
use Rattle.pb_place_types.specs.World.{World}
use Rattle.pb_tool_clean.specs.Calls.{CutsEach}

-- removals of which none was made
pub none_cut : (paths : List (List ℕ)) (w : World) → CutsEach paths w w
none_cut [] w = refl
none_cut (path ∷ paths) w = inl (inl refl)
