-- Levels, names and libraries are what the laws say.
use Rattle.std.proofs.Common.{◌≡◌, ◌∙◌, ◌+◌, ◌∷◌, [], ℕ, max, false, is_some, List, map, Option, Some, None, refl, ap, slice_get, arith}
use Rattle.std.specs.Prelude.{fold}
use Rattle.std.specs.Option.{option_map_or}
use Rattle.pb_workspace_types.specs.declared.package.Package.{Package}
use Rattle.pb_unit.specs.Plan.{above, level_at, level_of}
use Rattle.pb_unit.specs.Units.{has_library, name_of}
use Rattle.pb_unit.specs.declared.plan.Planned.{Planned}
use Rattle.pb_unit_laws.specs.Levels.{LevelsAreThese, PackagesHaveNames}

one_more : (p : Option Planned) → level_of p + 1 ≡ option_map_or (λ (p : Planned). p.level + 1) p 1
one_more None = refl
one_more (Some p) = refl

greatest_is : (units : List Planned) (indices : List ℕ) (greatest : ℕ) → max greatest (above (map (level_at units) indices)) ≡ fold max greatest (map (λ index. option_map_or (λ (p : Planned). p.level + 1) (slice_get units index) 1) indices)
greatest_is units [] greatest = omega arith
greatest_is units (index ∷ indices) greatest =
    let here : ℕ = option_map_or (λ (p : Planned). p.level + 1) (slice_get units index) 1 in
    let rest : ℕ = above (map (level_at units) indices) in
    let joined : max greatest (max here rest) ≡ max (max greatest here) rest = omega arith in
    ap (λ n. max greatest (max n rest)) (one_more (slice_get units index)) ∙ joined ∙ greatest_is units indices (max greatest here)

pub levels_are : LevelsAreThese
levels_are units indices = let least : above (map (level_at units) indices) ≡ max 0 (above (map (level_at units) indices)) = omega arith in least ∙ greatest_is units indices 0

name_is : (p : Option Package) → name_of p ≡ option_map_or (λ (p : Package). p.name) p []
name_is None = refl
name_is (Some p) = refl

library_is : (p : Option Package) → has_library p ≡ option_map_or (λ (p : Package). is_some p.library) p false
library_is None = refl
library_is (Some p) = refl

pub packages_have_names : PackagesHaveNames
packages_have_names ws index = (name_is (slice_get ws.packages index), library_is (slice_get ws.packages index))
