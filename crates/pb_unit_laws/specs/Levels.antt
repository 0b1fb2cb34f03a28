-- Laws about the levels of a plan's units, and about packages by their index.
use Rattle.std.specs.Prelude.{◌≡◌, ◌+◌, ℕ, max, false, is_some, fold, List, [], map, slice_get}
use Rattle.std.specs.Option.{option_map_or}
use Rattle.pb_workspace_types.specs.declared.package.Package.{Package}
use Rattle.pb_workspace_types.specs.declared.workspace.Workspace.{Workspace}
use Rattle.pb_unit.specs.Plan.{above, level_at}
use Rattle.pb_unit.specs.Units.{has_library, name_at}
use Rattle.pb_unit.specs.declared.plan.Planned.{Planned}

-- `above` is one more than the greatest of the levels at some indices. If there are no indices,
-- `above` is 0. An index without a unit has the level 0.
abbrev pub LevelsAreThese : Type 0
LevelsAreThese = (units : List Planned) (indices : List ℕ)
    → above (map (level_at units) indices) ≡ fold max 0 (map (λ index. option_map_or (λ (p : Planned). p.level + 1) (slice_get units index) 1) indices)

-- What `name_at` and `has_library` say about the package at an index. If there is no package, the
-- name is empty and there is no library.
abbrev pub PackagesHaveNames : Type 0
PackagesHaveNames = (ws : Workspace) (index : ℕ)
    → (name_at ws index ≡ option_map_or (λ (p : Package). p.name) (slice_get ws.packages index) [])
    × (has_library (slice_get ws.packages index) ≡ option_map_or (λ (p : Package). is_some p.library) (slice_get ws.packages index) false)
