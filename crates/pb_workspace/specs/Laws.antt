-- What is true of every workspace that was accepted.
use Rattle.std.specs.Prelude.{◌≡◌, ℕ, List, map, Ok}
use Rattle.std.specs.List.{IsDistinct}
use Rattle.std.specs.Str.{bytes_eq}
use Rattle.pb_place_types.specs.Paths.{folder_of}
use Rattle.pb_place_types.specs.World.{World, from_nothing}
use Rattle.pb_workspace_types.specs.declared.package.Package.{Package}
use Rattle.pb_workspace_types.specs.declared.workspace.Workspace.{Workspace}
use Rattle.pb_workspace.specs.Loaded.{workspace_of}

-- No two packages have the same name.
abbrev pub NamesDiffer : Type 0
NamesDiffer = (manifest target : List ℕ) (w : World) (ws : Workspace) → workspace_of manifest target w ≡ Ok ws → IsDistinct bytes_eq (map (λ (p : Package). p.name) ws.packages)

-- A workspace has the target folder for which it was read. `HasRoot` says that the workspace's root
-- is the folder of the manifest.
abbrev pub HasTargetFolder : Type 0
HasTargetFolder = (manifest target : List ℕ) (w : World) (ws : Workspace) → workspace_of manifest target w ≡ Ok ws → ws.target ≡ target

abbrev pub HasRoot : Type 0
HasRoot = (manifest target : List ℕ) (w : World) (ws : Workspace) → workspace_of manifest target w ≡ Ok ws → ws.root ≡ folder_of manifest

-- Worlds with the same sources yield the same workspace, or the same refusal.
abbrev pub LooksAtSources : Type 0
LooksAtSources = (manifest target : List ℕ) (v w : World) → from_nothing target v ≡ from_nothing target w → workspace_of manifest target v ≡ workspace_of manifest target w
