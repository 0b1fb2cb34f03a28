-- Laws about the kind of a unit, the role in which it is compiled, the folder of its package, and
-- the directives of a run.
use Rattle.std.specs.Prelude.{◌≡◌, ◌↔◌, ℕ, true, if◌then◌else◌, List, [], Option, unwrap_or, slice_get}
use Rattle.std.specs.Option.{option_flatten, option_map_or}
use Rattle.pb_directive.specs.declared.directive.Directive.{Directive}
use Rattle.pb_workspace_types.specs.declared.package.Package.{Package}
use Rattle.pb_workspace_types.specs.declared.package.Side.TheVariants.{Host}
use Rattle.pb_command_types.specs.Targets.{folder_of, is_library, is_run, is_script, package_of, said_at}
use Rattle.pb_command_types.specs.declared.project.Project.{Project}
use Rattle.pb_unit.specs.Units.{role_of}
use Rattle.pb_unit.specs.declared.plan.Planned.{Planned}
use Rattle.pb_unit.specs.declared.unit.Unit.{Unit as OfPlan}
use Rattle.pb_unit.specs.declared.unit.What.{What}
use Rattle.pb_unit.specs.declared.unit.What.TheVariants.{Lib, Script, Run}

-- Only `Lib` is a library, only `Script` is a script, and only `Run` is a run. A binary is none of
-- these three.
abbrev pub KindsAreThese : Type 0
KindsAreThese = (what : What) → ((is_library what ≡ true) ↔ (what ≡ Lib)) × ((is_script what ≡ true) ↔ (what ≡ Script)) × ((is_run what ≡ true) ↔ (what ≡ Run))

-- The role of a script is the host, and the role of any other unit is the unit's side.
abbrev pub RolesAreThese : Type 0
RolesAreThese = (u : OfPlan) → role_of u ≡ (if is_script u.what then Host else u.side)

-- The folder of a unit is the folder of the unit's package, or the workspace's root if there is no
-- such package.
abbrev pub FoldersArePackages : Type 0
FoldersArePackages = (project : Project) (u : Planned) → folder_of project u ≡ option_map_or (λ (p : Package). p.folder) (package_of project u) project.workspace.root

-- The directives at an index are the directives of the run at this index. If no run at this index
-- has ended, there are no directives.
abbrev pub RunsSay : Type 0
RunsSay = (done : List (Option (List Directive))) (index : ℕ) → said_at done index ≡ unwrap_or (option_flatten (slice_get done index)) []
