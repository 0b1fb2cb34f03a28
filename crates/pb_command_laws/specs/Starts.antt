-- What a command starts, in which folder, and what it may read (The Cargo Book, cargo build, Build
-- Scripts).
use Rattle.std.specs.Prelude.{◌≡◌, ℕ, true, false, List, [], ◌∷◌, ◌++◌, map, Option, Some}
use Rattle.std.specs.List.{filter_map}
use Rattle.pb_directive.specs.declared.directive.Directive.{Directive}
use Rattle.pb_workspace_types.specs.declared.package.Package.{Package}
use Rattle.pb_place_types.specs.declared.command.Command.{Command}
use Rattle.pb_unit.specs.declared.plan.Planned.{Planned}
use Rattle.pb_command_types.specs.Targets.{package_of, unit_at, is_run, script_file}
use Rattle.pb_command_types.specs.declared.project.Project.{Project}
use Rattle.pb_command_types.specs.declared.project.Setup.{Setup}
use Rattle.pb_command.specs.Command.{command_of}

-- The command starts in this folder and writes into the unit's folder. In the target folder the
-- command may read the folders of all units that the unit reaches, in plan order.
pub record StartsFor (setup : Setup) (project : Project) (unit : Planned) (folder : List ℕ) (command : Command) : Type 0 where
  pub folder_is : command.folder ≡ folder
  pub out : command.out ≡ Some unit.out
  pub target : command.target ≡ project.workspace.target
  pub reads : command.reads ≡ map (λ (u : Planned). u.out) (filter_map (unit_at project) unit.reaches)
  pub toolchain : command.toolchain ≡ setup.toolchain

-- a compile starts the compiler in the workspace's root
abbrev pub StartsCompiler : Setup → Project → Planned → Command → Type 0
StartsCompiler setup project unit command = (command.program ≡ setup.rustc) × StartsFor setup project unit project.workspace.root command

-- The command starts a script in the package's folder. The words of the runner come first, if there
-- is a runner, and then the script.
abbrev pub StartsScript : Setup → Project → Planned → Package → Option (List ℕ) → Command → Type 0
StartsScript setup project unit p file command = ((script : List ℕ) → file ≡ Some script → command.program ∷ command.words ≡ setup.runner ++ script ∷ []) × StartsFor setup project unit p.folder command

-- The laws of what a command starts.

abbrev pub CompilesStart : Type 0
CompilesStart = (setup : Setup) (project : Project) (unit : Planned) (done : List (Option (List Directive))) (p : Package)
    → package_of project unit ≡ Some p → is_run unit.unit.what ≡ false → StartsCompiler setup project unit (command_of setup project unit done)

abbrev pub RunsStart : Type 0
RunsStart = (setup : Setup) (project : Project) (unit : Planned) (done : List (Option (List Directive))) (p : Package)
    → package_of project unit ≡ Some p → is_run unit.unit.what ≡ true → StartsScript setup project unit p (script_file project unit) (command_of setup project unit done)
