-- All laws of commands together, for a unit in the plan of its project (The Cargo Book, cargo
-- build, Build Scripts, Environment Variables, Specifying Dependencies).
use Rattle.std.specs.Prelude.{◌≡◌, ℕ, true, false, ◌&&◌, ◌++◌, codes, is_some, List, [], Option, Some, None}
use Rattle.pb_command.specs.Command.{command_of}
use Rattle.pb_command_types.specs.declared.project.Setup.{Setup}
use Rattle.pb_data.specs.Table.{names_of}
use Rattle.pb_directive.specs.declared.directive.Directive.{Directive}
use Rattle.pb_workspace_types.specs.Settled.{IsAscending, IsSettled}
use Rattle.pb_workspace_types.specs.declared.package.Package.{Package}
use Rattle.pb_place_types.specs.Paths.{below, is_path}
use Rattle.pb_place_types.specs.declared.command.Command.{Command}
use Rattle.pb_command_types.specs.Targets.{is_run, said_at, source_by, unit_at}
use Rattle.pb_command_types.specs.declared.project.Project.{Project}
use Rattle.pb_unit.specs.Units.{unit}
use Rattle.pb_unit.specs.declared.plan.Planned.{Planned}
use Rattle.pb_unit.specs.declared.unit.What.TheVariants.{Run, Script}
use Rattle.pb_command_laws.specs.Compiles.{CompileSays, hears}
use Rattle.pb_command_laws.specs.Planned.{IsWanted, StandsInPlan, folder_of}
use Rattle.pb_command_laws.specs.Reading.{said_by}
use Rattle.pb_command_laws.specs.Starts.{StartsCompiler, StartsScript}
use Rattle.pb_command_laws.specs.Variables.{HasVariables, compile_table, run_table}

-- What a compile hears from its package's script. A library or a binary hears the lines of the run
-- on its own side. Any other unit hears nothing.
pub data Hears (project : Project) (u : Planned) (p : Package) (done : List (Option (List Directive))) : List Directive → Option (List ℕ) → Type 0 where
  nothing : (is : (hears u.unit.what && is_some p.script) ≡ false) → Hears project u p done [] None
  own_run : (is : (hears u.unit.what && is_some p.script) ≡ true) (index : ℕ) (run : Planned) (there : unit_at project index ≡ Some run) (same : run.unit ≡ unit u.unit.package u.unit.side Run) → Hears project u p done (said_at done index) (Some run.out)

-- The command of a compile starts the compiler and has the variables of `compile_table`. The
-- arguments say what `CompileSays` states, followed by what the user's flags say. The variables are
-- in ascending order of their names, so each name occurs once.
pub record IsCompile (setup : Setup) (project : Project) (u : Planned) (done : List (Option (List Directive))) (p : Package) (command : Command) : Type 0 where
  pub starts : StartsCompiler setup project u command
  pub lines : List Directive
  pub ran : Option (List ℕ)
  pub hears : Hears project u p done lines ran
  pub has : HasVariables command (compile_table setup project u p lines ran)
  pub order : IsAscending (names_of command.pairs)
  pub said : List (List ℕ × List ℕ)
  pub words : said_by command.words ≡ said ++ said_by setup.flags
  pub says : CompileSays project u done p lines (IsWanted project u p) said

-- The command of a run starts the script of the run's package on the run's side, and has the
-- variables of `run_table`. The variables are in ascending order of their names, so each name
-- occurs once.
pub record IsRun (setup : Setup) (project : Project) (u : Planned) (done : List (Option (List Directive))) (p : Package) (command : Command) : Type 0 where
  pub starts : StartsScript setup project u p (Some (below (folder_of project (unit u.unit.package u.unit.side Script)) (codes "build_script_build"))) command
  pub has : HasVariables command (run_table setup project u done p)
  pub order : IsAscending (names_of command.pairs)

-- The laws about compiles and runs. The package of a compile must belong to a workspace that was
-- read. The source of the compile must have a normalised absolute path.

abbrev pub CompilesOfPlans : Type 0
CompilesOfPlans = (setup : Setup) (project : Project) (u : Planned) (done : List (Option (List Directive))) (p : Package)
    → IsSettled project.workspace → StandsInPlan project u p → is_run u.unit.what ≡ false → is_path (source_by p u.unit.what) ≡ true → IsCompile setup project u done p (command_of setup project u done)

abbrev pub RunsOfPlans : Type 0
RunsOfPlans = (setup : Setup) (project : Project) (u : Planned) (done : List (Option (List Directive))) (p : Package) → StandsInPlan project u p → is_run u.unit.what ≡ true → IsRun setup project u done p (command_of setup project u done)
