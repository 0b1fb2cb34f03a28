-- The command of a unit: program, folder, arguments, environment, and the folders that the child
-- may read. This file also defines the command that asks a compiler for its version (The Cargo
-- Book, cargo build, Build Scripts, Environment Variables).
use Rattle.std.specs.Prelude.{ℕ, codes, List, [], ◌∷◌, ◌++◌, Option, Some, None}
use Rattle.pb_directive.specs.declared.directive.Directive.{Directive}
use Rattle.pb_place_types.specs.declared.command.Command.{Command}
use Rattle.pb_unit.specs.declared.plan.Planned.{Planned}
use Rattle.pb_unit.specs.declared.unit.What.{What}
use Rattle.pb_unit.specs.declared.unit.What.TheVariants.{Run}
use Rattle.pb_workspace_types.specs.declared.package.Package.{Package}
use Rattle.pb_command_types.specs.declared.project.Project.{Project}
use Rattle.pb_command_types.specs.declared.project.Setup.{Setup}
use Rattle.pb_command_types.specs.Targets.{package_of, script_file, script_source}
use Rattle.pb_command_arguments.specs.Words.{crate_words, output_words, settings_words, feature_words}
use Rattle.pb_command_arguments.specs.Externs.{library_words, reads_of}
use Rattle.pb_command_arguments.specs.Said.{said_words}
use Rattle.pb_command_environment.specs.Pairs.{pairs_of}

-- the command that asks a compiler for its version, given the compiler, the workspace's root and
-- the target folder
abbrev pub query_of : List ℕ → List ℕ → List ℕ → Command
query_of rustc root target = record {
  program = rustc;
  words = codes "-vV" ∷ [];
  folder = root;
  pairs = [];
  out = None;
  target = target;
  toolchain = [];
  reads = [];
}

-- the arguments that say what is compiled and how: the crate, the output and the output's folder,
-- settings and features
abbrev pub crate_part : Project → Planned → Package → List (List ℕ)
crate_part project unit p = crate_words project unit p ++ output_words unit p ++ settings_words unit.unit.what unit.settings ++ feature_words project unit p

-- the arguments for libraries, the arguments that build scripts request, and the user's flags
abbrev pub asked_part : Setup → Project → Planned → List (Option (List Directive)) → Package → List (List ℕ)
asked_part setup project unit done p = library_words project unit p ++ said_words project unit done p ++ setup.flags

-- all arguments of a compile
abbrev pub words_of : Setup → Project → Planned → List (Option (List Directive)) → Package → List (List ℕ)
words_of setup project unit done p = crate_part project unit p ++ asked_part setup project unit done p

-- the command of a compile; a compile starts in the workspace's root
abbrev pub compile_of : Setup → Project → Planned → List (Option (List Directive)) → Package → Command
compile_of setup project unit done p = record {
  program = setup.rustc;
  words = words_of setup project unit done p;
  folder = project.workspace.root;
  pairs = pairs_of setup project unit done p;
  out = Some unit.out;
  target = project.workspace.target;
  toolchain = setup.toolchain;
  reads = reads_of project unit;
}

-- the path of the script that a run starts
abbrev pub script_path : Project → Planned → List ℕ
script_path project unit = script_source (script_file project unit)

-- the program of a run: the runner if there is one, or else the script
abbrev pub run_program : List (List ℕ) → List ℕ → List ℕ
run_program [] script = script
run_program (program ∷ words) script = program

-- The arguments of a run with a runner are the runner's words after the first, and then the
-- script's path. Without a runner there are no arguments.
abbrev pub run_words : List (List ℕ) → List ℕ → List (List ℕ)
run_words [] script = []
run_words (program ∷ words) script = words ++ script ∷ []

-- the command of a run; a run starts in the folder of its package
abbrev pub run_of : Setup → Project → Planned → List (Option (List Directive)) → Package → Command
run_of setup project unit done p = record {
  program = run_program setup.runner (script_path project unit);
  words = run_words setup.runner (script_path project unit);
  folder = p.folder;
  pairs = pairs_of setup project unit done p;
  out = Some unit.out;
  target = project.workspace.target;
  toolchain = setup.toolchain;
  reads = reads_of project unit;
}

abbrev pub command_by : What → Setup → Project → Planned → List (Option (List Directive)) → Package → Command
command_by Run setup project unit done p = run_of setup project unit done p
command_by _ setup project unit done p = compile_of setup project unit done p

-- What replaces the command of a unit if the unit's package does not exist. No plan has such a
-- unit.
abbrev pub nothing_of : Setup → Project → Command
nothing_of setup project = record {
  program = setup.rustc;
  words = [];
  folder = project.workspace.root;
  pairs = [];
  out = None;
  target = project.workspace.target;
  toolchain = setup.toolchain;
  reads = [];
}

abbrev pub command_for : Setup → Project → Planned → List (Option (List Directive)) → Option Package → Command
command_for setup project unit done None = nothing_of setup project
command_for setup project unit done (Some p) = command_by unit.unit.what setup project unit done p

-- the command of a unit, given the directives of the runs that come before the unit in the plan
abbrev pub command_of : Setup → Project → Planned → List (Option (List Directive)) → Command
command_of setup project unit done = command_for setup project unit done (package_of project unit)
