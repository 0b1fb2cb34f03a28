-- What a build knows before a unit begins: its environment, its compiler's version, and the host of
-- the compiler (The Cargo Book, Environment Variables).
use Rattle.std.specs.Prelude.{◌≡◌, ◌↔◌, ℕ, true, ◌&&◌, ◌++◌, if◌then◌else◌, codes, List, [], drop, Option, Some, None, option_and_then, slice_get, unwrap_or}
use Rattle.std.specs.FinMap as finite
use Rattle.std.specs.List.{filter_map, flat_map, list_any}
use Rattle.std.specs.Option.{option_map_or, option_to_list}
use Rattle.std.specs.Str.{is_utf8}
use Rattle.pb_build.specs.Environment.{environment_of}
use Rattle.pb_build.specs.Result.{is_host, toolchain_of}
use Rattle.pb_build.specs.declared.environment.Environment.{Environment}
use Rattle.pb_command.specs.Command.{query_of}
use Rattle.pb_command.specs.Judge.{ended_by}
use Rattle.pb_command_environment.specs.Pairs.{triple_of}
use Rattle.pb_command_laws.specs.Judged.{EndedWell, path_said}
use Rattle.pb_directive.specs.Directives.{is_empty, words_of}
use Rattle.pb_directive.specs.Lines.{lines_of}
use Rattle.pb_workspace_types.specs.declared.options.Options.{Options}
use Rattle.pb_place_types.specs.Paths.{below, folder_of}
use Rattle.pb_place_types.specs.World.{Answers, Map, World}
use Rattle.pb_place_types.specs.declared.child.Reply.{Reply}
use Rattle.pb_command_types.specs.declared.project.Project.{Project}

-- the text of a variable; an empty text counts as no text
abbrev pub set_in : Map → List ℕ → Option (List ℕ)
set_in variables name = option_and_then (λ text. if is_empty text then None else Some text) (finite.get variables name)

-- The compiler is the value of `RUSTC`, or else `rustc`. The compiler's flags are the words of
-- `RUSTFLAGS`. The target folder is the path of `--target-dir`, or else the path of
-- `CARGO_TARGET_DIR`, or else `target`. A relative path starts at the root.
abbrev pub EnvironmentsAreThese : Type 0
EnvironmentsAreThese = (options : Options) (variables : Map) → environment_of options variables ≡ record {
  rustc = unwrap_or (set_in variables (codes "RUSTC")) (codes "rustc");
  flags = option_map_or words_of (set_in variables (codes "RUSTFLAGS")) [];
  target = unwrap_or (slice_get (flat_map (path_said (folder_of options.manifest)) (option_to_list options.target_dir ++ option_to_list (set_in variables (codes "CARGO_TARGET_DIR")))) 0)
      (below (folder_of options.manifest) (codes "target"));
}

-- The reply to the query reports this version of the compiler: the child ended well, and the
-- child's output is UTF-8 and has a line that names the host.
abbrev pub IsToolchain : Reply → List ℕ → Type 0
IsToolchain r toolchain = EndedWell (ended_by r) × (is_utf8 r.stdout ≡ true) × (list_any is_host (lines_of r.stdout) ≡ true) × (toolchain ≡ r.stdout)

-- The compiler's version is what the compiler reports in its reply to the query.
abbrev pub ToolchainsAreSaid : Type 0
ToolchainsAreSaid = (child : Answers) (environment : Environment) (project : Project) (sources : World) (toolchain : List ℕ)
    → (toolchain_of child environment project sources ≡ Some toolchain) ↔ IsToolchain (child (query_of environment.rustc project.workspace.root project.workspace.target) sources) toolchain

-- the host that a line names: the text after `host: `
abbrev pub host_in : List ℕ → Option (List ℕ)
host_in line = if is_utf8 line && is_host line then Some (drop 6 line) else None

-- The compiler's host triple is the first host that a line names, or the empty text if no line
-- names a host.
abbrev pub HostsComeFirst : Type 0
HostsComeFirst = (toolchain : List ℕ) → triple_of toolchain ≡ unwrap_or (slice_get (filter_map host_in (lines_of toolchain)) 0) []
