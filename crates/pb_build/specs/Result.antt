-- What a build produces, determined by the child and the sources alone.
use Rattle.std.specs.Prelude.{◌≡◌, ℕ, Bool, ◌&&◌, nat_lt, nat_eq, codes, if◌then◌else◌, List, length, Option, Some, None, is_some, is_none}
use Rattle.std.specs.List.{list_any, starts_with}
use Rattle.pb_directive.specs.Lines.{lines_of, text_of}
use Rattle.pb_place_types.specs.World.{World, Answers, from_nothing}
use Rattle.pb_place_types.specs.declared.command.Ended.{Ended}
use Rattle.pb_command_reply.specs.Answers.{ended_fault}
use Rattle.pb_command.specs.Command.{query_of}
use Rattle.pb_command_types.specs.declared.project.Project.{Project}
use Rattle.pb_command_types.specs.declared.project.Setup.{Setup}
use Rattle.pb_build_result.specs.declared.fault.Refusal.{Refusal}
use Rattle.pb_build_turns.specs.Rows.{Row, rows_of}
use Rattle.pb_command.specs.Judge.{ended_by}
use Rattle.pb_workspace_types.specs.declared.options.Options.{Options}
use Rattle.pb_build.specs.Environment.{environment_of}
use Rattle.pb_build.specs.Planning.{IsProject, IsRefused}
use Rattle.pb_build.specs.declared.environment.Environment.{Environment}

-- The compiler's version.

-- the line reports the host: the line begins with `host: `, and something follows
abbrev pub is_host : List ℕ → Bool
is_host line = nat_lt 6 (length line) && starts_with nat_eq line (codes "host: ")

-- the output reports the host: the output is UTF-8, and one of the output's lines reports the host
abbrev pub says_host : List ℕ → Bool
says_host stdout = is_some (text_of stdout) && list_any is_host (lines_of stdout)

-- The compiler's version in an answer to the query. The answer counts if the status is 0, no stream
-- is too long, and the output reports the host.
abbrev pub toolchain_in : Ended → Option (List ℕ)
toolchain_in e = if is_none (ended_fault e) && says_host e.stdout then Some e.stdout else None

-- the version that the compiler reports if it sees only the sources
abbrev pub toolchain_of : Answers → Environment → Project → World → Option (List ℕ)
toolchain_of child environment project sources = toolchain_in (ended_by (child (query_of environment.rustc project.workspace.root project.workspace.target) sources))

-- how the units are compiled, given the options, the environment and the compiler's version
abbrev pub setup_of : Options → Environment → List ℕ → Setup
setup_of options environment toolchain = record { tool = options.tool; rustc = environment.rustc; flags = environment.flags; runner = options.runner; toolchain = toolchain }

-- The result.

-- The result of a build. Either the build is refused, or the compiler does not report its version,
-- or the units of a project have these outcomes.
pub data BuildResult : Type 0 where
  Refused : (why : Refusal) → BuildResult
  NoToolchain : BuildResult
  Finished : (project : Project) (rows : List Row) → BuildResult

-- A build with this environment has this result in this world. Only the files outside the target
-- folder count.
pub data Comes (child : Answers) (options : Options) (environment : Environment) (w : World) : BuildResult → Type 0 where
  refused : (why : Refusal) (is : IsRefused options environment.target w why) → Comes child options environment w (Refused why)
  no_toolchain : (project : Project) (is : IsProject options environment.target w project) (silent : toolchain_of child environment project (from_nothing environment.target w) ≡ None) → Comes child options environment w NoToolchain
  finished : (project : Project) (toolchain : List ℕ) (is : IsProject options environment.target w project) (says : toolchain_of child environment project (from_nothing environment.target w) ≡ Some toolchain)
      → Comes child options environment w (Finished project (rows_of child (setup_of options environment toolchain) project (from_nothing environment.target w)))

-- a build has this result in this world
abbrev pub IsResult : Answers → Options → World → BuildResult → Type 0
IsResult child options w r = Comes child options (environment_of options w.variables) w r
