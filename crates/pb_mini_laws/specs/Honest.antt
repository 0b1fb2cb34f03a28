-- The small compiler is an honest child on the commands of units. The small compiler repeats a good
-- reply if everything on which the reply depends is unchanged.
use Rattle.std.specs.Prelude.{◌≡◌, ℕ, true, false, codes, List, [], ◌∷◌, Option, Some, Result, Ok, Err, IfSome, slice_get}
use Rattle.std.specs.List.{AllByRecursion}
use Rattle.pb_data.specs.OrderedSet.{is_mentioned}
use Rattle.pb_data.specs.Table.{table_of}
use Rattle.pb_directive.specs.Lines.{has_byte}
use Rattle.pb_directive.specs.declared.directive.Directive.{Directive}
use Rattle.pb_place_types.specs.Paths.{below, is_path}
use Rattle.pb_place_types.specs.World.{World, Answers, seen_by}
use Rattle.pb_place_types.specs.declared.command.Command.{Command}
use Rattle.pb_workspace_types.specs.Settled.{IsSettled}
use Rattle.pb_workspace_types.specs.declared.options.Selection.{Selection}
use Rattle.pb_unit.specs.Plan.{IsPlan}
use Rattle.pb_unit.specs.declared.plan.Planned.{Planned}
use Rattle.pb_command.specs.Command.{command_of}
use Rattle.pb_command.specs.Laws.{HasPaths}
use Rattle.pb_command_types.specs.Targets.{is_run, package_of, source_by}
use Rattle.pb_command_types.specs.declared.project.Project.{Project}
use Rattle.pb_command_types.specs.declared.project.Setup.{Setup}
use Rattle.pb_command.specs.Judge.{judge}
use Rattle.pb_store_soundness.specs.Inputs.{IsHonest}
use Rattle.pb_mini.specs.Answer.{request_of, answered}
use Rattle.pb_mini.specs.Honesty.{names_read}
use Rattle.pb_mini.specs.declared.command_line.CommandLine.{CommandLine}
use Rattle.pb_mini.specs.Lookups as looked
use Rattle.pb_mini.specs.declared.command_line.CommandLineFault.{CommandLineFault}
use Rattle.pb_mini.specs.declared.dep_info.Names.{Names}
use Rattle.pb_mini.specs.declared.request.Request.{Request}
use Rattle.pb_mini.specs.declared.request.Request.TheVariants.{Version, Run, Compile}
use Rattle.pb_mini_laws.specs.ReadBack.{CanBeTold, CanBeAsked}
use Rattle.pb_mini_laws.specs.Said.{CanBeSaid, declared_in_image}

-- The small compiler as a child.

abbrev pub small_compiler : Answers
small_compiler c w = answered c.words c.pairs w

-- Dep-info can express these names. The output's path is one line. Each name is one line, is not
-- empty, and ends neither with `\` nor with a carriage return. The name of a variable has no `=`.
pub record CanBeSpelled (line : CommandLine) (names : Names) : Type 0 where
  pub output : has_byte 10 (below line.out_dir line.image) ≡ false
  pub paths : AllByRecursion CanBeTold names.paths
  pub variables : AllByRecursion CanBeAsked names.variables

-- Dep-info can express what a compile reads, and directives can express what a script declares.
abbrev pub CanTellOf : Result Request CommandLineFault → Command → World → Type 0
CanTellOf (Ok Version) c w = Unit {0}
CanTellOf (Ok (Run image)) c w = AllByRecursion CanBeSaid (declared_in_image (table_of c.pairs) w (looked.file_at w (looked.path_of image)))
CanTellOf (Ok (Compile line)) c w = CanBeSpelled line (names_read c.words c.pairs w)
CanTellOf (Err e) c w = Unit {0}

abbrev pub CanTell : Command → World → Type 0
CanTell c w = CanTellOf (request_of c.words) c w

-- the words of the runner after its program are `--run` and nothing else
abbrev pub RunsAlone : List (List ℕ) → Type 0
RunsAlone [] = Unit {0}
RunsAlone (program ∷ words) = words ≡ codes "--run" ∷ []

-- The setup is for the small compiler. The user's flags name no libraries, and the small compiler
-- runs the scripts.
pub record IsSmall (setup : Setup) : Type 0 where
  pub flags : is_mentioned setup.flags (codes "--extern") ≡ false
  pub runner : RunsAlone setup.runner

-- The unit is in the plan of a project that was read and planned. The project's workspace is
-- settled. The project's paths and the path of the unit's source are normalised absolute paths. A
-- run has no source.
pub record IsOfProject (project : Project) (u : Planned) : Type 0 where
  pub settled : IsSettled project.workspace
  pub paths : HasPaths project
  pub source : is_run u.unit.what ≡ false → IfSome (package_of project u) (λ p. is_path (source_by p u.unit.what) ≡ true)
  pub selection : Selection
  pub planned : IsPlan project.workspace project.features selection project.profile project.plan
  pub index : ℕ
  pub there : slice_get project.plan.planned index ≡ Some u

-- Law: the small compiler is honest on the command of every unit of a project. Earlier scripts may
-- have printed anything. The world must be one in which the small compiler can report what it
-- reads.
abbrev pub SmallCompilerIsHonest : Type 0
SmallCompilerIsHonest = (setup : Setup) (project : Project) (u : Planned) (done : List (Option (List Directive))) (v : World) → IsSmall setup → IsOfProject project u
    → CanTell (command_of setup project u done) (seen_by (command_of setup project u done) v) → IsHonest judge small_compiler (command_of setup project u done) v
