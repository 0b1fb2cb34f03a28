-- What must be true of a build whose child is the small compiler. Only the build's arguments
-- matter, since nothing is assumed about the child.
use Rattle.std.specs.Prelude.{◌≡◌, ◌⊎◌, ◌∷◌, [], ⊤, ℕ, true, false, codes, Contains, List, take, Some}
use Rattle.pb_data.specs.OrderedSet.{is_mentioned}
use Rattle.pb_mini_laws.specs.Honest.{small_compiler, CanTell, IsSmall}
use Rattle.pb_manifest_types.specs.Letters.{is_name}
use Rattle.pb_workspace_types.specs.declared.options.Options.{Options}
use Rattle.pb_place_types.specs.Paths.{is_at_or_below, is_path}
use Rattle.pb_place_types.specs.World.{World, from_nothing, FilesHavePaths}
use Rattle.pb_command_types.specs.Targets.{unit_at}
use Rattle.pb_command_types.specs.declared.project.Project.{Project}
use Rattle.pb_command_types.specs.declared.project.Setup.{Setup}
use Rattle.pb_run.specs.UnitSteps.{TrustedRecords}
use Rattle.pb_run.specs.Outcome.{outcomes, command_after, view_of}
use Rattle.pb_build_session.specs.declared.step.SessionStep.{SessionStep}
use Rattle.pb_build_session.specs.declared.step.SessionStep.TheVariants.{Write, Remove, Build}
use Rattle.pb_unit.specs.declared.plan.Planned.{Planned}
use Rattle.pb_build.specs.Environment.{environment_of}
use Rattle.pb_build.specs.Headline.{records_of, UnitsOf, GivesCleanResult}
use Rattle.pb_build.specs.Lasting.{ShareNoPath, Spares}
use Rattle.pb_build.specs.Planning.{IsProject}
use Rattle.pb_build.specs.Result.{toolchain_of, setup_of}
use Rattle.pb_build.specs.Session.{Point, Carries, Course, ByPicked}

-- One build.

-- for each unit of a project, the small compiler can report what it reads, given the unit's command
-- and view
abbrev pub CanTellUnits : Setup → Project → World → Type 0
CanTellUnits setup project sources = (index : ℕ) (u : Planned) → unit_at project index ≡ Some u
    → CanTell (command_after setup project (take index (outcomes small_compiler setup project sources)) u) (view_of (take index (outcomes small_compiler setup project sources)) sources u)

-- The small compiler can report what it reads. This is true for each project and for each version
-- of the compiler that a build can find in this world.
abbrev pub CanTellBuild : Options → World → Type 0
CanTellBuild options w = (project : Project) (toolchain : List ℕ) → IsProject options (environment_of options w.variables).target w project
    → toolchain_of small_compiler (environment_of options w.variables) project (from_nothing (environment_of options w.variables).target w) ≡ Some toolchain
    → CanTellUnits (setup_of options (environment_of options w.variables) toolchain) project (from_nothing (environment_of options w.variables).target w)

-- The build suits the small compiler. The manifest and the files of the sources have normalised
-- absolute paths. The user's flags name no libraries. The small compiler runs the scripts, and can
-- report what it reads.
pub record IsSmallBuild (options : Options) (w : World) : Type 0 where
  pub manifest : is_path options.manifest ≡ true
  pub files : FilesHavePaths (from_nothing (environment_of options w.variables).target w)
  pub setup : (toolchain : List ℕ) → IsSmall (setup_of options (environment_of options w.variables) toolchain)
  pub can_tell : CanTellBuild options w

-- Sessions.

-- The step spares the records of the folder. A build spares the records if it has no units, or
-- keeps its records in a folder that shares no path with this folder. A build that keeps its
-- records in this folder spares them if `IsSmallBuild` is true of the build. `Spares` must be true
-- of an edit.
abbrev pub SparesBySmall : List ℕ → SessionStep → World → Type 0
SparesBySmall folder (Build options pick) w = UnitsOf small_compiler options w → (IsSmallBuild options w × (records_of options w.variables ≡ folder)) ⊎ ShareNoPath folder (records_of options w.variables)
SparesBySmall folder step w = Spares small_compiler folder step w

-- the steps were taken one by one, and each spares the records of the folder
abbrev pub SmallCourse : List ℕ → List SessionStep → Point → Point → Type 0
SmallCourse folder [] before after = after ≡ before
SmallCourse folder (step ∷ steps) before after = SparesBySmall folder step before.moment.world × ((mid : Point) × Carries small_compiler step before mid × SmallCourse folder steps mid after)

-- Sessions that a file contains.

-- of any two different target folders, neither is at or below the other
abbrev pub StandApart : List (List ℕ) → Type 0
StandApart targets = (t u : List ℕ) → Contains targets t → Contains targets u → (t ≡ u) ⊎ ((is_at_or_below t u ≡ false) × (is_at_or_below u t ≡ false))

-- What must be true of a build in a session file. The target folder is one of `targets`. The
-- profile's name has the letters of package names. The user's flags name no libraries, and the
-- small compiler can report what it reads.
pub record IsToldBuild (targets : List (List ℕ)) (options : Options) (w : World) : Type 0 where
  pub target : Contains targets (environment_of options w.variables).target
  pub profile : is_name options.profile ≡ true
  pub flags : is_mentioned (environment_of options w.variables).flags (codes "--extern") ≡ false
  pub can_tell : CanTellBuild options w

-- What must be true of a step in a session file. For each target folder, an edit stays outside the
-- folder or removes the folder as a whole. `IsToldBuild` must be true of a build.
abbrev pub IsToldStep : List (List ℕ) → SessionStep → World → Type 0
IsToldStep targets (Write path text) w = (t : List ℕ) → Contains targets t → is_at_or_below t path ≡ false
IsToldStep targets (Remove path) w = (t : List ℕ) → Contains targets t → (is_at_or_below path t ≡ true) ⊎ ShareNoPath t path
IsToldStep targets (Build options pick) w = IsToldBuild targets options w
IsToldStep targets step w = ⊤

-- `IsToldStep` was true of each step when the step was taken
abbrev pub AllTold : (targets : List (List ℕ)) (steps : List SessionStep) (before after : Point) → Course small_compiler steps before after → Type 0
AllTold targets [] before after course = ⊤
AllTold targets (step ∷ steps) before after course = IsToldStep targets step before.moment.world × AllTold targets steps course.0 after course.2

-- If the step is a build, the build produces what a clean build of the same workspace produces. If
-- a fault ends the build, the build's lines are a prefix of the clean build's lines.
abbrev pub StepGives : (step : SessionStep) (before after : Point) → Carries small_compiler step before after → Type 0
StepGives (Build options pick) before after built = GivesCleanResult TrustedRecords small_compiler (ByPicked pick options) options built.answer before.moment built.ended
StepGives step before after taken = ⊤

-- each build among the steps produces what `StepGives` says
abbrev pub AllGive : (steps : List SessionStep) (before after : Point) → Course small_compiler steps before after → Type 0
AllGive [] before after course = ⊤
AllGive (step ∷ steps) before after course = StepGives step before course.0 course.1 × AllGive steps course.0 after course.2
