-- What builds with the small compiler produce. Nothing is assumed about the child.
use Rattle.std.specs.Prelude.{◌≡◌, ℕ, true, List, Result, Ok}
use Rattle.std.specs.FinMap as finite
use Rattle.pb_build_result.specs.declared.fault.BuildFault.{BuildFault}
use Rattle.pb_build_result.specs.declared.summary.Summary.{Summary}
use Rattle.pb_command.specs.Judge.{judge}
use Rattle.pb_run_flight.specs.declared.turn.Step.{Step}
use Rattle.pb_mini_laws.specs.Honest.{small_compiler}
use Rattle.pb_workspace_types.specs.declared.options.Options.{Options}
use Rattle.pb_place_types.specs.World.{World}
use Rattle.pb_run.specs.UnitSteps.{TrustedRecords}
use Rattle.pb_build_session.specs.Sessions.{session_of}
use Rattle.pb_build_session.specs.declared.pick.PickBy.{PickBy}
use Rattle.pb_build_session.specs.declared.step.SessionStep.{SessionStep}
use Rattle.pb_store_soundness.specs.Records.{reading}
use Rattle.pb_store_soundness.specs.Sound.{Sound}
use Rattle.pb_build_turns.specs.Executor.{BuildState}
use Rattle.pb_build.specs.Headline.{records_of, IsHonestBuild, ByTurns, GivesCleanResult, Headline}
use Rattle.pb_build.specs.Session.{Point, CarriesBuild, Course, ByPicked}
use Rattle.pb_mini_laws.specs.Small.{AllGive, AllTold, IsSmallBuild, SmallCourse, StandApart}

-- The small compiler is an honest child of each build of which `IsSmallBuild` is true.
abbrev pub SmallBuildsAreHonest : Type 0
SmallBuildsAreHonest = (options : Options) (w : World) → IsSmallBuild options w → IsHonestBuild small_compiler options w

-- Take a build over a modelled place, with true records and the small compiler as the child. If
-- `IsSmallBuild` is true of this build, the build produces what a clean build of the present
-- workspace produces. The build may end in any way.
abbrev pub SmallBuildsGive : {S : Type 0} → (S → List ℕ → List ℕ → Step → S → Type 0) → Type 0
SmallBuildsGive {S} Turns = (from : S) (options : Options) (result : Result Summary BuildFault) (old new : BuildState) → Headline true small_compiler (ByTurns Turns from) options result old new
    → IsSmallBuild options old.world → Sound reading judge small_compiler (records_of options old.world.variables) old.world.files → GivesCleanResult TrustedRecords small_compiler (ByTurns Turns from) options result old new

-- Take a session with the small compiler. The records in a folder were true, and each later step
-- has spared these records, as `SmallCourse` says. Then take a build that keeps its records in this
-- folder. If `IsSmallBuild` is true of the build, it produces what a clean build of the present
-- workspace produces.
abbrev pub SmallSessionsGive : Type 0
SmallSessionsGive = (options : Options) (pick : PickBy) (steps : List SessionStep) (before mid after : Point)
    → Sound reading judge small_compiler (records_of options mid.moment.world.variables) before.moment.world.files → SmallCourse (records_of options mid.moment.world.variables) steps before mid
    → IsSmallBuild options mid.moment.world → (built : CarriesBuild small_compiler options pick mid after) → GivesCleanResult TrustedRecords small_compiler (ByPicked pick options) options built.answer mid.moment built.ended

-- Take a session file whose session begins without files. No two of the folders in `targets`
-- overlap. If `AllTold` is true of the session's steps, each build of the session produces what a
-- clean build of the workspace at that time produces.
abbrev pub SessionFilesGive : Type 0
SessionFilesGive = (bytes : List ℕ) (targets : List (List ℕ)) (steps : List SessionStep) (before after : Point) → session_of bytes ≡ Ok steps → before.moment.world.files ≡ finite.empty
    → StandApart targets → (course : Course small_compiler steps before after) → AllTold targets steps before after course → AllGive steps before after course
