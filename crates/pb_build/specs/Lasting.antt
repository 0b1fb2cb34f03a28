-- What lasts over a session. The records of a folder stay true. So each build among the steps
-- produces what a clean build of the present workspace produces.
use Rattle.std.specs.Prelude.{◌≡◌, ◌⊎◌, ◌∷◌, [], ⊤, ℕ, true, false, List, None}
use Rattle.pb_command.specs.Judge.{judge}
use Rattle.pb_workspace_types.specs.declared.options.Options.{Options}
use Rattle.pb_place_types.specs.Paths.{is_at_or_below}
use Rattle.pb_place_types.specs.World.{World, Map, Answers}
use Rattle.pb_run.specs.UnitSteps.{TrustedRecords}
use Rattle.pb_build_session.specs.declared.pick.PickBy.{PickBy}
use Rattle.pb_build_session.specs.declared.step.SessionStep.{SessionStep}
use Rattle.pb_build_session.specs.declared.step.SessionStep.TheVariants.{Write, Remove, Build}
use Rattle.pb_store_soundness.specs.Records.{record_at, reading}
use Rattle.pb_store_soundness.specs.Sound.{Sound}
use Rattle.pb_build.specs.Headline.{records_of, IsHonestBuild, UnitsOf, GivesCleanResult}
use Rattle.pb_build.specs.Session.{Point, Carries, CarriesBuild, ByPicked}

-- no path is at or below both folders
abbrev pub ShareNoPath : List ℕ → List ℕ → Type 0
ShareNoPath folder other = (q : List ℕ) → is_at_or_below folder q ≡ true → is_at_or_below other q ≡ false

-- The step spares the records of the folder.
-- - An edit must change nothing in the folder, or remove the whole folder.
-- - A build with units may keep its records in this folder if its child is honest. Otherwise the
--   build must keep its records in a folder that shares no path with this folder.
-- - A build without units spares the records.
abbrev pub Spares : Answers → List ℕ → SessionStep → World → Type 0
Spares child folder (Write path text) w = is_at_or_below folder path ≡ false
Spares child folder (Remove path) w = (is_at_or_below path folder ≡ true) ⊎ ShareNoPath folder path
Spares child folder (Build options pick) w = UnitsOf child options w → ((records_of options w.variables ≡ folder) × IsHonestBuild child options w) ⊎ ShareNoPath folder (records_of options w.variables)
Spares child folder _ w = ⊤

-- the steps were taken one by one, and each spares the records of the folder
abbrev pub SparingCourse : Answers → List ℕ → List SessionStep → Point → Point → Type 0
SparingCourse child folder [] before after = after ≡ before
SparingCourse child folder (step ∷ steps) before after = Spares child folder step before.moment.world × ((mid : Point) × Carries child step before mid × SparingCourse child folder steps mid after)

-- if no text in a folder counts as a record, the folder is sound
abbrev pub NothingIsSound : Type 0
NothingIsSound = (child : Answers) (folder : List ℕ) (files : Map) → ((key : List ℕ) → record_at reading folder files key ≡ None) → Sound reading judge child folder files

-- Suppose that the records of a folder are true, and that each step of a session spares them. Then
-- the records are true after the session, no matter how its builds ended.
abbrev pub RecordsStayTrue : Type 0
RecordsStayTrue = (child : Answers) (folder : List ℕ) (steps : List SessionStep) (before after : Point) → SparingCourse child folder steps before after
    → Sound reading judge child folder before.moment.world.files → Sound reading judge child folder after.moment.world.files

-- Take steps that spared a folder of true records. A later build with these records and an honest
-- child produces what a clean build of the present workspace produces. If a fault ends this build,
-- its lines before the finish line are a prefix of the clean build's.
abbrev pub AnyBuildGives : Type 0
AnyBuildGives = (child : Answers) (options : Options) (pick : PickBy) (steps : List SessionStep) (before mid after : Point)
    → SparingCourse child (records_of options mid.moment.world.variables) steps before mid → Sound reading judge child (records_of options mid.moment.world.variables) before.moment.world.files
    → IsHonestBuild child options mid.moment.world → (built : CarriesBuild child options pick mid after) → GivesCleanResult TrustedRecords child (ByPicked pick options) options built.answer mid.moment built.ended
