-- Laws about what a build produces, in the words of the rules.
use Rattle.std.specs.Prelude.{◌≡◌, ℕ, Bool, List, Result}
use Rattle.pb_build_result.specs.declared.fault.BuildFault.{BuildFault}
use Rattle.pb_build_result.specs.declared.summary.Summary.{Summary}
use Rattle.pb_run_flight.specs.declared.turn.Step.{Step}
use Rattle.pb_place_types.specs.World.{World, Answers, from_nothing}
use Rattle.pb_workspace_types.specs.declared.options.Options.{Options}
use Rattle.pb_build.specs.Ending.{Builds, BuildsFirst}
use Rattle.pb_build.specs.Environment.{environment_of}
use Rattle.pb_build.specs.Headline.{ByFirst, ByTurns, Headline, UnitsOf, rows_for}
use Rattle.pb_build.specs.Result.{BuildResult, Refused, NoToolchain, Finished, IsResult}
use Rattle.pb_build_turns.specs.Executor.{BuildState}

-- Builds in two worlds have the same result if the worlds have the same variables, and the same
-- files outside the target folder.
abbrev pub LooksAtSources : Type 0
LooksAtSources = (child : Answers) (options : Options) (v w : World) (r : BuildResult) → v.variables ≡ w.variables
    → from_nothing (environment_of options w.variables).target v ≡ from_nothing (environment_of options w.variables).target w → IsResult child options v r → IsResult child options w r

-- a build's result is the same as with an empty target folder
abbrev pub GivesFromNothing : Type 0
GivesFromNothing = (child : Answers) (options : Options) (w : World) (r : BuildResult) → IsResult child options (from_nothing (environment_of options w.variables).target w) r → IsResult child options w r

-- The two results are the same. There are three cases.
-- - Both are the same refusal.
-- - In both, the compiler does not report its version.
-- - Both have the same units of the same plan, with the same outcomes.
abbrev pub SameResults : BuildResult → BuildResult → Type 0
SameResults (Refused why) (Refused other) = why ≡ other
SameResults NoToolchain NoToolchain = Unit {0}
SameResults (Finished project rows) (Finished other more) = (project.workspace ≡ other.workspace) × (project.plan ≡ other.plan) × (project.profile ≡ other.profile) × (rows ≡ more)
SameResults _ _ = ⊥

-- a world has only one result, in the sense of `SameResults`
abbrev pub HasOneResult : Type 0
HasOneResult = (child : Answers) (options : Options) (w : World) (r s : BuildResult) → IsResult child options w r → IsResult child options w s → SameResults r s

-- if a build has units in a world, these units with their outcomes are the result of this world
abbrev pub UnitsAreOfResult : Type 0
UnitsAreOfResult = (child : Answers) (options : Options) (w : World) (units : UnitsOf child options w) → IsResult child options w (Finished units.project (rows_for child options w units))

-- The headline follows from what `Builds` says about a build: how its work ended, and what was
-- written after that. So the headline is true for the program's build, which promises only
-- `Builds`.
abbrev pub BuildsKeepHeadline : {S : Type 0} → (S → List ℕ → List ℕ → Step → S → Type 0) → Type 0
BuildsKeepHeadline {S} Turns = (is_modelled : Bool) (child : Answers) (options : Options) (from last : S) (result : Result Summary BuildFault) (old new : BuildState) → Builds is_modelled child Turns options from last result old new
    → Headline is_modelled child (ByTurns Turns from) options result old new

-- the headline is also true for a build that always picks the first unit that may begin
abbrev pub FirstBuildsKeepHeadline : Type 0
FirstBuildsKeepHeadline = (is_modelled : Bool) (child : Answers) (options : Options) (result : Result Summary BuildFault) (old new : BuildState) → BuildsFirst is_modelled child options result old new → Headline is_modelled child (ByFirst options) options result old new
