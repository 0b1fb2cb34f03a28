-- A session is a list of edits and builds. These definitions say how each build of a session ended,
-- with the cause.
use Rattle.std.specs.Prelude.{◌≡◌, ◌↔◌, ⊤, ℕ, Bool, true, List, [], ◌∷◌, ◌++◌, Result}
use Rattle.pb_place_types.specs.Sinks.{SinkState}
use Rattle.pb_place_types.specs.World.{World, Answers, FilesHavePaths, written, removed}
use Rattle.pb_place.specs.Memory.{Held, at_in, set, unset}
use Rattle.pb_place.specs.Tallies.{one_setting}
use Rattle.pb_place.specs.declared.in_flight.Death.{Death}
use Rattle.pb_build_result.specs.declared.bad_unit.BadUnit.{BadUnit}
use Rattle.pb_build_result.specs.declared.fault.BuildFault.{BuildFault}
use Rattle.pb_build_result.specs.declared.summary.Summary.{Summary}
use Rattle.pb_run_flight.specs.Events.{Event}
use Rattle.pb_command_types.specs.declared.project.Project.{Project}
use Rattle.pb_build_session.specs.Deaths.{fault_of}
use Rattle.pb_build_session.specs.declared.pick.PickBy.{PickBy}
use Rattle.pb_build_session.specs.declared.pick.PickBy.TheVariants.{First, Last}
use Rattle.pb_build_session.specs.declared.step.SessionStep.{SessionStep}
use Rattle.pb_build_session.specs.declared.step.SessionStep.TheVariants.{Write, Remove, Set, Unset, Build, Die, Fuse}
use Rattle.pb_build.specs.Ending.{BuildsFirst, BuildsLast}
use Rattle.pb_build_turns.specs.Executor.{BuildState, moment}
use Rattle.pb_build.specs.Environment.{environment_of}
use Rattle.pb_build.specs.Headline.{ByFirst, ByLast, Headline}
use Rattle.pb_build.specs.Kept.{SourcesStay}
use Rattle.pb_build.specs.Result.{BuildResult, IsResult}
use Rattle.pb_workspace_types.specs.declared.options.Options.{Options}

-- A moment of a session. The moment has the answers of the builds so far, and the deaths that are
-- still to come. `fuse` is the number of the call that will fail in the next build, or 0 for no
-- call.
pub record Point : Type 0 where
  pub moment : BuildState
  pub answers : List (Result Summary BuildFault)
  pub fuse : ℕ
  pub deaths : List Death

-- the moment of a session whose place in memory is in this state
abbrev pub point : Held → SinkState → List (Result Summary BuildFault) → Point
point memory heard answers = record { moment = moment (at_in memory) heard; answers = answers; fuse = memory.fuse; deaths = memory.deaths }

-- an edit changes the world to `w`, and nothing else happens
abbrev pub Edits : World → Point → Point → Type 0
Edits w before after = after ≡ record before { moment = record before.moment { world = w } }

-- a build with the pick that the session names
abbrev pub Picked : Bool → Answers → Options → PickBy → Result Summary BuildFault → BuildState → BuildState → Type 0
Picked modelled child options First result old new = BuildsFirst modelled child options result old new
Picked modelled child options Last result old new = BuildsLast modelled child options result old new

-- the schedule of a build with the pick that the session names
abbrev pub ByPicked : PickBy → Options → Project → List (Event BadUnit) → Type 0
ByPicked First options = ByFirst options
ByPicked Last options = ByLast options

-- the same moment, but with the counter `settings` one higher
abbrev pub set_anew : BuildState → BuildState
set_anew m = record m { counts = one_setting m.counts }

-- A build of a session.
pub record CarriesBuild (child : Answers) (options : Options) (pick : PickBy) (before after : Point) : Type 0 where
  pub answer : Result Summary BuildFault
  pub ended : BuildState
  pub picked : Picked true child options pick answer before.moment ended
  -- the build has changed no source, and the headline is true for this build
  pub kept : SourcesStay (environment_of options before.moment.world.variables).target before.moment.world ended.world
  pub headline : Headline true child (ByPicked pick options) options answer before.moment ended
  -- after the build, each file has a normalised absolute path
  pub paths : FilesHavePaths ended.world
  -- if no call and no child was set to fail, and no call had failed before the build, no call of
  -- the build failed
  pub unfailing : before.fuse ≡ 0 → before.deaths ≡ [] → before.moment.counts.failures ≡ 0 → ended.counts.failures ≡ 0
  -- The answer of the build is appended. No call is set to fail any more, and the counter
  -- `settings` is one higher.
  pub behind : after.moment ≡ set_anew ended
  pub answers : after.answers ≡ before.answers ++ answer ∷ []
  pub fuse : after.fuse ≡ 0

-- A step of a session is an edit, a build, or a setting that makes calls fail. A setting has no
-- effect before the next build.
abbrev pub Carries : Answers → SessionStep → Point → Point → Type 0
Carries child (Write path text) before after = Edits (written path text before.moment.world) before after
Carries child (Remove path) before after = Edits (removed path before.moment.world) before after
Carries child (Set name value) before after = Edits (set name value before.moment.world) before after
Carries child (Unset name) before after = Edits (unset name before.moment.world) before after
Carries child (Die key death) before after = after ≡ record before { moment = set_anew before.moment; deaths = before.deaths ++ record { key = key; kind = fault_of death } ∷ [] }
Carries child (Fuse number) before after = after ≡ record before { moment = set_anew before.moment; fuse = number }
Carries child (Build options pick) before after = CarriesBuild child options pick before after

-- the steps were taken one by one
abbrev pub Course : Answers → List SessionStep → Point → Point → Type 0
Course child [] before after = after ≡ before
Course child (step ∷ steps) before after = (mid : Point) × Carries child step before mid × Course child steps mid after

-- Memory ran out in a step. If the step is a build, the build has run, but the build's answer is
-- not noted. A step other than a build has done nothing.
abbrev pub Loses : Answers → SessionStep → Point → Point → Type 0
Loses child (Build options pick) before left = (ended : Point) × CarriesBuild child options pick before ended × (left ≡ record ended { answers = before.answers })
Loses child _ before left = left ≡ before

-- memory ran out in one of the steps; the steps before that step were taken one by one
abbrev pub Breaks : Answers → List SessionStep → Point → Point → Type 0
Breaks child steps before left =
    (done : List SessionStep) × (step : SessionStep) × (rest : List SessionStep) × (steps ≡ done ++ step ∷ rest) × (mid : Point) × Course child done before mid × Loses child step mid left

-- The world after an edit. This definition leaves out what other steps do: for any other step, the
-- result is the world before the step.
abbrev pub edit : SessionStep → World → World
edit (Write path text) w = written path text w
edit (Remove path) w = removed path w
edit (Set name value) w = set name value w
edit (Unset name) w = unset name w
edit _ w = w

-- the present workspace: the world after the edits among these steps
abbrev pub edited : List SessionStep → World → World
edited [] w = w
edited (step ∷ steps) w = edited steps (edit step w)

-- if the step is a build, it uses this target folder
abbrev pub UsesTarget : List ℕ → SessionStep → World → Type 0
UsesTarget target (Build options pick) w = (environment_of options w.variables).target ≡ target
UsesTarget target _ w = ⊤

-- all builds among these steps use this target folder
abbrev pub OneTarget : List ℕ → List SessionStep → World → Type 0
OneTarget target [] w = ⊤
OneTarget target (step ∷ steps) w = UsesTarget target step w × OneTarget target steps (edit step w)

-- Take a build after steps whose builds have the same target folder as this build. However those
-- builds ended, this build has the same result as after the edits alone.
abbrev pub Unaffected : Type 0
Unaffected = (child : Answers) (options : Options) (steps : List SessionStep) (before after : Point) (r : BuildResult)
    → OneTarget (environment_of options (edited steps before.moment.world).variables).target steps before.moment.world → Course child steps before after
    → IsResult child options after.moment.world r ↔ IsResult child options (edited steps before.moment.world) r
