-- What `pb_tool build --dry-run` does.
use Rattle.std.specs.Prelude.{◌≡◌, ◌⊎◌, ℕ, Bool, codes, List, Option, IsTrue, IfErr, IfOk, MatchResult, Result, Ok, Err}
use Rattle.pb_build.specs.AnyPlan.{Readies}
use Rattle.pb_build.specs.Ending.{PlansFrom}
use Rattle.pb_build.specs.declared.builder.BuildPlan.{BuildPlan}
use Rattle.pb_build.specs.declared.builder.Prepared.{Prepared}
use Rattle.pb_build_result.specs.declared.fault.BuildFault.{BuildFault}
use Rattle.pb_build_turns.specs.Executor.{BuildState}
use Rattle.pb_directive.specs.declared.directive.Directive.{Directive}
use Rattle.pb_place_types.specs.Counts.{up_starts}
use Rattle.pb_place_types.specs.Sinks.{SinkState}
use Rattle.pb_place_types.specs.World.{Answers}
use Rattle.pb_run.specs.Steps.{HasCause}
use Rattle.pb_tool_preview.specs.Foreseeing.{Foresees, LooksAtSome}
use Rattle.pb_tool_preview.specs.Telling.{preview_lines}
use Rattle.pb_tool_preview.specs.declared.fate.Fate.{Fate}
use Rattle.pb_tool_program.specs.Libraries.{NotesOf}
use Rattle.pb_tool_program.specs.Planning.{EndsPlan}
use Rattle.pb_tool_program.specs.Writing.{Tells}
use Rattle.pb_unit.specs.declared.plan.Planned.{Planned}
use Rattle.pb_workspace_types.specs.declared.options.Options.{Options}

-- the line that is written if there is no memory to show what would be started
abbrev pub fates_lost : List ℕ
fates_lost = codes "note: there is no memory to show the units that would be started\n"

-- either the lines say what a build would do with these units, or one line says that memory ran out
abbrev pub TellsFates : List Planned → List Fate → SinkState → SinkState → Type 0
TellsFates units fates old new = Tells (preview_lines units fates) old new ⊎ Tells fates_lost old new

-- Either the fates of the units were written, or the comparison of the units ended with a fault and
-- nothing was written.
abbrev pub TellsBy : List Planned → Result (List Fate) BuildFault → Result (Unit {0}) BuildFault → SinkState → SinkState → Type 0
TellsBy units (Ok fates) answer old new = (answer ≡ Ok tt) × TellsFates units fates old new
TellsBy units (Err fault) answer old new = (answer ≡ Err fault) × (new ≡ old)

-- The prepared units were compared with their records, and the program wrote what a build would do
-- with these units. The fates follow from the records in this world. Nothing changed but counters.
-- If a call failed, no call came after it.
pub record Foretells (is_modelled : Bool) (prepared : Prepared) (answer : Result (Unit {0}) BuildFault) (old new : BuildState) (said_before said_after : SinkState) : Type 0 where
  pub fates : Result (List Fate) BuildFault
  pub are : IsTrue is_modelled → IfOk fates (λ found. (done : List (Option (List Directive))) × Foresees prepared.setup prepared.project old.world prepared.project.plan.planned found done)
  pub world : new.world ≡ old.world
  pub starts : new.counts.starts ≡ old.counts.starts
  pub most : new.most ≡ old.most
  pub heard : new.heard ≡ old.heard
  pub cause : MatchResult fates (λ found. new.counts.failures ≡ old.counts.failures) (λ e. HasCause e old.counts new.counts)
  pub at : IfErr fates (LooksAtSome prepared.project)
  pub told : TellsBy prepared.project.plan.planned fates answer said_before said_after

-- Either the prepared units were compared with their records, or the preparation failed and nothing
-- more was done.
abbrev pub ForetellsIf : Bool → Result Prepared BuildFault → Result (Unit {0}) BuildFault → BuildState → BuildState → SinkState → SinkState → Type 0
ForetellsIf is_modelled (Ok prepared) answer old new said_before said_after = Foretells is_modelled prepared answer old new said_before said_after
ForetellsIf is_modelled (Err fault) answer old new said_before said_after = (answer ≡ Err fault) × (new ≡ old) × (said_after ≡ said_before)

-- The units of a plan were prepared as for a build. Then the units were compared with their
-- records, unless the preparation failed.
pub record LooksAhead (is_modelled : Bool) (child : Answers) (options : Options) (plan : Result BuildPlan BuildFault) (answer : Result (Unit {0}) BuildFault) (old new : BuildState) (said_before said_after : SinkState) : Type 0 where
  pub prepared : Result Prepared BuildFault
  pub readied : BuildState
  pub readies : Readies is_modelled child options plan prepared old readied
  pub foretells : ForetellsIf is_modelled prepared answer readied new said_before said_after

-- A build was planned and prepared, and the build's units were compared with their records, but no
-- unit has begun. Nothing was changed, and nothing was output. No child was started except the one
-- that reports the compiler's version.
pub record PreviewsTold (is_modelled : Bool) (child : Answers) (options : Options) (status : ℕ) (old new : BuildState) (said_before said_after : SinkState) : Type 0 where
  -- what is true of the whole preview
  pub unchanged : IsTrue is_modelled → new.world ≡ old.world
  pub query : (new.counts.starts ≡ old.counts.starts) ⊎ (new.counts.starts ≡ up_starts old.counts.starts)
  pub heard : new.heard ≡ old.heard
  -- the plan of the build
  pub plan : Result BuildPlan BuildFault
  pub planned : BuildState
  pub plans : PlansFrom is_modelled options plan old planned
  -- notes about the plan's packages without a library were written
  pub noted : SinkState
  pub notes : NotesOf plan said_before noted
  -- the program wrote what the build would start
  pub answer : Result (Unit {0}) BuildFault
  pub ahead : BuildState
  pub said : SinkState
  pub looks : LooksAhead is_modelled child options plan answer planned ahead noted said
  -- the status is 0, or a fault is reported as `pb_tool plan` reports it
  pub ends : EndsPlan answer status ahead new said said_after
