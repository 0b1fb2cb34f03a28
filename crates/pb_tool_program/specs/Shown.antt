-- Law: what is shown of a build changes nothing else.
use Rattle.std.specs.Prelude.{◌≡◌, ℕ, Bool, List, Option, Result, Ok}
use Rattle.pb_build.specs.Ending.{BuildsFirst}
use Rattle.pb_build_result.specs.declared.fault.BuildFault.{BuildFault}
use Rattle.pb_build_result.specs.declared.summary.Summary.{Summary}
use Rattle.pb_build_turns.specs.Executor.{BuildState}
use Rattle.pb_place_types.specs.Counts.{Counts}
use Rattle.pb_place_types.specs.Sinks.{SinkState}
use Rattle.pb_place_types.specs.World.{Answers}
use Rattle.pb_place_types.specs.declared.moved.Moved.{Moved}
use Rattle.pb_tool_arguments.specs.declared.invocation.Invocation.TheVariants.{Build}
use Rattle.pb_tool_arguments.specs.declared.invocation.Shown.{Shown}
use Rattle.pb_tool_explain.specs.declared.entry.Page.{Page}
use Rattle.pb_tool_program.specs.Building.{status_of}
use Rattle.pb_tool_program.specs.Running.{CarriesOut}
use Rattle.pb_workspace_types.specs.declared.options.Options.{Options}

-- A build with these options was made. The status is the one for the build's answer. After the
-- build, neither the world, nor the starts, nor the output changed.
pub record IsBuilt (is_modelled : Bool) (child : Answers) (options : Options) (status : ℕ) (old new : BuildState) : Type 0 where
  pub answer : Result Summary BuildFault
  pub built : BuildState
  pub builds : BuildsFirst is_modelled child options answer old built
  pub told : status ≡ status_of answer
  pub world : new.world ≡ built.world
  pub starts : new.counts.starts ≡ built.counts.starts
  pub heard : new.heard ≡ built.heard

-- With any guard and any settings of what is shown, the program has done a build as `IsBuilt` says.
abbrev pub ShownChangesNothing : {G P O E : Type 0} → Bool → Answers → (G → G → Option (List ℕ) → Counts → SinkState → SinkState → Type 0) → (P → O → E → Shown → Type 0) → Type 0
ShownChangesNothing {G} {P} {O} {E} is_modelled child Guards Told =
    (guard_before guard_after : G) (place : P) (out : O) (err : E) (page : Page) (moved : List Moved)
    (options : Options) (shown : Shown) (status : ℕ) (old new : BuildState) (said_before said_after : SinkState)
    → CarriesOut is_modelled child (Guards guard_before guard_after) (Told place out err) page moved (Ok (Build options shown)) status old new said_before said_after
    → IsBuilt is_modelled child options status old new
