-- What `pb_tool plan` does.
use Rattle.std.specs.Prelude.{◌≡◌, ℕ, Bool, true, false, List, Result, Ok, Err, None}
use Rattle.pb_build_result.specs.declared.fault.BuildFault.{BuildFault}
use Rattle.pb_build_result.specs.declared.fault.BuildFault.TheVariants as build_fault
use Rattle.pb_build_turns.specs.Executor.{BuildState}
use Rattle.pb_build.specs.Ending.{PlansFrom}
use Rattle.pb_build.specs.declared.builder.BuildPlan.{BuildPlan}
use Rattle.pb_place_types.specs.Sinks.{SinkState}
use Rattle.pb_tool_arguments.specs.declared.invocation.PlanForm.{PlanForm}
use Rattle.pb_tool_arguments.specs.declared.invocation.PlanForm.TheVariants.{Lines, Json, Dot}
use Rattle.pb_tool_notes_pages.specs.Notes.{AreNotes}
use Rattle.pb_tool_plan.specs.Texts.{plan_lines, plan_json, plan_dot}
use Rattle.pb_tool_program.specs.Building.{Concludes, LooksTwice, Reported}
use Rattle.pb_tool_program.specs.Writing.{Writes}
use Rattle.pb_unit.specs.declared.plan.Plan.{Plan}
use Rattle.pb_workspace_types.specs.declared.options.Options.{Options}

-- the text of a plan in this form
abbrev pub plan_text : PlanForm → Plan → List ℕ
plan_text Lines plan = plan_lines plan
plan_text Json plan = plan_json plan
plan_text Dot plan = plan_dot plan

-- Either the text was written as output, or the sink failed after a prefix of the text, or memory
-- ran out and nothing was written.
abbrev pub PrintsText : List ℕ → Result (Unit {0}) BuildFault → SinkState → SinkState → Type 0
PrintsText text (Ok done) old new = Writes true text old new
PrintsText text (Err build_fault.Sink) old new = Writes false text old new
PrintsText text (Err build_fault.OutOfMemory) old new = new ≡ old
PrintsText text (Err fault) old new = ⊥

-- The text of the plan was written. If there is no plan, nothing was written, and the fault is the
-- fault of the planning.
abbrev pub PrintsPlan : PlanForm → Result BuildPlan BuildFault → Result (Unit {0}) BuildFault → SinkState → SinkState → Type 0
PrintsPlan form (Ok plan) answer old new = PrintsText (plan_text form plan.project.plan) answer old new
PrintsPlan form (Err fault) answer old new = (answer ≡ Err fault) × (new ≡ old)

-- A plan was made and its text was written. No further call was made, and nothing else was written.
pub record PrintsFrom (is_modelled : Bool) (options : Options) (form : PlanForm) (answer : Result (Unit {0}) BuildFault) (old new : BuildState) : Type 0 where
  pub plan : Result BuildPlan BuildFault
  pub planned : BuildState
  pub plans : PlansFrom is_modelled options plan old planned
  pub heard : SinkState
  pub prints : PrintsPlan form plan answer old.heard heard
  pub rests : new ≡ record planned { heard = heard }

-- How the command ends if its plan was refused, failed or could not be written. After a refusal, a
-- second look is made. Then the command writes what `build` writes after the same fault.
pub record PlanFails (fault : BuildFault) (status : ℕ) (old new : BuildState) (said_before said_after : SinkState) : Type 0 where
  pub notes : List (List ℕ)
  pub are_notes : AreNotes notes
  pub looked : LooksTwice (Err fault) notes old new
  pub report : List (List ℕ)
  pub reports : Reported (Err fault) report
  pub concluded : Concludes None true (Err fault) report notes status said_before said_after

-- How the command ends. If the plan was written, the status is 0, and nothing else is done or
-- written. Otherwise the command ends as `PlanFails` says.
abbrev pub EndsPlan : Result (Unit {0}) BuildFault → ℕ → BuildState → BuildState → SinkState → SinkState → Type 0
EndsPlan (Ok done) status old new said_before said_after = (status ≡ 0) × (new ≡ old) × (said_after ≡ said_before)
EndsPlan (Err fault) status old new said_before said_after = PlanFails fault status old new said_before said_after

-- Either a plan with these options was made and was written in this form, or the command wrote why
-- there was a failure. No child was started, and no file was changed.
pub record PlansTold (is_modelled : Bool) (options : Options) (form : PlanForm) (status : ℕ) (old new : BuildState) (said_before said_after : SinkState) : Type 0 where
  pub answer : Result (Unit {0}) BuildFault
  pub printed : BuildState
  pub prints : PrintsFrom is_modelled options form answer old printed
  pub ends : EndsPlan answer status printed new said_before said_after
