-- The outcome of each unit of a build, determined by the units before it, the child and the
-- sources. These definitions also say which inputs a reply has.
use Rattle.std.specs.Prelude.{◌≡◌, ◌↔◌, ℕ, Bool, true, false, if◌then◌else◌, IsOkAnd, List, length, Option, Some, Result, Ok, Err, option_and_then, slice_get, take}
use Rattle.std.specs.FinMap as finite
use Rattle.std.specs.List.{list_all}
use Rattle.pb_command_reply.specs.Answers.{answered_of}
use Rattle.pb_command.specs.Command.{command_of}
use Rattle.pb_command.specs.Judge.{ended_by, judge, replied_files}
use Rattle.pb_directive.specs.declared.directive.Directive.{Directive}
use Rattle.pb_workspace_types.specs.Settled.{IsSettled}
use Rattle.pb_workspace_types.specs.declared.options.Selection.{Selection}
use Rattle.pb_place_types.specs.World.{World, Answers}
use Rattle.pb_place_types.specs.declared.child.Reply.{Reply}
use Rattle.pb_place_types.specs.declared.command.Command.{Command}
use Rattle.pb_command_types.specs.Targets.{dep_info_of}
use Rattle.pb_command_types.specs.declared.checked_reply.CheckedReply.{CheckedReply}
use Rattle.pb_command_types.specs.declared.fault.UnitFault.{UnitFault}
use Rattle.pb_command_types.specs.declared.project.Project.{Project}
use Rattle.pb_command_types.specs.declared.project.Setup.{Setup}
use Rattle.pb_record.specs.declared.record.InputName.{InputName}
use Rattle.pb_run.specs.Outcome.{Outcome, Waiting, Good, Bad, command_after, outcomes, view_of}
use Rattle.pb_build_laws.specs.Telling.{told_badly, told_well}
use Rattle.pb_unit.specs.Plan.{IsPlan}
use Rattle.pb_unit.specs.declared.plan.Planned.{Planned}

-- The answer in a child's reply to a unit's command. How the child ended, and the dep-info that it
-- left, determine the answer.
abbrev pub answer_in : Project → Planned → Command → Reply → Result CheckedReply UnitFault
answer_in project u c r = answered_of project u c (ended_by r) (option_and_then (finite.get (replied_files u.out r)) (dep_info_of project u))

-- The outcome of a unit, given its child's reply and the answer in this reply. A good outcome has
-- the files of the output folder, the directives if the unit is a run, and messages. A bad outcome
-- has the reason and messages.
abbrev pub given_by : Project → Planned → Reply → Result CheckedReply UnitFault → Outcome
given_by project u r (Ok answered) = Good (replied_files u.out r) answered.directives (told_well project u r.stderr answered.directives)
given_by project u r (Err fault) = Bad record { fault = fault; said = (told_badly u.unit.what fault r.stdout r.stderr).1 } (told_badly u.unit.what fault r.stdout r.stderr).0

-- the outcome of a unit whose child gave this reply to this command
abbrev pub given_to : Project → Planned → Command → Reply → Outcome
given_to project u c r = given_by project u r (answer_in project u c r)

-- the unit has an outcome, and the outcome is good
abbrev pub has_given : Option Outcome → Bool
has_given (Some (Good files directives messages)) = true
has_given _ = false

-- The outcome of a unit, given these outcomes. If this unit needs a unit that is not good, there is
-- no outcome yet. If all needed units are good, the outcome is that of the child's reply to the
-- unit's command in the unit's view.
abbrev pub outcome_after : Answers → Setup → Project → World → List Outcome → Planned → Outcome
outcome_after child setup project sources done u =
    if list_all (λ index. has_given (slice_get done index)) u.needs then given_to project u (command_after setup project done u) (child (command_after setup project done u) (view_of done sources u)) else Waiting

-- A list contains a build's outcomes if and only if two things are true. The list has one outcome
-- for each planned unit. Each outcome is the one that is made from the outcomes before it.
abbrev pub OutcomesAreThese : Type 0
OutcomesAreThese = (child : Answers) (setup : Setup) (project : Project) (sources : World) (os : List Outcome) → (os ≡ outcomes child setup project sources)
    ↔ ((length os ≡ length project.plan.planned) × ((index : ℕ) (u : Planned) → slice_get project.plan.planned index ≡ Some u → slice_get os index ≡ Some (outcome_after child setup project sources (take index os) u)))

-- A reply to the command of a planned unit has these inputs if and only if the reply contains a
-- good answer with these inputs.
abbrev pub InputsAreJudged : Type 0
InputsAreJudged = (setup : Setup) (project : Project) (u : Planned) (done : List (Option (List Directive))) (selection : Selection) (index : ℕ) (r : Reply) (names : List InputName)
    → IsSettled project.workspace → IsPlan project.workspace project.features selection project.profile project.plan → slice_get project.plan.planned index ≡ Some u
    → (judge (command_of setup project u done) r ≡ Some names) ↔ IsOkAnd (answer_in project u (command_of setup project u done) r) (λ answered. answered.inputs ≡ names)
