-- How units come to their outcomes, one by one. The outcome of each unit follows from the outcomes
-- of the units before it.
use Rattle.std.specs.Prelude.{ℕ, Bool, true, false, if◌then◌else◌, List, [], ◌∷◌, ◌++◌, map, Option, Some, None, Result, Ok, Err, slice_get, ◌≡◌, take}
use Rattle.std.specs.FinMap as finite
use Rattle.std.specs.List.{list_all}
use Rattle.pb_build_result.specs.declared.bad_unit.BadUnit.{BadUnit}
use Rattle.pb_command.specs.Command.{command_of}
use Rattle.pb_command.specs.Judge.{ended_by, replied_files, file_at}
use Rattle.pb_directive.specs.declared.directive.Directive.{Directive}
use Rattle.pb_command_reply.specs.Answers.{answered_of}
use Rattle.pb_message.specs.declared.message.Message.{Message}
use Rattle.pb_place_types.specs.Folders.{over}
use Rattle.pb_place_types.specs.World.{World, Map, Answers}
use Rattle.pb_place_types.specs.declared.child.Reply.{Reply}
use Rattle.pb_place_types.specs.declared.command.Command.{Command}
use Rattle.pb_place_types.specs.declared.command.Ended.{Ended}
use Rattle.pb_command_types.specs.Targets.{dep_info_of}
use Rattle.pb_command_types.specs.declared.checked_reply.CheckedReply.{CheckedReply}
use Rattle.pb_command_types.specs.declared.fault.UnitFault.{UnitFault}
use Rattle.pb_command_types.specs.declared.project.Project.{Project}
use Rattle.pb_command_types.specs.declared.project.Setup.{Setup}
use Rattle.pb_record.specs.declared.record.InputName.{InputName}
use Rattle.pb_run.specs.declared.ran.Validated.{Validated}
use Rattle.pb_run.specs.declared.ran.Ran.{Ran}
use Rattle.pb_unit.specs.declared.plan.Planned.{Planned}
use Rattle.pb_message_units.specs.Telling.{good_messages, bad_messages, said_by}

-- The outcome of a unit. A good outcome has the files of the unit's output folder, the directives
-- of a run, and messages. A bad outcome has the reason and messages. A unit without an outcome is
-- waiting.
pub data Outcome : Type 0 where
  Waiting : Outcome
  Good : (files : Map) (directives : Option (List Directive)) (messages : List Message) → Outcome
  Bad : (bad : BadUnit) (messages : List Message) → Outcome

abbrev pub is_good : Outcome → Bool
is_good Waiting = false
is_good (Good files directives messages) = true
is_good (Bad bad messages) = false

abbrev pub is_good_at : Option Outcome → Bool
is_good_at None = false
is_good_at (Some o) = is_good o

-- A table with an entry for each unit. Each entry is made from the earlier entries, and appended to
-- these. `tabled` is the whole table.
abbrev pub tabled_from : {U A : Type 0} → (List A → U → A) → List A → List U → List A
tabled_from step done [] = done
tabled_from step done (u ∷ us) = tabled_from step (done ++ step done u ∷ []) us

abbrev pub tabled : {U A : Type 0} → (List A → U → A) → List U → List A
tabled step us = tabled_from step [] us

-- What a unit sees.

abbrev pub files_at : Option Outcome → Map
files_at (Some (Good files directives messages)) = files
files_at _ = finite.empty

-- the files of `m`, overlaid with the files of the units at these indices
abbrev pub with_made : List Outcome → List ℕ → Map → Map
with_made done [] m = m
with_made done (index ∷ indices) m = over (files_at (slice_get done index)) (with_made done indices m)

-- what a unit sees in a clean build: the sources, and the files of each unit that this unit reaches
abbrev pub view_of : List Outcome → World → Planned → World
view_of done sources u = record sources { files = with_made done u.reaches sources.files }

-- How the reply of a unit's child is judged.

-- what came of a unit, given how its child ended and how the child's reply was judged
abbrev pub ran_by : Project → Planned → Ended → Result CheckedReply UnitFault → Ran
ran_by project u e (Ok a) = record { started = true; bad = None; directives = a.directives; messages = good_messages project u e.stderr a.directives }
ran_by project u e (Err fault) = record { started = true; bad = Some record { fault = fault; said = said_by u.unit.what fault e }; directives = None; messages = bad_messages u.unit.what fault e }

-- the names of the inputs that a good answer has, or no names for a bad answer
abbrev pub names_in : Result CheckedReply UnitFault → List InputName
names_in (Ok a) = a.inputs
names_in (Err fault) = []

-- what came of a unit, together with the names of its inputs
abbrev pub judgement_by : Project → Planned → Ended → Result CheckedReply UnitFault → Validated
judgement_by project u e a = record { ran = ran_by project u e a; names = names_in a }

-- what came of a unit, changed to say that no child was started
abbrev pub unstarted : Ran → Ran
unstarted ran = record { started = false; bad = ran.bad; directives = ran.directives; messages = ran.messages }

abbrev pub outcome_from : Option BadUnit → Map → Option (List Directive) → List Message → Outcome
outcome_from None files directives messages = Good files directives messages
outcome_from (Some bad) files directives messages = Bad bad messages

-- the outcome of a unit: what came of it, together with the files in its output folder
abbrev pub outcome_by : Map → Ran → Outcome
outcome_by files ran = outcome_from ran.bad files ran.directives ran.messages

-- what came of a unit whose child ended in this way and left these files
abbrev pub ran_of : Project → Planned → Command → Ended → Map → Ran
ran_of project u c e files = ran_by project u e (answered_of project u c e (file_at (dep_info_of project u) files))

-- the outcome of a unit whose child gave this reply to this command
abbrev pub judged : Project → Planned → Command → Reply → Outcome
judged project u c r = outcome_by (replied_files u.out r) (ran_of project u c (ended_by r) (replied_files u.out r))

-- The outcomes of all units.

abbrev pub directives_in : Outcome → Option (List Directive)
directives_in Waiting = None
directives_in (Good files directives messages) = directives
directives_in (Bad bad messages) = None

-- the directives of the units that have an outcome so far
abbrev pub directives_of : List Outcome → List (Option (List Directive))
directives_of done = map directives_in done

-- the command of a unit, given the outcomes of the units before it
abbrev pub command_after : Setup → Project → List Outcome → Planned → Command
command_after setup project done u = command_of setup project u (directives_of done)

-- The outcome of a unit, given the outcomes of the units before it. If this unit needs a unit that
-- is not good, the outcome is `Waiting`. Otherwise the child replies to the unit's command in the
-- unit's view, and the outcome is the judgement of this reply.
abbrev pub outcome_of : Answers → Setup → Project → World → List Outcome → Planned → Outcome
outcome_of child setup project sources done u =
    if list_all (λ index. is_good_at (slice_get done index)) u.needs then judged project u (command_after setup project done u) (child (command_after setup project done u) (view_of done sources u)) else Waiting

-- the outcomes of all units in a clean build, in plan order
abbrev pub outcomes : Answers → Setup → Project → World → List Outcome
outcomes child setup project sources = tabled (outcome_of child setup project sources) project.plan.planned

-- the outcome of each unit follows from the outcomes of the units before it
abbrev pub Unfolds : Type 0
Unfolds = (child : Answers) (setup : Setup) (project : Project) (sources : World) (i : ℕ) (u : Planned) → slice_get project.plan.planned i ≡ Some u
    → slice_get (outcomes child setup project sources) i ≡ Some (outcome_of child setup project sources (take i (outcomes child setup project sources)) u)
