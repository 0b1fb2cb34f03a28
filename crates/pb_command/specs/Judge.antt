-- Which replies to a command are good. The command alone, and not the plan, decides whether a reply
-- is good. So if a unit is no longer in a plan, its answer is still judged in the same way.
use Rattle.std.specs.Prelude.{◌≡◌, ℕ, Bool, if◌then◌else◌, codes, List, [], ◌∷◌, ◌++◌, Option, Some, None, Result, Ok, Err, slice_get}
use Rattle.std.specs.FinMap as finite
use Rattle.std.specs.Str.{bytes_eq}
use Rattle.pb_directive.specs.declared.directive.Directive.{Directive}
use Rattle.pb_place_types.specs.Folders.{files_in}
use Rattle.pb_place_types.specs.World.{Map, put_files}
use Rattle.pb_place_types.specs.declared.child.Reply.{Reply}
use Rattle.pb_place_types.specs.declared.command.Command.{Command}
use Rattle.pb_place_types.specs.declared.command.Ended.{Ended}
use Rattle.pb_workspace_types.specs.Settled.{IsSettled}
use Rattle.pb_workspace_types.specs.declared.options.Selection.{Selection}
use Rattle.pb_unit.specs.Laws.{last_word}
use Rattle.pb_unit.specs.Plan.{IsPlan}
use Rattle.pb_unit.specs.declared.plan.Planned.{Planned}
use Rattle.pb_command_types.specs.Targets.{dep_info_of, file_in}
use Rattle.pb_command_types.specs.declared.checked_reply.CheckedReply.{CheckedReply}
use Rattle.pb_record.specs.declared.record.InputName.{InputName}
use Rattle.pb_command_types.specs.declared.fault.UnitFault.{UnitFault}
use Rattle.pb_command_types.specs.declared.project.Project.{Project}
use Rattle.pb_command_types.specs.declared.project.Setup.{Setup}
use Rattle.pb_command_reply.specs.Answers.{compile_answered, run_answered, unless_fault, ended_fault, answered_of}
use Rattle.pb_command.specs.Command.{command_of}

-- how the child that gave this reply ended
abbrev pub ended_by : Reply → Ended
ended_by r = record { status = r.status; stdout = r.stdout; stderr = r.stderr }

-- the files that this reply puts into an empty output folder
abbrev pub replied_files : List ℕ → Reply → Map
replied_files out r = files_in out (put_files out r.files finite.empty)

abbrev pub file_at : Option (List ℕ) → Map → Option (List ℕ)
file_at None files = None
file_at (Some path) files = finite.get files path

-- the output folder belongs to a run: the last word of the folder's path is `run`
abbrev pub is_of_run : List ℕ → Bool
is_of_run out = bytes_eq (last_word out) (codes "run")

-- The name of the compiled crate is the second argument. This definition does not check that the
-- first argument is `--crate-name`, as it is in each compile of a plan.
abbrev pub crate_in : List (List ℕ) → List ℕ
crate_in [] = []
crate_in (option ∷ []) = []
crate_in (option ∷ name ∷ words) = name

-- the content of a compile's dep-info, which is the file `C.d` in the compile's output folder
abbrev pub dep_info_in : Command → List ℕ → Map → Option (List ℕ)
dep_info_in c out files = file_at (file_in out (crate_in c.words ++ codes ".d")) files

-- The answer of a child that ended in this way and left these files. For a run, relative paths
-- start at the command's folder.
abbrev pub answered_in : Command → List ℕ → Ended → Map → Result CheckedReply UnitFault
answered_in c out e files = unless_fault (ended_fault e) (if is_of_run out then run_answered c c.folder e else compile_answered c (dep_info_in c out files))

-- the names of the inputs that a good answer has, or `None` for a bad answer
abbrev pub inputs_if : Result CheckedReply UnitFault → Option (List InputName)
inputs_if (Ok answered) = Some answered.inputs
inputs_if (Err fault) = None

abbrev pub judge_in : Command → Option (List ℕ) → Reply → Option (List InputName)
judge_in c None r = None
judge_in c (Some out) r = inputs_if (answered_in c out (ended_by r) (replied_files out r))

-- the names of the inputs that a good reply to a command has, or `None` for a bad reply
unfoldable pub judge : Command → Reply → Option (List InputName)
judge c r = judge_in c c.out r

-- For the command of each unit of a plan, `judge` accepts a reply if and only if the unit's answer
-- is good. For a good answer, `judge` returns the answer's inputs.
abbrev pub JudgesAsAnswered : Type 0
JudgesAsAnswered = (setup : Setup) (project : Project) (u : Planned) (done : List (Option (List Directive))) (selection : Selection) (index : ℕ) (r : Reply)
    → IsSettled project.workspace → IsPlan project.workspace project.features selection project.profile project.plan → slice_get project.plan.planned index ≡ Some u
    → judge (command_of setup project u done) r ≡ inputs_if (answered_of project u (command_of setup project u done) (ended_by r) (file_at (dep_info_of project u) (replied_files u.out r)))
