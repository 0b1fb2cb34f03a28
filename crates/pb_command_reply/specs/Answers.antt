-- How the reply of a unit's child is judged, and which inputs a good reply has (The Cargo Book,
-- Build Cache, Build Scripts).
use Rattle.std.specs.Prelude.{ℕ, Bool, true, false, not, ◌||◌, ◌&&◌, nat_lt, if◌then◌else◌, List, [], ◌∷◌, ◌++◌, map, filter, length, Option, Some, None, pos, Result, Ok, Err}
use Rattle.std.specs.List.{flat_map, find, list_any}
use Rattle.std.specs.Ordering.{int_eq}
use Rattle.pb_data.specs.Limits.{max_stream_bytes}
use Rattle.pb_data.specs.UnlessOom.{◌>>=◌, lifted}
use Rattle.pb_data.specs.OrderedSet.{is_mentioned, once}
use Rattle.pb_directive.specs.DepInfo.{dep_info_of}
use Rattle.pb_directive.specs.Directives.{directives_of}
use Rattle.pb_directive.specs.declared.dep_info.DepInfo.{DepInfo}
use Rattle.pb_directive.specs.declared.directive.Directive.{Directive}
use Rattle.pb_directive.specs.declared.directive.Directive.TheVariants.{Error, RerunIfChanged, RerunIfEnvChanged}
use Rattle.pb_directive.specs.declared.fault.LineFault.{LineFault}
use Rattle.pb_place_types.specs.Paths.{joined, is_at_or_below}
use Rattle.pb_place_types.specs.declared.command.Command.{Command}
use Rattle.pb_place_types.specs.declared.command.Ended.{Ended}
use Rattle.pb_place_types.specs.declared.path.PathFault.{PathFault}
use Rattle.pb_unit.specs.declared.plan.Planned.{Planned}
use Rattle.pb_unit.specs.declared.unit.What.{What}
use Rattle.pb_unit.specs.declared.unit.What.TheVariants.{Run}
use Rattle.pb_command_types.specs.declared.checked_reply.CheckedReply.{CheckedReply}
use Rattle.pb_record.specs.declared.record.InputName.{InputName}
use Rattle.pb_record.specs.declared.record.InputName.TheVariants.{Path, Variable}
use Rattle.pb_command_types.specs.declared.fault.UnitFault.{UnitFault}
use Rattle.pb_command_types.specs.declared.fault.UnitFault.TheVariants as unit_fault
use Rattle.pb_command_types.specs.declared.project.Project.{Project}
use Rattle.pb_command_types.specs.Targets.{folder_of}

-- How the child ended.

-- a child's stream or dep-info has more bytes than we accept
abbrev pub is_too_long : List ℕ → Bool
is_too_long bytes = nat_lt max_stream_bytes (length bytes)

-- The fault with which a child ended, if there is one. Streams that are too long are checked first,
-- and then a status other than 0.
abbrev pub ended_fault : Ended → Option UnitFault
ended_fault e = if is_too_long e.stdout || is_too_long e.stderr then Some unit_fault.OutputTooLong else (if int_eq e.status (pos 0) then None else Some (unit_fault.Status e.status))

-- Inputs.

abbrev pub path_or_none : Result (List ℕ) PathFault → List (List ℕ)
path_or_none (Ok path) = path ∷ []
path_or_none (Err fault) = []

-- the path that a text spells if relative texts start at this folder; a text with byte 0 spells no
-- path
unfoldable pub path_said : List ℕ → List ℕ → List (List ℕ)
path_said folder text = path_or_none (joined folder text)

-- the paths that these texts spell if relative texts start at this folder; each path occurs once,
-- in order of first mention
abbrev pub paths_from : List ℕ → List (List ℕ) → List (List ℕ)
paths_from folder texts = once (flat_map (path_said folder) texts)

-- the path is at or below a folder that the command may read
unfoldable pub is_covered : Command → List ℕ → Bool
is_covered command path = list_any (λ folder. is_at_or_below folder path) command.reads

-- the path is in the target folder, but not at or below a folder that the command may read
unfoldable pub is_foreign : Command → List ℕ → Bool
is_foreign command path = is_at_or_below command.target path && not (is_covered command path)

unfoldable pub is_source : Command → List ℕ → Bool
is_source command path = not (is_at_or_below command.target path)

abbrev pub unless_foreign : Option (List ℕ) → List (List ℕ) → Result (List (List ℕ)) UnitFault
unless_foreign None paths = Ok paths
unless_foreign (Some path) paths = Err (unit_fault.ForeignInput path)

-- the paths outside the target folder; if there is a foreign path, the first foreign path is a
-- fault
abbrev pub sources_in : Command → List (List ℕ) → Result (List (List ℕ)) UnitFault
sources_in command paths = unless_foreign (find (is_foreign command) paths) (filter (is_source command) paths)

-- The inputs are first those paths that are outside the target folder, and then the variables. A
-- foreign path is a fault.
abbrev pub inputs_of : Command → List (List ℕ) → List (List ℕ) → Result (List InputName) UnitFault
inputs_of command paths variables = sources_in command paths >>= (λ sources. Ok (map Path sources ++ map Variable variables))

-- Compiles.

-- the dep-info that was read, or the fault `NoDepInfo`
abbrev pub read_or_none : Result DepInfo LineFault → Result DepInfo UnitFault
read_or_none (Ok info) = Ok info
read_or_none (Err fault) = Err unit_fault.NoDepInfo

abbrev pub info_in : List ℕ → Result DepInfo UnitFault
info_in bytes = read_or_none (dep_info_of bytes)

-- the dep-info of a compile, which must exist, must not be too long, and must be readable
abbrev pub read_info : Option (List ℕ) → Result DepInfo UnitFault
read_info None = Err unit_fault.NoDepInfo
read_info (Some bytes) = if is_too_long bytes then Err unit_fault.NoDepInfo else info_in bytes

-- the variables that the command does not set, so that the child inherits them
abbrev pub inherited : Command → List (List ℕ) → List (List ℕ)
inherited command names = filter (λ name. not (is_mentioned (map (λ (pair : List ℕ × List ℕ). pair.0) command.pairs) name)) names

-- The inputs that dep-info names: paths and variables. Relative paths start at the command's
-- folder. Variables that the command sets are left out.
abbrev pub info_inputs : Command → DepInfo → Result (List InputName) UnitFault
info_inputs command info = inputs_of command (paths_from command.folder info.words) (inherited command info.variables)

abbrev pub compile_answered : Command → Option (List ℕ) → Result CheckedReply UnitFault
compile_answered command dep_info = read_info dep_info >>= (λ info. info_inputs command info >>= (λ inputs. Ok record { directives = None; inputs = inputs }))

-- Runs.

abbrev pub changed_path : Directive → List (List ℕ)
changed_path (RerunIfChanged path) = path ∷ []
changed_path _ = []

abbrev pub changed_variable : Directive → List (List ℕ)
changed_variable (RerunIfEnvChanged name) = name ∷ []
changed_variable _ = []

-- the inputs for these paths and variables, each once; relative paths start at this folder
abbrev pub marked_inputs : Command → List ℕ → List (List ℕ) → List (List ℕ) → Result (List InputName) UnitFault
marked_inputs command folder paths names = inputs_of command (paths_from folder paths) (once names)

-- The inputs that the lines `rerun-if-changed` and `rerun-if-env-changed` name. If there are no
-- such lines, the whole folder is the input.
abbrev pub rerun_inputs : Command → List ℕ → List (List ℕ) → List (List ℕ) → Result (List InputName) UnitFault
rerun_inputs command folder [] [] = inputs_of command (folder ∷ []) []
rerun_inputs command folder [] (name ∷ names) = marked_inputs command folder [] (name ∷ names)
rerun_inputs command folder (path ∷ paths) names = marked_inputs command folder (path ∷ paths) names

abbrev pub said_inputs : Command → List ℕ → List Directive → Result (List InputName) UnitFault
said_inputs command folder said = rerun_inputs command folder (flat_map changed_path said) (flat_map changed_variable said)

abbrev pub is_error : Directive → Bool
is_error (Error text) = true
is_error _ = false

abbrev pub unless_error : List Directive → Result (List Directive) UnitFault
unless_error said = if list_any is_error said then Err unit_fault.ScriptError else Ok said

-- the directives of a run, if all lines that the script printed can be read and no line reports an
-- error
abbrev pub said_in : Ended → Result (List Directive) UnitFault
said_in ended = lifted unit_fault.Directive (directives_of ended.stdout) >>= unless_error

abbrev pub run_answered : Command → List ℕ → Ended → Result CheckedReply UnitFault
run_answered command folder ended =
    said_in ended >>= (λ said. said_inputs command folder said >>= (λ inputs. Ok record { directives = Some said; inputs = inputs }))

-- Replies.

abbrev pub answered_by : What → Command → List ℕ → Ended → Option (List ℕ) → Result CheckedReply UnitFault
answered_by Run command folder ended dep_info = run_answered command folder ended
answered_by _ command folder ended dep_info = compile_answered command dep_info

abbrev pub unless_fault : Option UnitFault → Result CheckedReply UnitFault → Result CheckedReply UnitFault
unless_fault None answered = answered
unless_fault (Some fault) answered = Err fault

-- What a unit gets from its child's reply. First comes the check how the child ended. Then a run's
-- lines or a compile's dep-info are read. The inputs come last.
abbrev pub answered_of : Project → Planned → Command → Ended → Option (List ℕ) → Result CheckedReply UnitFault
answered_of project unit command ended dep_info = unless_fault (ended_fault ended) (answered_by unit.unit.what command (folder_of project unit) ended dep_info)

-- the names of the inputs, without the directives
abbrev pub named_in : Result CheckedReply UnitFault → Result (List InputName) UnitFault
named_in (Ok answered) = Ok answered.inputs
named_in (Err fault) = Err fault
