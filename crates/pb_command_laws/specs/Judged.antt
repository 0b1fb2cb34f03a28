-- How the answer of a unit's child is judged. The definitions do not follow the code (The Cargo
-- Book, Build Cache, Build Scripts).
use Rattle.std.specs.Prelude.{◌≡◌, ◌≢◌, ◌≤◌, ◌↔◌, ℕ, Bool, true, false, ◌&&◌, not, ◌++◌, ◌==◌, if◌then◌else◌, codes, List, [], ◌∷◌, filter, length, map, Option, Some, None, pos, Result, Ok, Err}
use Rattle.std.specs.List.{find, flat_map, list_any}
use Rattle.std.specs.Option.{option_to_list}
use Rattle.std.specs.Result.{result_ok}
use Rattle.pb_data.specs.Limits.{max_stream_bytes}
use Rattle.pb_command_reply.specs.Answers.{answered_of, inherited}
use Rattle.pb_data.specs.OrderedSet.{once}
use Rattle.pb_directive.specs.DepInfo.{dep_info_of}
use Rattle.pb_directive.specs.Directives.{directives_of}
use Rattle.pb_directive.specs.declared.dep_info.DepInfo.{DepInfo}
use Rattle.pb_directive.specs.declared.directive.Directive.{Directive}
use Rattle.pb_directive.specs.declared.fault.LineFault.{LineFault}
use Rattle.pb_place_types.specs.Paths.{is_at_or_below, joined}
use Rattle.pb_place_types.specs.declared.command.Command.{Command}
use Rattle.pb_place_types.specs.declared.command.Ended.{Ended}
use Rattle.pb_command_types.specs.Targets.{folder_of, is_run}
use Rattle.pb_command_types.specs.declared.checked_reply.CheckedReply.{CheckedReply}
use Rattle.pb_command_types.specs.declared.fault.UnitFault.{UnitFault}
use Rattle.pb_command_types.specs.declared.fault.UnitFault.TheVariants as unit_fault
use Rattle.pb_command_types.specs.declared.project.Project.{Project}
use Rattle.pb_record.specs.declared.record.InputName.TheVariants.{Path, Variable}
use Rattle.pb_unit.specs.declared.plan.Planned.{Planned}
use Rattle.pb_unit.specs.declared.unit.What.{What}
use Rattle.pb_command_laws.specs.Compiles.{asked}

-- The bytes are at most 4 MiB. No stream of a child and no dep-info may be longer.
abbrev pub IsShort : List ℕ → Type 0
IsShort bytes = length bytes ≤ max_stream_bytes

-- the child ended well: its two streams are short, and its status is 0
abbrev pub EndedWell : Ended → Type 0
EndedWell e = IsShort e.stdout × IsShort e.stderr × (e.status ≡ pos 0)

-- the path that a text spells if relative texts start at this folder; a text with byte 0 spells no
-- path
abbrev pub path_said : List ℕ → List ℕ → List (List ℕ)
path_said folder text = option_to_list (result_ok (joined folder text))

-- the paths that these texts spell if relative texts start at this folder; each path occurs once,
-- in order of first mention
abbrev pub paths_said : List ℕ → List (List ℕ) → List (List ℕ)
paths_said folder texts = once (flat_map (path_said folder) texts)

-- the dep-info of a compile exists, is short, and is read as `info`
abbrev pub HasInfo : Option (List ℕ) → DepInfo → Type 0
HasInfo file info = (bytes : List ℕ) × (file ≡ Some bytes) × IsShort bytes × (dep_info_of bytes ≡ Ok info)

-- the path is in the target folder, but in no folder that the command may read
abbrev pub is_foreign : Command → List ℕ → Bool
is_foreign c path = is_at_or_below c.target path && not (list_any (λ folder. is_at_or_below folder path) c.reads)

-- The paths and variables that a child reports as inputs.
-- - A compile reports what its dep-info names, except variables that the command sets.
-- - A run reports what its lines name as inputs. If its lines name none, the run reports its
--   package's folder.
pub data ReportsInputs (what : What) (c : Command) (folder : List ℕ) (e : Ended) (dep_info : Option (List ℕ)) : Option (List Directive) → List (List ℕ) → List (List ℕ) → Type 0 where
  compile : (is : is_run what ≡ false) (info : DepInfo) (read : HasInfo dep_info info) → ReportsInputs what c folder e dep_info None (paths_said c.folder info.words) (inherited c info.variables)
  run : (is : is_run what ≡ true) (said : List Directive) (read : directives_of e.stdout ≡ Ok said) (fine : asked (codes "error") said ≡ []) → ReportsInputs what c folder e dep_info (Some said)
      (if length (asked (codes "rerun-if-changed") said ++ asked (codes "rerun-if-env-changed") said) == 0 then folder ∷ [] else paths_said folder (asked (codes "rerun-if-changed") said)) (once (asked (codes "rerun-if-env-changed") said))

-- The answer of a child. How the child ended is checked first, then a run's lines or a compile's
-- dep-info, and then the inputs. If no path is foreign, the inputs are the paths outside the target
-- folder, and the variables.
pub data IsAnswer (what : What) (c : Command) (folder : List ℕ) (e : Ended) (dep_info : Option (List ℕ)) : Result CheckedReply UnitFault → Type 0 where
  too_long : (is : IsShort e.stdout × IsShort e.stderr → ⊥) → IsAnswer what c folder e dep_info (Err unit_fault.OutputTooLong)
  status : (short : IsShort e.stdout × IsShort e.stderr) (is : e.status ≢ pos 0) → IsAnswer what c folder e dep_info (Err (unit_fault.Status e.status))
  no_dep_info : (well : EndedWell e) (is : is_run what ≡ false) (none : (info : DepInfo) → HasInfo dep_info info → ⊥) → IsAnswer what c folder e dep_info (Err unit_fault.NoDepInfo)
  bad_line : (well : EndedWell e) (is : is_run what ≡ true) (fault : LineFault) (read : directives_of e.stdout ≡ Err fault) → IsAnswer what c folder e dep_info (Err (unit_fault.Directive fault))
  script_error : (well : EndedWell e) (is : is_run what ≡ true) (said : List Directive) (read : directives_of e.stdout ≡ Ok said) (some : asked (codes "error") said ≢ []) → IsAnswer what c folder e dep_info (Err unit_fault.ScriptError)
  refused : (well : EndedWell e) (said : Option (List Directive)) (paths variables : List (List ℕ)) (told : ReportsInputs what c folder e dep_info said paths variables) (path : List ℕ) (foreign : find (is_foreign c) paths ≡ Some path)
      → IsAnswer what c folder e dep_info (Err (unit_fault.ForeignInput path))
  good : (well : EndedWell e) (paths variables : List (List ℕ)) (answered : CheckedReply) (told : ReportsInputs what c folder e dep_info answered.directives paths variables) (none : find (is_foreign c) paths ≡ None)
      (inputs : answered.inputs ≡ map Path (filter (λ path. not (is_at_or_below c.target path)) paths) ++ map Variable variables) → IsAnswer what c folder e dep_info (Ok answered)

abbrev pub AnswersSay : Type 0
AnswersSay = (project : Project) (u : Planned) (c : Command) (e : Ended) (dep_info : Option (List ℕ)) (answer : Result CheckedReply UnitFault)
    → (answered_of project u c e dep_info ≡ answer) ↔ IsAnswer u.unit.what c (folder_of project u) e dep_info answer
