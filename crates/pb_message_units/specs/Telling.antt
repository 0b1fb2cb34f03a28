-- Which messages a unit has (The Cargo Book, External Tools). Messages name a package and a target,
-- and report what the unit's child has answered.
use Rattle.std.specs.Prelude.{ℕ, Bool, true, false, not, if◌then◌else◌, List, [], ◌∷◌, ◌++◌, Option, Some, None, Result, Ok, Err, slice_get, map, find}
use Rattle.std.specs.List.{filter_map}
use Rattle.std.specs.Str.{bytes_eq}
use Rattle.pb_directive.specs.declared.directive.Directive.{Directive}
use Rattle.pb_directive.specs.declared.directive.Directive.TheVariants as says
use Rattle.pb_directive.specs.declared.fault.LineFault.{LineFault}
use Rattle.pb_directive.specs.Directives.{directives_of}
use Rattle.pb_message.specs.Diagnostics.{diagnostics_of, plain_lines_of}
use Rattle.pb_message.specs.Message.{lines_of}
use Rattle.pb_message.specs.Targets.{library_target, binary_target, script_target}
use Rattle.pb_message.specs.declared.message.Level.TheVariants.{Warning, Error}
use Rattle.pb_message.specs.declared.message.Message.{Message}
use Rattle.pb_message.specs.declared.message.Message.TheVariants.{CompilerMessage, CompilerArtifact, BuildScriptNote, BuildScriptExecuted}
use Rattle.pb_message.specs.declared.subject.Subject.{Subject}
use Rattle.pb_message.specs.declared.subject.Target.{Target}
use Rattle.pb_place_types.specs.declared.command.Ended.{Ended}
use Rattle.pb_workspace_types.specs.declared.package.Package.{Package}
use Rattle.pb_workspace_types.specs.declared.package.Library.{Library}
use Rattle.pb_workspace_types.specs.declared.package.Binary.{Binary}
use Rattle.pb_feature_types.specs.Features.{features_at}
use Rattle.pb_unit.specs.declared.plan.Planned.{Planned}
use Rattle.pb_unit.specs.declared.unit.What.{What}
use Rattle.pb_unit.specs.declared.unit.What.TheVariants.{Lib, Bin, Script, Run}
use Rattle.pb_command_types.specs.declared.project.Project.{Project}
use Rattle.pb_command_types.specs.declared.fault.UnitFault.{UnitFault}
use Rattle.pb_command_types.specs.declared.fault.UnitFault.TheVariants as fault
use Rattle.pb_command_types.specs.Targets.{made_file_of}

-- What the lines are about.

abbrev pub library_of : Package → Option Library → Option Target
library_of p None = None
library_of p (Some l) = Some (library_target l.crate_types l.name l.source p.edition)

abbrev pub binary_of : Package → Option Binary → Option Target
binary_of p None = None
binary_of p (Some b) = Some (binary_target b.name b.source p.edition b.required_features)

abbrev pub script_of : Package → Option (List ℕ) → Option Target
script_of p None = None
script_of p (Some source) = Some (script_target source p.edition)

-- the target that a unit of this kind compiles or runs, if the package has such a target
abbrev pub target_of : Package → What → Option Target
target_of p Lib = library_of p p.library
target_of p (Bin name) = binary_of p (find (λ b. bytes_eq name b.name) p.binaries)
target_of p Script = script_of p p.script
target_of p Run = script_of p p.script

abbrev pub subject_with : Package → Option Target → Option Subject
subject_with p None = None
subject_with p (Some t) = Some record { name = p.name; version = p.version; folder = p.folder; manifest = p.manifest; target = t }

abbrev pub subject_in : Option Package → What → Option Subject
subject_in None w = None
subject_in (Some p) w = subject_with p (target_of p w)

-- the package and the target that a unit's messages are about, if both exist
abbrev pub subject_of : Project → Planned → Option Subject
subject_of project u = subject_in (slice_get project.workspace.packages u.unit.package) u.unit.what

-- Messages.

abbrev pub is_binary : What → Bool
is_binary (Bin name) = true
is_binary _ = false

abbrev pub artifact : Project → Planned → List ℕ → Message
artifact project u file = CompilerArtifact record { settings = u.settings; features = features_at project.features u.unit.package u.unit.side; file = file; is_executable = is_binary u.unit.what }

-- the message for the file that a compile made, or no message if the compile made no file
abbrev pub artifacts : Project → Planned → Option (List ℕ) → List Message
artifacts project u None = []
artifacts project u (Some file) = artifact project u file ∷ []

-- the messages for the diagnostics in a compiler's standard error
abbrev pub compiler_messages : List ℕ → List Message
compiler_messages stderr = map CompilerMessage (diagnostics_of stderr)

abbrev pub note_in : Directive → Option Message
note_in (says.Warning text) = Some (BuildScriptNote Warning text)
note_in (says.Error text) = Some (BuildScriptNote Error text)
note_in _ = None

abbrev pub library_in : Directive → Option (List ℕ)
library_in (says.LinkLib name) = Some name
library_in _ = None

abbrev pub search_in : Directive → Option (List ℕ)
search_in (says.LinkSearch folder) = Some folder
search_in _ = None

abbrev pub condition_in : Directive → Option (List ℕ)
condition_in (says.Cfg condition) = Some condition
condition_in _ = None

abbrev pub variable_in : Directive → Option (List ℕ × List ℕ)
variable_in (says.Env name value) = Some (name, value)
variable_in _ = None

-- the message for an executed script, with all that the script passes to the compiler, in printed
-- order
abbrev pub executed : Planned → List Directive → Message
executed u directives = BuildScriptExecuted record {
  linked_libraries = filter_map library_in directives;
  linked_paths = filter_map search_in directives;
  conditions = filter_map condition_in directives;
  variables = filter_map variable_in directives;
  out_folder = u.out;
}

-- The messages of a unit whose child's answer is good. Only the run of a script has directives.
-- - A compile reports its diagnostics, and then the file that it made.
-- - A run reports its notes in printed order, and then what it passes to the compiler.
abbrev pub good_messages : Project → Planned → List ℕ → Option (List Directive) → List Message
good_messages project u stderr None = compiler_messages stderr ++ artifacts project u (made_file_of project u)
good_messages project u stderr (Some directives) = filter_map note_in directives ++ (executed u directives ∷ [])

-- The diagnostics of a bad unit are reported if and only if the unit is a compile and no stream of
-- the unit's child is too long.
abbrev pub gives_diagnostics : What → UnitFault → Bool
gives_diagnostics Run e = false
gives_diagnostics w fault.OutputTooLong = false
gives_diagnostics w e = true

-- the messages for a script's notes, or no messages if the script's output cannot be read
abbrev pub notes_in : Result (List Directive) LineFault → List Message
notes_in (Ok directives) = filter_map note_in directives
notes_in (Err e) = []

abbrev pub is_script_error : UnitFault → Bool
is_script_error fault.ScriptError = true
is_script_error e = false

-- The messages of a unit whose child's answer is bad.
-- - A script that reported an error has its notes, in printed order.
-- - A compile has its diagnostics, unless a stream is too long.
abbrev pub bad_messages : What → UnitFault → Ended → List Message
bad_messages w e ended =
    if is_script_error e then notes_in (directives_of ended.stdout)
    else (if gives_diagnostics w e then compiler_messages ended.stderr else [])

-- What the child of a bad unit wrote, apart from what the unit's messages contain.
-- - If a stream is too long, this is nothing.
-- - For a script that reported an error, it is the standard error; for any other script, both
--   streams.
-- - For a compile, it is the lines that are not diagnostics.
abbrev pub said_by : What → UnitFault → Ended → List ℕ
said_by w fault.OutputTooLong ended = []
said_by w fault.ScriptError ended = ended.stderr
said_by Run e ended = ended.stdout ++ ended.stderr
said_by w e ended = plain_lines_of ended.stderr

-- Lines.

-- the lines of a unit's messages; `started` says whether a child was started for the unit
abbrev pub lines_by : Option Subject → Bool → List Message → List ℕ
lines_by None started messages = []
lines_by (Some s) started messages = lines_of s (not started) messages

abbrev pub unit_lines : Project → Planned → Bool → List Message → List ℕ
unit_lines project u started messages = lines_by (subject_of project u) started messages
