-- What a unit reports to people: the unit's target, and the unit's messages, whether the unit is
-- good or bad (The Cargo Book, External Tools).
use Rattle.std.specs.Prelude.{◌≡◌, ◌++◌, ◌∷◌, [], ℕ, Bool, codes, not, List, Option, Some, None, find, map, option_and_then, option_map}
use Rattle.std.specs.List.{filter_map, flat_map}
use Rattle.std.specs.Option.{option_map_or}
use Rattle.std.specs.Result.{result_unwrap_or}
use Rattle.std.specs.Str.{bytes_eq}
use Rattle.pb_command_laws.specs.Compiles.{asked, is_binary}
use Rattle.pb_command_laws.specs.Variables.{variable_set}
use Rattle.pb_directive.specs.Directives.{directives_of}
use Rattle.pb_directive.specs.declared.directive.Directive.{Directive}
use Rattle.pb_feature_types.specs.Features.{features_at}
use Rattle.pb_manifest_types.specs.Library.{crate_type_texts}
use Rattle.pb_message.specs.Diagnostics.{diagnostics_of, plain_lines_of}
use Rattle.pb_message.specs.Message.{lines_of}
use Rattle.pb_message.specs.declared.message.Message.{Message}
use Rattle.pb_message.specs.declared.message.Message.TheVariants.{BuildScriptExecuted, CompilerMessage, CompilerArtifact}
use Rattle.pb_message.specs.declared.subject.Subject.{Subject}
use Rattle.pb_message.specs.declared.subject.Target.{Target}
use Rattle.pb_workspace_types.specs.declared.package.Binary.{Binary}
use Rattle.pb_workspace_types.specs.declared.package.Library.{Library}
use Rattle.pb_workspace_types.specs.declared.package.Package.{Package}
use Rattle.pb_place_types.specs.declared.command.Ended.{Ended}
use Rattle.pb_command_types.specs.Targets.{made_file_of, package_of}
use Rattle.pb_command_types.specs.declared.fault.UnitFault.{UnitFault}
use Rattle.pb_command_types.specs.declared.fault.UnitFault.TheVariants as fault
use Rattle.pb_command_types.specs.declared.project.Project.{Project}
use Rattle.pb_message_units.specs.Telling.{unit_lines, good_messages, bad_messages, said_by, note_in}
use Rattle.pb_unit.specs.declared.plan.Planned.{Planned}
use Rattle.pb_unit.specs.declared.unit.What.{What}
use Rattle.pb_unit.specs.declared.unit.What.TheVariants.{Lib, Bin, Run}

-- a target of a package, with its kinds, its crate types, its name, its source, and the features
-- that it requires
abbrev pub target : Package → List (List ℕ) → List (List ℕ) → List ℕ → List ℕ → List (List ℕ) → Target
target p kinds types name source required = record { kinds = kinds; crate_types = types; name = name; source = source; edition = p.edition; required_features = required }

-- the target that a unit of this kind compiles or runs, if the package has such a target
abbrev pub target_in : Package → What → Option Target
target_in p Lib = option_map (λ (l : Library). target p (crate_type_texts l.crate_types) (crate_type_texts l.crate_types) l.name l.source []) p.library
target_in p (Bin name) = option_map (λ (b : Binary). target p (codes "bin" ∷ []) (codes "bin" ∷ []) b.name b.source b.required_features) (find (λ (b : Binary). bytes_eq name b.name) p.binaries)
target_in p _ = option_map (λ source. target p (codes "custom-build" ∷ []) (codes "bin" ∷ []) (codes "build-script-build") source []) p.script

-- what a message line is about: the package and the target
abbrev pub subject : Package → Target → Subject
subject p target = record { name = p.name; version = p.version; folder = p.folder; manifest = p.manifest; target = target }

-- the package and the target that a unit's messages are about, if both exist
abbrev pub subject_at : Project → Planned → Option Subject
subject_at project u = option_and_then (λ (p : Package). option_map (subject p) (target_in p u.unit.what)) (package_of project u)

-- the message for a file that a unit has made; only a binary is executable
abbrev pub made_message : Project → Planned → List ℕ → Message
made_message project u file = CompilerArtifact record { settings = u.settings; features = features_at project.features u.unit.package u.unit.side; file = file; is_executable = is_binary u.unit.what }

-- the message for what a script passed to the compiler, each list in printed order
abbrev pub executed : Planned → List Directive → Message
executed u directives = BuildScriptExecuted record {
  linked_libraries = asked (codes "rustc-link-lib") directives;
  linked_paths = asked (codes "rustc-link-search") directives;
  conditions = asked (codes "rustc-cfg") directives;
  variables = flat_map variable_set directives;
  out_folder = u.out;
}

-- The messages of a good unit. A compile has its diagnostics, and then the file that it made. A run
-- has its notes in printed order, and then what it passed to the compiler.
abbrev pub told_well : Project → Planned → List ℕ → Option (List Directive) → List Message
told_well project u stderr None = map CompilerMessage (diagnostics_of stderr) ++ option_map_or (λ file. made_message project u file ∷ []) (made_file_of project u) []
told_well project u stderr (Some directives) = filter_map note_in directives ++ executed u directives ∷ []

-- The messages of a bad unit, and the rest of what its child printed. If a stream is too long, both
-- are empty. A script that reported an error has its notes in printed order, if they can be read.
-- Any other bad run has no messages. A compile has its diagnostics.
abbrev pub told_badly : What → UnitFault → List ℕ → List ℕ → List Message × List ℕ
told_badly what fault.OutputTooLong stdout stderr = ([], [])
told_badly what fault.ScriptError stdout stderr = (filter_map note_in (result_unwrap_or (directives_of stdout) []), stderr)
told_badly Run _ stdout stderr = ([], stdout ++ stderr)
told_badly what _ stdout stderr = (map CompilerMessage (diagnostics_of stderr), plain_lines_of stderr)

-- The lines of a unit are the lines of the unit's messages, if the unit's package and target exist.
-- `started` is true if a child was started for the unit.
abbrev pub LinesAreTold : Type 0
LinesAreTold = (project : Project) (u : Planned) (started : Bool) (messages : List Message) → unit_lines project u started messages ≡ option_map_or (λ s. lines_of s (not started) messages) (subject_at project u) []

-- The messages of a good unit are those of `told_well`.
abbrev pub GoodUnitsTell : Type 0
GoodUnitsTell = (project : Project) (u : Planned) (stderr : List ℕ) (directives : Option (List Directive)) → good_messages project u stderr directives ≡ told_well project u stderr directives

-- The messages of a bad unit, and the rest of what its child printed, are those of `told_badly`.
abbrev pub BadUnitsTell : Type 0
BadUnitsTell = (what : What) (fault : UnitFault) (ended : Ended) → (bad_messages what fault ended, said_by what fault ended) ≡ told_badly what fault ended.stdout ended.stderr
