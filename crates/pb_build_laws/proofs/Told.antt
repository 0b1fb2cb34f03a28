-- What a unit tells by its definitions is what the laws say.
use Rattle.std.proofs.Common.{◌≡◌, ◌∙◌, ◌++◌, ◌∷◌, [], ℕ, Bool, codes, List, Option, Some, None, Result, Ok, Err, find, map, not, refl, ap}
use Rattle.std.specs.List.{cons_option, filter_map, flat_map}
use Rattle.std.specs.Option.{option_map, option_map_or}
use Rattle.std.specs.Prelude.{option_and_then}
use Rattle.std.specs.Result.{result_unwrap_or}
use Rattle.std.specs.Str.{bytes_eq}
use Rattle.pb_command_laws.specs.Compiles.{as_line, asked, is_binary}
use Rattle.pb_command_laws.specs.Reading.{values}
use Rattle.pb_command_laws.specs.Variables.{variable_set}
use Rattle.pb_directive.specs.Directives.{directives_of}
use Rattle.pb_directive.specs.declared.directive.Directive.{Directive}
use Rattle.pb_directive.specs.declared.directive.Directive.TheVariants.{Cfg, Env, LinkLib, LinkSearch}
use Rattle.pb_directive.specs.declared.fault.LineFault.{LineFault}
use Rattle.pb_feature_types.specs.Features.{features_at}
use Rattle.pb_manifest_types.specs.Library.{crate_type_texts}
use Rattle.pb_message.specs.Message.{lines_of}
use Rattle.pb_message.specs.declared.message.Message.{Message}
use Rattle.pb_message.specs.declared.message.Message.TheVariants.{BuildScriptExecuted, CompilerArtifact}
use Rattle.pb_message.specs.declared.subject.Subject.{Subject}
use Rattle.pb_message.specs.declared.subject.Target.{Target}
use Rattle.pb_workspace_types.specs.declared.package.Binary.{Binary}
use Rattle.pb_workspace_types.specs.declared.package.Library.{Library}
use Rattle.pb_workspace_types.specs.declared.package.Package.{Package}
use Rattle.pb_command_types.specs.Targets.{made_file_of, package_of}
use Rattle.pb_command_types.specs.declared.fault.UnitFault.TheVariants as fault
use Rattle.pb_command_types.specs.declared.project.Project.{Project}
use Rattle.pb_message_units.specs.Telling as telling
use Rattle.pb_message_units.specs.Telling.{artifact, artifacts, binary_of, compiler_messages, condition_in, library_in, library_of, lines_by, note_in, notes_in, script_of, search_in, subject_in, subject_of, subject_with, target_of, variable_in}
use Rattle.pb_unit.specs.declared.plan.Planned.{Planned}
use Rattle.pb_unit.specs.declared.unit.What.{What}
use Rattle.pb_unit.specs.declared.unit.What.TheVariants.{Lib, Bin, Script, Run}
use Rattle.pb_build_laws.specs.Telling.{LinesAreTold, GoodUnitsTell, BadUnitsTell, executed, made_message, subject, subject_at, target, target_in}

-- the subject of a unit

library_is : (p : Package) (l : Option Library) → library_of p l ≡ option_map (λ (l : Library). target p (crate_type_texts l.crate_types) (crate_type_texts l.crate_types) l.name l.source []) l
library_is p None = refl
library_is p (Some l) = refl

binary_is : (p : Package) (b : Option Binary) → binary_of p b ≡ option_map (λ (b : Binary). target p (codes "bin" ∷ []) (codes "bin" ∷ []) b.name b.source b.required_features) b
binary_is p None = refl
binary_is p (Some b) = refl

script_is : (p : Package) (s : Option (List ℕ)) → script_of p s ≡ option_map (λ source. target p (codes "custom-build" ∷ []) (codes "bin" ∷ []) (codes "build-script-build") source []) s
script_is p None = refl
script_is p (Some s) = refl

target_is : (p : Package) (w : What) → target_of p w ≡ target_in p w
target_is p Lib = library_is p p.library
target_is p (Bin name) = binary_is p (find (λ (b : Binary). bytes_eq name b.name) p.binaries)
target_is p Script = script_is p p.script
target_is p Run = script_is p p.script

with_is : (p : Package) (t : Option Target) → subject_with p t ≡ option_map (subject p) t
with_is p None = refl
with_is p (Some t) = refl

subject_by : (p : Option Package) (w : What) → subject_in p w ≡ option_and_then (λ (p : Package). option_map (subject p) (target_in p w)) p
subject_by None w = refl
subject_by (Some p) w = ap (subject_with p) (target_is p w) ∙ with_is p (target_in p w)

subject_is : (project : Project) (u : Planned) → subject_of project u ≡ subject_at project u
subject_is project u = subject_by (package_of project u) u.unit.what

lines_is : (s : Option Subject) (started : Bool) (messages : List Message) → lines_by s started messages ≡ option_map_or (λ s. lines_of s (not started) messages) s []
lines_is None started messages = refl
lines_is (Some s) started messages = refl

pub lines_are_told : LinesAreTold
lines_are_told project u started messages = ap (λ s. lines_by s started messages) (subject_is project u) ∙ lines_is (subject_at project u) started messages

-- the messages of a good one

run_is : (w : What) → telling.is_binary w ≡ is_binary w
run_is Lib = refl
run_is (Bin name) = refl
run_is Script = refl
run_is Run = refl

made_is : (project : Project) (u : Planned) (file : List ℕ) → artifact project u file ≡ made_message project u file
made_is project u file = ap (λ can. CompilerArtifact record { settings = u.settings; features = features_at project.features u.unit.package u.unit.side; file = file; is_executable = can }) (run_is u.unit.what)

file_is : (project : Project) (u : Planned) (file : Option (List ℕ)) → artifacts project u file ≡ option_map_or (λ file. made_message project u file ∷ []) file []
file_is project u None = refl
file_is project u (Some file) = ap (λ m. m ∷ []) (made_is project u file)

-- what one line gives, and then the others
Picks : List ℕ → (Directive → Option (List ℕ)) → Type 0
Picks key pick = (d : Directive) (rest : List (List ℕ × List ℕ)) → cons_option (pick d) (values key rest) ≡ values key (as_line d ∷ rest)

all_picked : (key : List ℕ) (pick : Directive → Option (List ℕ)) → Picks key pick → (said : List Directive) → filter_map pick said ≡ asked key said
unfolding Picks
all_picked key pick one [] = refl
all_picked key pick one (d ∷ said) = ap (cons_option (pick d)) (all_picked key pick one said) ∙ one d (map as_line said)

libraries : Picks (codes "rustc-link-lib") library_in
unfolding Picks
libraries (LinkLib name) rest = refl
libraries _ rest = refl

searches : Picks (codes "rustc-link-search") search_in
unfolding Picks
searches (LinkSearch folder) rest = refl
searches _ rest = refl

conditions : Picks (codes "rustc-cfg") condition_in
unfolding Picks
conditions (Cfg condition) rest = refl
conditions _ rest = refl

one_set : (d : Directive) (more : List (List ℕ × List ℕ)) → cons_option (variable_in d) more ≡ variable_set d ++ more
one_set (Env name value) more = refl
one_set _ more = refl

variables_set : (said : List Directive) → filter_map variable_in said ≡ flat_map variable_set said
variables_set [] = refl
variables_set (d ∷ said) = ap (cons_option (variable_in d)) (variables_set said) ∙ one_set d (flat_map variable_set said)

executed_is : (u : Planned) (said : List Directive) → telling.executed u said ≡ executed u said
executed_is u said = λ i. BuildScriptExecuted record {
  linked_libraries = all_picked (codes "rustc-link-lib") library_in libraries said i;
  linked_paths = all_picked (codes "rustc-link-search") search_in searches said i;
  conditions = all_picked (codes "rustc-cfg") condition_in conditions said i;
  variables = variables_set said i;
  out_folder = u.out;
}

pub good_units_tell : GoodUnitsTell
good_units_tell project u stderr None = ap (λ made. compiler_messages stderr ++ made) (file_is project u (made_file_of project u))
good_units_tell project u stderr (Some directives) = ap (λ (last : Message). filter_map note_in directives ++ last ∷ []) (executed_is u directives)

-- those of a bad one

notes_is : (r : Result (List Directive) LineFault) → notes_in r ≡ filter_map note_in (result_unwrap_or r [])
notes_is (Ok directives) = refl
notes_is (Err e) = refl

pub bad_units_tell : BadUnitsTell
bad_units_tell what fault.ScriptError e = ap (λ (messages : List Message). (messages, e.stderr)) (notes_is (directives_of e.stdout))
bad_units_tell Lib fault.OutputTooLong e = refl
bad_units_tell (Bin name) fault.OutputTooLong e = refl
bad_units_tell Script fault.OutputTooLong e = refl
bad_units_tell Run fault.OutputTooLong e = refl
bad_units_tell Lib _ e = refl
bad_units_tell (Bin name) _ e = refl
bad_units_tell Script _ e = refl
bad_units_tell Run _ e = refl
