-- The message lines of a build (The Cargo Book, External Tools). A message line has no spaces
-- outside strings, and its keys have a fixed order.
use Rattle.std.specs.Prelude.{ℕ, Bool, true, false, if◌then◌else◌, codes, List, [], ◌∷◌, ◌++◌, nat_eq}
use Rattle.std.specs.List.{ends_with, concat}
use Rattle.pb_json.specs.Json.{json_string}
use Rattle.pb_manifest_types.specs.Package.{edition_text}
use Rattle.pb_profile_keys.specs.Keys.{opt_level, debug, debug_assertions, overflow_checks}
use Rattle.pb_profile_keys.specs.Setting.{spelled}
use Rattle.pb_profile_keys.specs.declared.setting.Setting.{Setting}
use Rattle.pb_profile_keys.specs.declared.setting.Word.{Word}
use Rattle.pb_profile_keys.specs.declared.setting.Word.TheVariants as word
use Rattle.pb_data.specs.Truth.{truth_text}
use Rattle.pb_message.specs.Json.{json_texts, json_pairs}
use Rattle.pb_message.specs.declared.subject.Subject.{Subject}
use Rattle.pb_message.specs.declared.subject.Target.{Target}
use Rattle.pb_message.specs.declared.message.Artifact.{Artifact}
use Rattle.pb_message.specs.declared.message.Executed.{Executed}
use Rattle.pb_message.specs.declared.message.Level.{Level}
use Rattle.pb_message.specs.declared.message.Level.TheVariants.{Warning, Error}
use Rattle.pb_message.specs.declared.message.Message.{Message}
use Rattle.pb_message.specs.declared.message.Message.TheVariants as message

-- The id of a package. The id contains the package's folder and version. If the last part of the
-- folder is not the package's name, the id also contains the name. Nothing in the id is escaped.
abbrev pub package_id : Subject → List ℕ
package_id s =
    if ends_with nat_eq s.folder (codes "/" ++ s.name) then concat (codes "path+file://" ∷ s.folder ∷ codes "#" ∷ s.version ∷ [])
    else concat (codes "path+file://" ∷ s.folder ∷ codes "#" ∷ s.name ∷ codes "@" ∷ s.version ∷ [])

-- the member `required-features` with these features
unfoldable pub required_list : List (List ℕ) → List ℕ
required_list features = concat (codes ",\"required-features\":" ∷ json_texts features ∷ [])

-- the member `required-features`, or no text if the target requires no features
abbrev pub required_text : List (List ℕ) → List ℕ
required_text [] = []
required_text (feature ∷ features) = required_list (feature ∷ features)

-- the object of a target, made from these JSON texts; `required` is the member for required
-- features
unfoldable pub target_object : List ℕ → List ℕ → List ℕ → List ℕ → List ℕ → List ℕ → List ℕ
target_object kinds crate_types name source edition required = concat (
    codes "{\"kind\":" ∷ kinds ∷ codes ",\"crate_types\":" ∷ crate_types ∷ codes ",\"name\":" ∷ name
    ∷ codes ",\"src_path\":" ∷ source ∷ codes ",\"edition\":" ∷ edition ∷ required ∷ codes "}" ∷ [])

-- the object of a target, as JSON
abbrev pub target_text : Target → List ℕ
target_text t = target_object (json_texts t.kinds) (json_texts t.crate_types) (json_string t.name) (json_string t.source) (json_string (edition_text t.edition)) (required_text t.required_features)

-- the member that names the package of a line
unfoldable pub id_text : Subject → List ℕ
id_text s = concat (codes "\"package_id\":" ∷ json_string (package_id s) ∷ [])

-- the members for a package, its manifest and a target, made from these JSON texts
unfoldable pub subject_object : List ℕ → List ℕ → List ℕ → List ℕ
subject_object id manifest target = concat (id ∷ codes ",\"manifest_path\":" ∷ manifest ∷ codes ",\"target\":" ∷ target ∷ [])

-- the members that follow the reason in each line about a compiled unit
abbrev pub subject_text : Subject → List ℕ
subject_text s = subject_object (id_text s) (json_string s.manifest) (target_text s.target)

-- the setting for debug information as JSON: a number, or a name as a string
abbrev pub debug_info_json : Word → List ℕ
debug_info_json word.Zero = codes "0"
debug_info_json word.One = codes "1"
debug_info_json word.Two = codes "2"
debug_info_json w = json_string (spelled w)

-- the object of a profile, as JSON
abbrev pub profile_text : List Setting → List ℕ
profile_text s = concat (
    codes "{\"opt_level\":" ∷ json_string (spelled (opt_level s)) ∷ codes ",\"debuginfo\":" ∷ debug_info_json (debug s) ∷ codes ",\"debug_assertions\":" ∷ truth_text (debug_assertions s)
    ∷ codes ",\"overflow_checks\":" ∷ truth_text (overflow_checks s) ∷ codes ",\"test\":false}" ∷ [])

-- the file as a JSON string if it is executable, and `null` otherwise
abbrev pub executable_text : Bool → List ℕ → List ℕ
executable_text true file = json_string file
executable_text false file = codes "null"

-- the line of a diagnostic; the text of the diagnostic is copied byte for byte
abbrev pub diagnostic_line : List ℕ → List ℕ → List ℕ
diagnostic_line subject text = concat (codes "{\"reason\":\"compiler-message\"," ∷ subject ∷ codes ",\"message\":" ∷ text ∷ codes "}\n" ∷ [])

-- the line of an artifact, made from these JSON texts
unfoldable pub artifact_object : List ℕ → List ℕ → List ℕ → List ℕ → List ℕ → List ℕ → List ℕ
artifact_object subject profile features file executable fresh = concat (
    codes "{\"reason\":\"compiler-artifact\"," ∷ subject ∷ codes ",\"profile\":" ∷ profile ∷ codes ",\"features\":" ∷ features
    ∷ codes ",\"filenames\":[" ∷ file ∷ codes "],\"executable\":" ∷ executable ∷ codes ",\"fresh\":" ∷ fresh ∷ codes "}\n" ∷ [])

-- the line of an artifact; `fresh` is true if no child was started for the artifact's unit
abbrev pub artifact_line : List ℕ → Artifact → Bool → List ℕ
artifact_line subject a fresh = artifact_object subject (profile_text a.settings) (json_texts a.features) (json_string a.file) (executable_text a.is_executable a.file) (truth_text fresh)

abbrev pub level_text : Level → List ℕ
level_text Warning = codes "warning"
level_text Error = codes "error"

-- the line of a note with this level, made from these JSON texts
unfoldable pub note_object : List ℕ → List ℕ → List ℕ → List ℕ
note_object id level text = concat (codes "{\"reason\":\"build-script-note\"," ∷ id ∷ codes ",\"level\":\"" ∷ level ∷ codes "\",\"text\":" ∷ text ∷ codes "}\n" ∷ [])

-- the line of a note that a script has printed for its user
abbrev pub note_line : List ℕ → Level → List ℕ → List ℕ
note_line id level text = note_object id (level_text level) (json_string text)

-- the line of an executed script, made from these JSON texts
unfoldable pub executed_object : List ℕ → List ℕ → List ℕ → List ℕ → List ℕ → List ℕ → List ℕ
executed_object id libraries paths conditions variables folder = concat (
    codes "{\"reason\":\"build-script-executed\"," ∷ id ∷ codes ",\"linked_libs\":" ∷ libraries ∷ codes ",\"linked_paths\":" ∷ paths
    ∷ codes ",\"cfgs\":" ∷ conditions ∷ codes ",\"env\":" ∷ variables ∷ codes ",\"out_dir\":" ∷ folder ∷ codes "}\n" ∷ [])

-- the line of an executed script, with all that the script passes to the compiler, in printed order
abbrev pub executed_line : List ℕ → Executed → List ℕ
executed_line id e = executed_object id (json_texts e.linked_libraries) (json_texts e.linked_paths) (json_texts e.conditions) (json_pairs e.variables) (json_string e.out_folder)

-- The line of a message. `id` and `subject` are members that describe the message's unit; one of
-- the two follows the reason in the line. `fresh` is true if no child was started for the unit.
abbrev pub line_from : List ℕ → List ℕ → Bool → Message → List ℕ
line_from id subject fresh (message.CompilerMessage text) = diagnostic_line subject text
line_from id subject fresh (message.CompilerArtifact artifact) = artifact_line subject artifact fresh
line_from id subject fresh (message.BuildScriptNote level text) = note_line id level text
line_from id subject fresh (message.BuildScriptExecuted executed) = executed_line id executed

-- the lines of messages, one after another
abbrev pub lines_from : List ℕ → List ℕ → Bool → List Message → List ℕ
lines_from id subject fresh [] = []
lines_from id subject fresh (m ∷ ms) = line_from id subject fresh m ++ lines_from id subject fresh ms

-- the line of a message about this package and target
abbrev pub line_of : Subject → Bool → Message → List ℕ
line_of s fresh m = line_from (id_text s) (subject_text s) fresh m

-- the lines of messages about this package and target, one after another
abbrev pub lines_of : Subject → Bool → List Message → List ℕ
lines_of s fresh ms = lines_from (id_text s) (subject_text s) fresh ms

-- the last line of a build, which says whether the build succeeded
abbrev pub finish_line : Bool → List ℕ
finish_line success = codes "{\"reason\":\"build-finished\",\"success\":" ++ truth_text success ++ codes "}\n"
