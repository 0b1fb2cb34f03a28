-- The JSON object of each message line. The form of the object depends on the message's reason. The
-- object is written without spaces, followed by a line feed (The Cargo Book, External Tools).
use Rattle.std.specs.Prelude.{◌≡◌, ℕ, Bool, true, false, if◌then◌else◌, codes, List, [], ◌∷◌, ◌++◌, map, Option, Some, None, IfSome}
use Rattle.std.specs.List.{flat_map, position}
use Rattle.std.specs.Option.{option_map_or}
use Rattle.std.specs.Str.{bytes_eq}
use Rattle.pb_manifest_types.specs.Package.{edition_text}
use Rattle.pb_message.specs.Message.{package_id, level_text, line_of, lines_of, finish_line}
use Rattle.pb_message.specs.declared.message.Message.{Message}
use Rattle.pb_message.specs.declared.message.Message.TheVariants.{CompilerMessage, CompilerArtifact, BuildScriptNote, BuildScriptExecuted}
use Rattle.pb_message.specs.declared.subject.Subject.{Subject}
use Rattle.pb_message.specs.declared.subject.Target.{Target}
use Rattle.pb_profile_keys.specs.Keys.{setting_at, word_in}
use Rattle.pb_profile_keys.specs.Setting.{same, spelled}
use Rattle.pb_profile_keys.specs.declared.key.ProfileKey.TheVariants as key
use Rattle.pb_profile_keys.specs.declared.setting.Setting.{Setting}
use Rattle.pb_profile_keys.specs.declared.setting.Setting.TheVariants.{Truth}
use Rattle.pb_profile_keys.specs.declared.setting.Word.{Word}
use Rattle.serde_json.specs.Data.{unsigned, Data, null, boolean, number, string, array, object, Members, no_members, member}
use Rattle.serde_json.specs.View.{items_of}
use Rattle.serde_json.specs.Written.{compact_text}
use Rattle.pb_data.specs.Ascii.{line_feed}

-- the members of an object, in this order
abbrev pub members : List (List ℕ × Data) → Members
members [] = no_members
members (m ∷ ms) = member m.0 m.1 (members ms)

abbrev pub of_members : List (List ℕ × Data) → Data
of_members ms = object (members ms)

abbrev pub texts : List (List ℕ) → Data
texts ts = array (items_of (map string ts))

-- The objects of which a message consists.

abbrev pub required : List (List ℕ) → List (List ℕ × Data)
required [] = []
required (feature ∷ features) = (codes "required-features", texts (feature ∷ features)) ∷ []

abbrev pub target_of : Target → Data
target_of t = of_members ((codes "kind", texts t.kinds) ∷ (codes "crate_types", texts t.crate_types) ∷ (codes "name", string t.name) ∷ (codes "src_path", string t.source)
    ∷ (codes "edition", string (edition_text t.edition)) ∷ required t.required_features)

-- the setting for debug information as the compiler spells it: a number for `0`, `1` and `2`, and a
-- text for any other spelling
abbrev pub debug_info_of : Word → Data
debug_info_of w = option_map_or (λ n. number (unsigned n)) (position (bytes_eq (spelled w)) (codes "0" ∷ codes "1" ∷ codes "2" ∷ [])) (string (spelled w))

abbrev pub profile_of : List Setting → Data
profile_of s = of_members ((codes "opt_level", string (spelled (word_in (setting_at s key.OptLevel)))) ∷ (codes "debuginfo", debug_info_of (word_in (setting_at s key.Debug)))
    ∷ (codes "debug_assertions", boolean (same (setting_at s key.DebugAssertions) (Truth true)))
    ∷ (codes "overflow_checks", boolean (same (setting_at s key.OverflowChecks) (Truth true))) ∷ (codes "test", boolean false) ∷ [])

abbrev pub pairs : List (List ℕ × List ℕ) → Data
pairs ps = array (items_of (map (λ (p : List ℕ × List ℕ). texts (p.0 ∷ p.1 ∷ [])) ps))

-- The object of a message, one form for each reason.

-- the object of a message about a package: the message's reason, the package, and the members of
-- `more`
abbrev pub of_package : List ℕ → Subject → List (List ℕ × Data) → Data
of_package reason s more = of_members ((codes "reason", string reason) ∷ (codes "package_id", string (package_id s)) ∷ more)

-- the object of a message about a target of a package: the message's reason, the package, the
-- target, and the members of `more`
abbrev pub of_target : List ℕ → Subject → List (List ℕ × Data) → Data
of_target reason s more = of_package reason s ((codes "manifest_path", string s.manifest) ∷ (codes "target", target_of s.target) ∷ more)

abbrev pub diagnostic : Subject → Data → Data
diagnostic s message = of_target (codes "compiler-message") s ((codes "message", message) ∷ [])

-- the object of a message, unless the message is a diagnostic
abbrev pub object_of : Subject → Bool → Message → Option Data
object_of s fresh (CompilerArtifact a) = Some (of_target (codes "compiler-artifact") s ((codes "profile", profile_of a.settings) ∷ (codes "features", texts a.features) ∷ (codes "filenames", texts (a.file ∷ []))
    ∷ (codes "executable", if a.is_executable then string a.file else null) ∷ (codes "fresh", boolean fresh) ∷ []))
object_of s fresh (BuildScriptNote level text) = Some (of_package (codes "build-script-note") s ((codes "level", string (level_text level)) ∷ (codes "text", string text) ∷ []))
object_of s fresh (BuildScriptExecuted e) = Some (of_package (codes "build-script-executed") s ((codes "linked_libs", texts e.linked_libraries) ∷ (codes "linked_paths", texts e.linked_paths)
    ∷ (codes "cfgs", texts e.conditions) ∷ (codes "env", pairs e.variables) ∷ (codes "out_dir", string e.out_folder) ∷ []))
object_of s fresh (CompilerMessage text) = None

abbrev pub finished : Bool → Data
finished success = of_members ((codes "reason", string (codes "build-finished")) ∷ (codes "success", boolean success) ∷ [])

-- The laws.

-- If a message is not a diagnostic, its line is the text of the message's object, without spaces
-- and followed by a line feed. `EndsAreObjects` states the same about the last line of a build.
abbrev pub MessagesAreObjects : Type 0
MessagesAreObjects = (s : Subject) (fresh : Bool) (m : Message) → IfSome (object_of s fresh m) (λ told. line_of s fresh m ≡ compact_text told ++ line_feed ∷ [])

abbrev pub EndsAreObjects : Type 0
EndsAreObjects = (success : Bool) → finish_line success ≡ compact_text (finished success) ++ line_feed ∷ []

-- The line of a diagnostic is the line of the diagnostic's object. The value of `message` in the
-- line is the compiler's own text, byte for byte.
abbrev pub DiagnosticsAreCopied : Type 0
DiagnosticsAreCopied = (s : Subject) (fresh : Bool) (text : List ℕ)
    → (front : List ℕ) × (line_of s fresh (CompilerMessage text) ≡ front ++ text ++ codes "}\n") × ((message : Data) → compact_text (diagnostic s message) ≡ front ++ compact_text message ++ codes "}")

-- the lines of several messages are the lines of each message, one after another
abbrev pub LinesFollow : Type 0
LinesFollow = (s : Subject) (fresh : Bool) (messages : List Message) → lines_of s fresh messages ≡ flat_map (line_of s fresh) messages
