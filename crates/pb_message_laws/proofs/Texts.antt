-- The texts of messages are those of objects.
use Rattle.std.proofs.Common.{◌≡◌, ℕ, Bool, true, false, cond, codes, List, [], ◌∷◌, ◌++◌, map, Option, Some, IfSome, refl, sym, ◌∙◌, ap, append_assoc, arith}
use Rattle.std.proofs.lemmas.Fmt.{decimal_digit}
use Rattle.std.proofs.lemmas.List.{append-nil}
use Rattle.json.specs.Print.{escape_byte, quoted}
use Rattle.pb_json.specs.Json.{json_string}
use Rattle.pb_manifest_types.specs.Package.{edition_text}
use Rattle.pb_data.specs.Truth.{truth_text}
use Rattle.pb_message.specs.Json.{after_commas, listed, json_texts, json_pair, json_pairs}
use Rattle.pb_message.specs.Message.{package_id, required_list, required_text, target_object, target_text, id_text, subject_object, subject_text, debug_info_json, profile_text, executable_text, artifact_object, level_text, line_of, note_object, executed_object}
use Rattle.pb_message.specs.declared.message.Artifact.{Artifact}
use Rattle.pb_message.specs.declared.message.Executed.{Executed}
use Rattle.pb_message.specs.declared.message.Level.{Level}
use Rattle.pb_message.specs.declared.message.Level.TheVariants.{Warning, Error}
use Rattle.pb_message.specs.declared.message.Message.{Message}
use Rattle.pb_message.specs.declared.message.Message.TheVariants.{CompilerMessage, CompilerArtifact, BuildScriptNote, BuildScriptExecuted}
use Rattle.pb_message.specs.declared.subject.Subject.{Subject}
use Rattle.pb_message.specs.declared.subject.Target.{Target}
use Rattle.pb_profile_keys.specs.Keys.{opt_level, debug, debug_assertions, overflow_checks}
use Rattle.pb_profile_keys.specs.Setting.{spelled}
use Rattle.pb_profile_keys.specs.declared.setting.Setting.{Setting}
use Rattle.pb_profile_keys.specs.declared.setting.Word.{Word}
use Rattle.pb_profile_keys.specs.declared.setting.Word.TheVariants as word
use Rattle.serde_json.specs.Data.{Data, boolean, string, array, object, Members, no_members, member}
use Rattle.serde_json.specs.View.{items_of}
use Rattle.serde_json.specs.Written.{comma_if, compact_text, items_text, members_text}
use Rattle.pb_message_laws.specs.Objects.{members, texts, required, target_of, debug_info_of, profile_of, pairs, object_of, MessagesAreObjects, EndsAreObjects, DiagnosticsAreCopied}

-- ---- what follows an object

-- members, their bracket, and what follows
abbrev then : Bool → Members → List ℕ → List ℕ
then later no_members rest = 125 ∷ rest
then later (member k d ms) rest = comma_if later ++ (quoted k ++ 58 ∷ (compact_text d ++ then true ms rest))

followed : (later : Bool) (ms : Members) (rest : List ℕ) → members_text later ms ++ rest ≡ then later ms rest
followed later no_members rest = refl
followed later (member k d ms) rest =
    append_assoc (comma_if later) (quoted k ++ 58 ∷ (compact_text d ++ members_text true ms)) rest
    ∙ ap (λ t. comma_if later ++ t)
    (append_assoc (quoted k) (58 ∷ (compact_text d ++ members_text true ms)) rest
    ∙ ap (λ t. quoted k ++ 58 ∷ t) (append_assoc (compact_text d) (members_text true ms) rest ∙ ap (λ t. compact_text d ++ t) (followed true ms rest)))

-- the members of an object
abbrev members_in : Option Data → Members
members_in (Some (object ms)) = ms
members_in _ = no_members

-- ---- lists

module _ {A : Type 0} (f : A → List ℕ) (g : A → Data) (same : (x : A) → f x ≡ compact_text (g x)) where
  more_are : (xs : List A) → after_commas (map f xs) ++ 93 ∷ [] ≡ items_text true (items_of (map g xs))
  more_are [] = refl
  more_are (x ∷ xs) = ap (λ t. 44 ∷ t) (append_assoc (f x) (after_commas (map f xs)) (93 ∷ []) ∙ (λ i. same x i ++ more_are xs i))

  list_is : (xs : List A) → listed (map f xs) ≡ compact_text (array (items_of (map g xs)))
  list_is [] = refl
  list_is (x ∷ xs) = ap (λ t. 91 ∷ t) (append_assoc (f x) (after_commas (map f xs)) (93 ∷ []) ∙ (λ i. same x i ++ more_are xs i))

texts_are : (ts : List (List ℕ)) → json_texts ts ≡ compact_text (texts ts)
texts_are ts = list_is json_string string (λ t. refl) ts

pair_is : (p : List ℕ × List ℕ) → json_pair p ≡ compact_text (texts (p.0 ∷ p.1 ∷ []))
pair_is p = ap (λ t. 91 ∷ t) (append_assoc (json_string p.0) (44 ∷ json_string p.1) (93 ∷ []))

pairs_are : (ps : List (List ℕ × List ℕ)) → json_pairs ps ≡ compact_text (pairs ps)
pairs_are ps = list_is json_pair (λ (p : List ℕ × List ℕ). texts (p.0 ∷ p.1 ∷ [])) pair_is ps

-- ---- small values

truth_is : (b : Bool) → truth_text b ≡ compact_text (boolean b)
truth_is true = refl
truth_is false = refl

debug_is : (w : Word) → debug_info_json w ≡ compact_text (debug_info_of w)
unfolding escape_byte
debug_is word.Zero = sym (decimal_digit 0 (omega arith))
debug_is word.One = sym (decimal_digit 1 (omega arith))
debug_is word.Two = sym (decimal_digit 2 (omega arith))
debug_is _ = refl

level_is : (l : Level) (rest : List ℕ) → 34 ∷ (level_text l ++ 34 ∷ rest) ≡ quoted (level_text l) ++ rest
unfolding escape_byte
level_is Warning rest = refl
level_is Error rest = refl

-- ---- objects in a message

required_are : (features : List (List ℕ)) → required_text features ++ 125 ∷ [] ≡ members_text true (members (required features))
unfolding escape_byte required_list
required_are [] = refl
required_are (feature ∷ features) = ap (λ t. codes ",\"required-features\":" ++ (t ++ 125 ∷ [])) (append-nil (json_texts (feature ∷ features)) ∙ texts_are (feature ∷ features))

target_is : (t : Target) → target_text t ≡ compact_text (target_of t)
unfolding escape_byte target_object
target_is t = λ i.
    codes "{\"kind\":" ++ (texts_are t.kinds i ++ (codes ",\"crate_types\":" ++ (texts_are t.crate_types i ++ (codes ",\"name\":" ++ (json_string t.name
    ++ (codes ",\"src_path\":" ++ (json_string t.source ++ (codes ",\"edition\":" ++ (json_string (edition_text t.edition) ++ required_are t.required_features i)))))))))

profile_is : (s : List Setting) → profile_text s ≡ compact_text (profile_of s)
unfolding escape_byte
profile_is s = λ i.
    codes "{\"opt_level\":" ++ (json_string (spelled (opt_level s))
    ++ (codes ",\"debuginfo\":" ++ (debug_is (debug s) i ++ (codes ",\"debug_assertions\":" ++ (truth_is (debug_assertions s) i ++ (codes ",\"overflow_checks\":" ++ (truth_is (overflow_checks s) i ++ codes ",\"test\":false}")))))))

-- ---- what lines begin with

id_then : (s : Subject) (rest : List ℕ) → id_text s ++ rest ≡ codes "\"package_id\":" ++ (json_string (package_id s) ++ rest)
unfolding id_text
id_then s rest = ap (λ t. codes "\"package_id\":" ++ (t ++ rest)) (append-nil (json_string (package_id s)))

subject_then : (s : Subject) (rest : List ℕ)
    → subject_text s ++ rest ≡ codes "\"package_id\":" ++ (json_string (package_id s) ++ (codes ",\"manifest_path\":" ++ (json_string s.manifest ++ (codes ",\"target\":" ++ (compact_text (target_of s.target) ++ rest)))))
unfolding subject_object
subject_then s rest =
    let manifest = json_string s.manifest in
    let target = target_text s.target in
    append_assoc (id_text s) (codes ",\"manifest_path\":" ++ (manifest ++ (codes ",\"target\":" ++ (target ++ [])))) rest
    ∙ id_then s ((codes ",\"manifest_path\":" ++ (manifest ++ (codes ",\"target\":" ++ (target ++ [])))) ++ rest)
    ∙ ap (λ t. codes "\"package_id\":" ++ (json_string (package_id s) ++ (codes ",\"manifest_path\":" ++ t)))
    (append_assoc manifest (codes ",\"target\":" ++ (target ++ [])) rest ∙ ap (λ t. manifest ++ (codes ",\"target\":" ++ (t ++ rest))) (append-nil target ∙ target_is s.target))

-- ---- lines

file_is : (a : Artifact) (rest : List ℕ) → codes "[" ++ (json_string a.file ++ (codes "]" ++ rest)) ≡ compact_text (texts (a.file ∷ [])) ++ rest
file_is a rest = ap (λ t. 91 ∷ t) (sym (append_assoc (json_string a.file) (93 ∷ []) rest))

runs_is : (is : Bool) (file : List ℕ) → executable_text is file ≡ compact_text (cond is (string file) Data.null)
runs_is true file = refl
runs_is false file = refl

abbrev IsLineOf : Subject → Bool → Message → Type 0
IsLineOf s fresh m = IfSome (object_of s fresh m) (λ told. line_of s fresh m ≡ compact_text told ++ 10 ∷ [])

artifacts_are : (s : Subject) (fresh : Bool) (a : Artifact) → IsLineOf s fresh (CompilerArtifact a)
unfolding escape_byte artifact_object
artifacts_are s fresh a =
    ap (λ t. codes "{\"reason\":\"compiler-artifact\"," ++ t)
    (subject_then s
    (codes ",\"profile\":" ++ (profile_text a.settings ++ (codes ",\"features\":" ++ (json_texts a.features ++ (codes ",\"filenames\":[" ++ (json_string a.file ++ (codes "],\"executable\":"
    ++ (executable_text a.is_executable a.file ++ (codes ",\"fresh\":" ++ (truth_text fresh ++ codes "}\n")))))))))))
    ∙ (λ i.
    codes "{\"reason\":\"compiler-artifact\",\"package_id\":" ++ (json_string (package_id s) ++ (codes ",\"manifest_path\":" ++ (json_string s.manifest ++ (codes ",\"target\":" ++ (compact_text (target_of s.target)
    ++ (codes ",\"profile\":" ++ (profile_is a.settings i ++ (codes ",\"features\":" ++ (texts_are a.features i ++ (codes ",\"filenames\":"
    ++ file_is a (codes ",\"executable\":" ++ (runs_is a.is_executable a.file i ++ (codes ",\"fresh\":" ++ (truth_is fresh i ++ codes "}\n")))) i)))))))))))
    ∙ ap (λ t. 123 ∷ t) (sym (followed false (members_in (object_of s fresh (CompilerArtifact a))) (10 ∷ [])))

notes_are : (s : Subject) (fresh : Bool) (level : Level) (text : List ℕ) → IsLineOf s fresh (BuildScriptNote level text)
unfolding escape_byte note_object
notes_are s fresh level text =
    ap (λ t. codes "{\"reason\":\"build-script-note\"," ++ t) (id_then s (codes ",\"level\":\"" ++ (level_text level ++ (codes "\",\"text\":" ++ (json_string text ++ codes "}\n")))))
    ∙ ap (λ t. codes "{\"reason\":\"build-script-note\",\"package_id\":" ++ (json_string (package_id s) ++ (codes ",\"level\":" ++ t))) (level_is level (codes ",\"text\":" ++ (json_string text ++ codes "}\n")))
    ∙ ap (λ t. 123 ∷ t) (sym (followed false (members_in (object_of s fresh (BuildScriptNote level text))) (10 ∷ [])))

executed_are : (s : Subject) (fresh : Bool) (e : Executed) → IsLineOf s fresh (BuildScriptExecuted e)
unfolding escape_byte executed_object
executed_are s fresh e =
    ap (λ t. codes "{\"reason\":\"build-script-executed\"," ++ t)
    (id_then s
    (codes ",\"linked_libs\":" ++ (json_texts e.linked_libraries ++ (codes ",\"linked_paths\":" ++ (json_texts e.linked_paths ++ (codes ",\"cfgs\":" ++ (json_texts e.conditions ++ (codes ",\"env\":" ++ (json_pairs e.variables
    ++ (codes ",\"out_dir\":" ++ (json_string e.out_folder ++ codes "}\n")))))))))))
    ∙ (λ i.
    codes "{\"reason\":\"build-script-executed\",\"package_id\":" ++ (json_string (package_id s) ++ (codes ",\"linked_libs\":" ++ (texts_are e.linked_libraries i ++ (codes ",\"linked_paths\":" ++ (texts_are e.linked_paths i
    ++ (codes ",\"cfgs\":" ++ (texts_are e.conditions i ++ (codes ",\"env\":" ++ (pairs_are e.variables i ++ (codes ",\"out_dir\":" ++ (json_string e.out_folder ++ codes "}\n"))))))))))))
    ∙ ap (λ t. 123 ∷ t) (sym (followed false (members_in (object_of s fresh (BuildScriptExecuted e))) (10 ∷ [])))

pub messages_are : MessagesAreObjects
messages_are s fresh (CompilerMessage text) = tt
messages_are s fresh (CompilerArtifact a) = artifacts_are s fresh a
messages_are s fresh (BuildScriptNote level text) = notes_are s fresh level text
messages_are s fresh (BuildScriptExecuted e) = executed_are s fresh e

pub ends_are : EndsAreObjects
unfolding escape_byte
ends_are true = refl
ends_are false = refl

pub diagnostics_are : DiagnosticsAreCopied
unfolding escape_byte
diagnostics_are s fresh text =
    let front = codes "{\"reason\":\"compiler-message\"," ++ (subject_text s ++ codes ",\"message\":") in (
      front,
      ap (λ t. codes "{\"reason\":\"compiler-message\"," ++ t) (sym (append_assoc (subject_text s) (codes ",\"message\":") (text ++ codes "}\n"))) ∙ sym (append_assoc front text (codes "}\n")),
      λ message.
          sym
          (append_assoc front (compact_text message) (codes "}")
          ∙ ap (λ t. codes "{\"reason\":\"compiler-message\"," ++ t)
          (append_assoc (subject_text s) (codes ",\"message\":") (compact_text message ++ codes "}") ∙ subject_then s (codes ",\"message\":" ++ (compact_text message ++ codes "}")))),
    )
