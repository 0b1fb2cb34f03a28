-- No line feed stands in what a message line is made of, but at its end.
use Rattle.std.proofs.Common.{◌≡◌, ◌∙◌, ◌==◌, ◌||◌, ◌&&◌, ◌/◌, ◌%◌, ◌+◌, ℕ, Bool, true, false, not, cond, nat_lt, List, [], ◌∷◌, ◌++◌, map, codes, refl, sym, ap, arith}
use Rattle.std.proofs.lemmas.Bool.{false≢true}
use Rattle.std.proofs.lemmas.Bool.Decides.{nat_tests}
use Rattle.std.proofs.lemmas.List.Folds.{list_any-append}
use Rattle.std.specs.Char.{digit_char}
use Rattle.std.proofs.lemmas.List.{append-nil}
use Rattle.std.specs.List.{concat, AllByRecursion}
use Rattle.json.specs.Print.{escape_letter, escape_byte, escape}
use Rattle.pb_directive.specs.Lines.{has_byte}
use Rattle.pb_json.specs.Json.{json_string}
use Rattle.pb_manifest_types.specs.Package.{edition_text}
use Rattle.pb_profile_keys.specs.Keys.{opt_level, debug, debug_assertions, overflow_checks}
use Rattle.pb_profile_keys.specs.Setting.{spelled}
use Rattle.pb_profile_keys.specs.declared.setting.Setting.{Setting}
use Rattle.pb_profile_keys.specs.declared.setting.Word.{Word}
use Rattle.pb_profile_keys.specs.declared.setting.Word.TheVariants as word
use Rattle.pb_data.specs.Truth.{truth_text}
use Rattle.pb_message.specs.Json.{after_commas, listed, json_texts, json_pair, json_pairs}
use Rattle.pb_message.specs.Message.{package_id, required_list, required_text, target_object, target_text, id_text, subject_object, subject_text, debug_info_json, profile_text, executable_text, diagnostic_line, artifact_object, artifact_line, level_text, note_object, note_line, executed_object, executed_line}
use Rattle.pb_message.specs.declared.subject.Subject.{Subject}
use Rattle.pb_message.specs.declared.subject.Target.{Target}
use Rattle.pb_message.specs.declared.message.Artifact.{Artifact}
use Rattle.pb_message.specs.declared.message.Executed.{Executed}
use Rattle.pb_message.specs.declared.message.Level.{Level}
use Rattle.pb_message.specs.declared.message.Level.TheVariants.{Warning, Error}
use Rattle.pb_message.specs.declared.message.Message.TheVariants.{CompilerMessage, CompilerArtifact, BuildScriptNote, BuildScriptExecuted}
use Rattle.pb_message_laws.specs.OneLine.{is_line, IsOfOneLine, MessagesAreLines, BuildsEndInLine}

either : (a b : Bool) → a ≡ false → b ≡ false → a || b ≡ false
either true b p q = p
either false b p q = q

-- ---- texts of one line, one after another

pub both : (xs ys : List ℕ) → IsOfOneLine xs → IsOfOneLine ys → IsOfOneLine (xs ++ ys)
both xs ys one other = list_any-append (λ b. b == 10) xs ys ∙ either (has_byte 10 xs) (has_byte 10 ys) one other

-- and a line after them
line_after_byte : (b : ℕ) (text : List ℕ) → b == 10 ≡ false → is_line text ≡ true → is_line (b ∷ text) ≡ true
line_after_byte b [] one line = absurd (false≢true line)
line_after_byte b (c ∷ text) one line = ap (λ r. not r && is_line (c ∷ text)) one ∙ line

pub or_first : (a b : Bool) → a || b ≡ false → a ≡ false
or_first true b h = h
or_first false b h = refl

pub or_second : (a b : Bool) → a || b ≡ false → b ≡ false
or_second true b h = absurd (false≢true (sym h))
or_second false b h = h

line_after : (xs text : List ℕ) → IsOfOneLine xs → is_line text ≡ true → is_line (xs ++ text) ≡ true
line_after [] text one line = line
line_after (b ∷ xs) text one line = line_after_byte b (xs ++ text) (or_first (b == 10) (has_byte 10 xs) one) (line_after xs text (or_second (b == 10) (has_byte 10 xs) one) line)

-- ---- JSON strings

seven : (a b c d e f g : Bool) (x : ℕ) → (a || b ≡ true → x == 10 ≡ false) → cond (a || b) x (cond c 98 (cond d 102 (cond e 110 (cond f 114 (cond g 116 0))))) == 10 ≡ false
seven true b c d e f g x h = h refl
seven false true c d e f g x h = h refl
seven false false true d e f g x h = refl
seven false false false true e f g x h = refl
seven false false false false true f g x h = refl
seven false false false false false true g x h = refl
seven false false false false false false true x h = refl
seven false false false false false false false x h = refl

quote_or_backslash : (x : ℕ) (a b : Bool) → x == 34 ≡ a → x == 92 ≡ b → a || b ≡ true → x == 10 ≡ false
quote_or_backslash x true b p q h = grind (arith, nat_tests)
quote_or_backslash x false true p q h = grind (arith, nat_tests)
quote_or_backslash x false false p q h = absurd (false≢true h)

letter_line : (x : ℕ) → escape_letter x == 10 ≡ false
letter_line x = seven (x == 34) (x == 92) (x == 8) (x == 12) (x == 10) (x == 13) (x == 9) x (quote_or_backslash x (x == 34) (x == 92) refl refl)

digit_line : (d : ℕ) → digit_char d == 10 ≡ false
digit_line d = by (nat_lt d 10)
  where
    by : (r : Bool) → cond r (48 + d) (87 + d) == 10 ≡ false
    by true = grind (arith, nat_tests)
    by false = grind (arith, nat_tests)

printed_line : (x : ℕ) → nat_lt x 32 ≡ false → x == 10 ≡ false
printed_line x h = grind (arith, nat_tests)

byte_line : (x : ℕ) → IsOfOneLine (escape_byte x)
unfolding escape_byte
byte_line x = by (nat_lt 0 (escape_letter x)) (nat_lt x 32) refl
  where
    by : (r s : Bool) → nat_lt x 32 ≡ s → IsOfOneLine (cond r (92 ∷ escape_letter x ∷ []) (cond s (92 ∷ 117 ∷ 48 ∷ 48 ∷ digit_char (x / 16) ∷ digit_char (x % 16) ∷ []) (x ∷ [])))
    by true s is = either (escape_letter x == 10) false (letter_line x) refl
    by false true is = either (digit_char (x / 16) == 10) _ (digit_line (x / 16)) (either (digit_char (x % 16) == 10) false (digit_line (x % 16)) refl)
    by false false is = either (x == 10) false (printed_line x is) refl

escape_line : (text : List ℕ) → IsOfOneLine (escape text)
escape_line [] = refl
escape_line (x ∷ text) = both (escape_byte x) (escape text) (byte_line x) (escape_line text)

string_line : (text : List ℕ) → IsOfOneLine (json_string text)
string_line text = both (escape text) (34 ∷ []) (escape_line text) refl

-- ---- texts one after another

concat_line : (texts : List (List ℕ)) → AllByRecursion IsOfOneLine texts → IsOfOneLine (concat texts)
concat_line [] all = refl
concat_line (text ∷ texts) all = both text (concat texts) all.0 (concat_line texts all.1)

-- and a line at their end
concat_is_line : (texts : List (List ℕ)) (end : List ℕ) → AllByRecursion IsOfOneLine texts → is_line end ≡ true → is_line (concat (texts ++ end ∷ [])) ≡ true
concat_is_line [] end all line = ap is_line (append-nil end) ∙ line
concat_is_line (text ∷ texts) end all line = line_after text (concat (texts ++ end ∷ [])) all.0 (concat_is_line texts end all.1 line)

-- ---- lists in JSON

commas_line : (texts : List (List ℕ)) → AllByRecursion IsOfOneLine texts → IsOfOneLine (after_commas texts)
commas_line [] all = refl
commas_line (text ∷ texts) all = both text (after_commas texts) all.0 (commas_line texts all.1)

listed_line : (texts : List (List ℕ)) → AllByRecursion IsOfOneLine texts → IsOfOneLine (listed texts)
listed_line [] all = refl
listed_line (text ∷ texts) all = both (text ++ after_commas texts) (codes "]") (both text (after_commas texts) all.0 (commas_line texts all.1)) refl

strings_line : (texts : List (List ℕ)) → AllByRecursion IsOfOneLine (map json_string texts)
strings_line [] = tt
strings_line (text ∷ texts) = (string_line text, strings_line texts)

texts_line : (texts : List (List ℕ)) → IsOfOneLine (json_texts texts)
texts_line texts = listed_line (map json_string texts) (strings_line texts)

pair_line : (pair : List ℕ × List ℕ) → IsOfOneLine (json_pair pair)
pair_line pair = both (json_string pair.0 ++ 44 ∷ json_string pair.1) (codes "]") (both (json_string pair.0) (44 ∷ json_string pair.1) (string_line pair.0) (string_line pair.1)) refl

each_pair_line : (pairs : List (List ℕ × List ℕ)) → AllByRecursion IsOfOneLine (map json_pair pairs)
each_pair_line [] = tt
each_pair_line (pair ∷ pairs) = (pair_line pair, each_pair_line pairs)

pairs_line : (pairs : List (List ℕ × List ℕ)) → IsOfOneLine (json_pairs pairs)
pairs_line pairs = listed_line (map json_pair pairs) (each_pair_line pairs)

-- ---- the parts of a line

truth_line : (truth : Bool) → IsOfOneLine (truth_text truth)
truth_line true = refl
truth_line false = refl

required_line : (features : List (List ℕ)) → IsOfOneLine (required_text features)
unfolding required_list
required_line [] = refl
required_line (feature ∷ features) = concat_line (codes ",\"required-features\":" ∷ json_texts (feature ∷ features) ∷ []) (refl, (texts_line (feature ∷ features), tt))

target_line : (t : Target) → IsOfOneLine (target_text t)
unfolding target_object
target_line t =
    concat_line
    (codes "{\"kind\":" ∷ json_texts t.kinds ∷ codes ",\"crate_types\":" ∷ json_texts t.crate_types ∷ codes ",\"name\":" ∷ json_string t.name ∷ codes ",\"src_path\":" ∷ json_string t.source ∷ codes ",\"edition\":" ∷ json_string (edition_text t.edition) ∷ required_text t.required_features ∷ codes "}" ∷ [])
    (refl, (texts_line t.kinds, (refl, (texts_line t.crate_types, (refl, (string_line t.name, (refl, (string_line t.source, (refl, (string_line (edition_text t.edition), (required_line t.required_features, (refl, tt))))))))))))

id_line : (s : Subject) → IsOfOneLine (id_text s)
unfolding id_text
id_line s = concat_line (codes "\"package_id\":" ∷ json_string (package_id s) ∷ []) (refl, (string_line (package_id s), tt))

subject_line : (s : Subject) → IsOfOneLine (subject_text s)
unfolding subject_object
subject_line s = concat_line (id_text s ∷ codes ",\"manifest_path\":" ∷ json_string s.manifest ∷ codes ",\"target\":" ∷ target_text s.target ∷ []) (id_line s, (refl, (string_line s.manifest, (refl, (target_line s.target, tt)))))

debug_line : (w : Word) → IsOfOneLine (debug_info_json w)
debug_line word.Zero = refl
debug_line word.One = refl
debug_line word.Two = refl
debug_line w = string_line (spelled w)

profile_line : (s : List Setting) → IsOfOneLine (profile_text s)
profile_line s =
    concat_line
    (codes "{\"opt_level\":" ∷ json_string (spelled (opt_level s)) ∷ codes ",\"debuginfo\":" ∷ debug_info_json (debug s) ∷ codes ",\"debug_assertions\":" ∷ truth_text (debug_assertions s) ∷ codes ",\"overflow_checks\":" ∷ truth_text (overflow_checks s) ∷ codes ",\"test\":false}" ∷ [])
    (refl, (string_line (spelled (opt_level s)), (refl, (debug_line (debug s), (refl, (truth_line (debug_assertions s), (refl, (truth_line (overflow_checks s), (refl, tt)))))))))

executable_line : (is : Bool) (file : List ℕ) → IsOfOneLine (executable_text is file)
executable_line true file = string_line file
executable_line false file = refl

word_line : (level : Level) → IsOfOneLine (level_text level)
word_line Warning = refl
word_line Error = refl

-- ---- the lines

artifact_is_line : (subject : List ℕ) (a : Artifact) (fresh : Bool) → IsOfOneLine subject → is_line (artifact_line subject a fresh) ≡ true
unfolding artifact_object
artifact_is_line subject a fresh one =
    concat_is_line
    (codes "{\"reason\":\"compiler-artifact\"," ∷ subject ∷ codes ",\"profile\":" ∷ profile_text a.settings ∷ codes ",\"features\":" ∷ json_texts a.features ∷ codes ",\"filenames\":[" ∷ json_string a.file ∷ codes "],\"executable\":" ∷ executable_text a.is_executable a.file ∷ codes ",\"fresh\":" ∷ truth_text fresh ∷ [])
    (codes "}\n")
    (refl, (one, (refl, (profile_line a.settings, (refl, (texts_line a.features, (refl, (string_line a.file, (refl, (executable_line a.is_executable a.file, (refl, (truth_line fresh, tt))))))))))))
    refl

note_is_line : (id : List ℕ) (level : Level) (text : List ℕ) → IsOfOneLine id → is_line (note_line id level text) ≡ true
unfolding note_object
note_is_line id level text one =
    concat_is_line (codes "{\"reason\":\"build-script-note\"," ∷ id ∷ codes ",\"level\":\"" ∷ level_text level ∷ codes "\",\"text\":" ∷ json_string text ∷ []) (codes "}\n")
    (refl, (one, (refl, (word_line level, (refl, (string_line text, tt)))))) refl

executed_is_line : (id : List ℕ) (e : Executed) → IsOfOneLine id → is_line (executed_line id e) ≡ true
unfolding executed_object
executed_is_line id e one =
    concat_is_line
    (codes "{\"reason\":\"build-script-executed\"," ∷ id ∷ codes ",\"linked_libs\":" ∷ json_texts e.linked_libraries ∷ codes ",\"linked_paths\":" ∷ json_texts e.linked_paths ∷ codes ",\"cfgs\":" ∷ json_texts e.conditions ∷ codes ",\"env\":" ∷ json_pairs e.variables ∷ codes ",\"out_dir\":" ∷ json_string e.out_folder ∷ [])
    (codes "}\n")
    (refl, (one, (refl, (texts_line e.linked_libraries, (refl, (texts_line e.linked_paths, (refl, (texts_line e.conditions, (refl, (pairs_line e.variables, (refl, (string_line e.out_folder, tt))))))))))))
    refl

diagnostic_is_line : (subject text : List ℕ) → IsOfOneLine subject → IsOfOneLine text → is_line (diagnostic_line subject text) ≡ true
diagnostic_is_line subject text one told =
    concat_is_line (codes "{\"reason\":\"compiler-message\"," ∷ subject ∷ codes ",\"message\":" ∷ text ∷ []) (codes "}\n") (refl, (one, (refl, (told, tt)))) refl

pub messages_are_lines : MessagesAreLines
messages_are_lines s fresh (CompilerMessage text) told = diagnostic_is_line (subject_text s) text (subject_line s) told
messages_are_lines s fresh (CompilerArtifact artifact) told = artifact_is_line (subject_text s) artifact fresh (subject_line s)
messages_are_lines s fresh (BuildScriptNote level text) told = note_is_line (id_text s) level text (id_line s)
messages_are_lines s fresh (BuildScriptExecuted executed) told = executed_is_line (id_text s) executed (id_line s)

pub builds_end_in_line : BuildsEndInLine
builds_end_in_line true = refl
builds_end_in_line false = refl
