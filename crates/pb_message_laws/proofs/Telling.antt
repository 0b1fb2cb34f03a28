-- Messages whose lines are one.
use Rattle.std.proofs.Common.{◌≡◌, ◌∙◌, ℕ, Bool, List, [], ◌∷◌, ◌++◌, codes, nat_eq, refl, sym, ap}
use Rattle.std.proofs.lemmas.Bool.{false≢true}
use Rattle.std.proofs.lemmas.List.{append-nil, append_cancel_left, append_cancel_right}
use Rattle.std.specs.List.{starts_with}
use Rattle.json.specs.Lex.{tokens}
use Rattle.json.specs.Print.{quoted, print, print_from, ArePrintable}
use Rattle.json.specs.Token.{string}
use Rattle.json.proofs.Printed.Tokens.{tokens-print}
use Rattle.pb_json.specs.Json.{json_string}
use Rattle.pb_message.specs.Message.{id_text, subject_text, diagnostic_line, artifact_object, level_text, note_object, note_line, executed_object}
use Rattle.pb_message.specs.declared.message.Level.{Level}
use Rattle.pb_message.specs.declared.message.Level.TheVariants.{Warning, Error}
use Rattle.pb_message.specs.declared.message.Message.TheVariants.{CompilerMessage, CompilerArtifact, BuildScriptNote, BuildScriptExecuted}
use Rattle.pb_message_laws.specs.Told.{LinesTellMessages}

-- a JSON string is read back
printed_string : (text : List ℕ) → print (string text ∷ []) ≡ quoted text
unfolding print_from
printed_string text = append-nil (quoted text)

read_string : (text : List ℕ) → tokens (quoted text) ≡ string text ∷ []
unfolding ArePrintable
read_string text = ap tokens (sym (printed_string text)) ∙ tokens-print (string text ∷ []) (tt, tt)

one_string : (text other : List ℕ) → json_string text ≡ json_string other → text ≡ other
one_string text other is = told (sym (read_string text) ∙ ap tokens is ∙ read_string other)
  where
    told : string text ∷ [] ≡ string other ∷ [] → text ≡ other
    told h = cc

-- whether a text begins so
abbrev begins : List ℕ → List ℕ → Bool
begins front text = starts_with nat_eq text front

-- diagnostics of one line
one_diagnostic : (subject text other : List ℕ) → diagnostic_line subject text ≡ diagnostic_line subject other → text ≡ other
one_diagnostic subject text other is =
    append_cancel_right text other (codes "}\n")
    (append_cancel_left (codes ",\"message\":") (text ++ codes "}\n") (other ++ codes "}\n")
    (append_cancel_left subject (codes ",\"message\":" ++ (text ++ codes "}\n")) (codes ",\"message\":" ++ (other ++ codes "}\n"))
    (append_cancel_left (codes "{\"reason\":\"compiler-message\",") (subject ++ (codes ",\"message\":" ++ (text ++ codes "}\n"))) (subject ++ (codes ",\"message\":" ++ (other ++ codes "}\n"))) is)))

-- notes of one line
after_level : List ℕ → List ℕ
after_level text = codes "\",\"text\":" ++ (json_string text ++ codes "}\n")

one_text : (text other : List ℕ) → after_level text ≡ after_level other → text ≡ other
unfolding after_level
one_text text other is =
    one_string text other (append_cancel_right (json_string text) (json_string other) (codes "}\n") (append_cancel_left (codes "\",\"text\":") (json_string text ++ codes "}\n") (json_string other ++ codes "}\n") is))

one_level : (level other_level : Level) (text other : List ℕ) → level_text level ++ after_level text ≡ level_text other_level ++ after_level other → (level ≡ other_level) × (text ≡ other)
one_level Warning Warning text other is = (refl, one_text text other (append_cancel_left (codes "warning") (after_level text) (after_level other) is))
one_level Warning Error text other is = absurd (false≢true (sym (ap (begins (codes "w")) is)))
one_level Error Warning text other is = absurd (false≢true (sym (ap (begins (codes "e")) is)))
one_level Error Error text other is = (refl, one_text text other (append_cancel_left (codes "error") (after_level text) (after_level other) is))

one_note : (id : List ℕ) (level other_level : Level) (text other : List ℕ) → note_line id level text ≡ note_line id other_level other → (level ≡ other_level) × (text ≡ other)
unfolding note_object after_level
one_note id level other_level text other is =
    one_level level other_level text other
    (append_cancel_left (codes ",\"level\":\"") (level_text level ++ after_level text) (level_text other_level ++ after_level other)
    (append_cancel_left id (codes ",\"level\":\"" ++ (level_text level ++ after_level text)) (codes ",\"level\":\"" ++ (level_text other_level ++ after_level other))
    (append_cancel_left (codes "{\"reason\":\"build-script-note\",") (id ++ (codes ",\"level\":\"" ++ (level_text level ++ after_level text))) (id ++ (codes ",\"level\":\"" ++ (level_text other_level ++ after_level other))) is)))

pub lines_tell_messages : LinesTellMessages
unfolding artifact_object note_object executed_object
lines_tell_messages s fresh (CompilerMessage text) (CompilerMessage other) is = one_diagnostic (subject_text s) text other is
lines_tell_messages s fresh (CompilerMessage text) (CompilerArtifact a) is = absurd (false≢true (sym (ap (begins (codes "{\"reason\":\"compiler-m")) is)))
lines_tell_messages s fresh (CompilerMessage text) (BuildScriptNote l t) is = absurd (false≢true (sym (ap (begins (codes "{\"reason\":\"compiler-m")) is)))
lines_tell_messages s fresh (CompilerMessage text) (BuildScriptExecuted e) is = absurd (false≢true (sym (ap (begins (codes "{\"reason\":\"compiler-m")) is)))
lines_tell_messages s fresh (CompilerArtifact a) (CompilerMessage text) is = absurd (false≢true (sym (ap (begins (codes "{\"reason\":\"compiler-a")) is)))
lines_tell_messages s fresh (CompilerArtifact a) (CompilerArtifact b) is = tt
lines_tell_messages s fresh (CompilerArtifact a) (BuildScriptNote l t) is = absurd (false≢true (sym (ap (begins (codes "{\"reason\":\"compiler-a")) is)))
lines_tell_messages s fresh (CompilerArtifact a) (BuildScriptExecuted e) is = absurd (false≢true (sym (ap (begins (codes "{\"reason\":\"compiler-a")) is)))
lines_tell_messages s fresh (BuildScriptNote l t) (CompilerMessage text) is = absurd (false≢true (sym (ap (begins (codes "{\"reason\":\"build-script-n")) is)))
lines_tell_messages s fresh (BuildScriptNote l t) (CompilerArtifact a) is = absurd (false≢true (sym (ap (begins (codes "{\"reason\":\"build-script-n")) is)))
lines_tell_messages s fresh (BuildScriptNote l t) (BuildScriptNote k u) is = one_note (id_text s) l k t u is
lines_tell_messages s fresh (BuildScriptNote l t) (BuildScriptExecuted e) is = absurd (false≢true (sym (ap (begins (codes "{\"reason\":\"build-script-n")) is)))
lines_tell_messages s fresh (BuildScriptExecuted e) (CompilerMessage text) is = absurd (false≢true (sym (ap (begins (codes "{\"reason\":\"build-script-e")) is)))
lines_tell_messages s fresh (BuildScriptExecuted e) (CompilerArtifact a) is = absurd (false≢true (sym (ap (begins (codes "{\"reason\":\"build-script-e")) is)))
lines_tell_messages s fresh (BuildScriptExecuted e) (BuildScriptNote l t) is = absurd (false≢true (sym (ap (begins (codes "{\"reason\":\"build-script-e")) is)))
lines_tell_messages s fresh (BuildScriptExecuted e) (BuildScriptExecuted f) is = tt
