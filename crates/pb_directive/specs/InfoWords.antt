-- What a line of dep-info names, defined without following the code (The Cargo Book, "Build Cache",
-- "Dep-Info Files").
use Rattle.std.specs.Prelude.{◌≡◌, ◌≢◌, ◌↔◌, ℕ, true, false, codes, List, [], ◌∷◌, ◌++◌, Some, Result, Ok, Err}
use Rattle.std.specs.Str.{is_utf8}
use Rattle.std.specs.Str.Lines.{strip_carriage_return}
use Rattle.pb_data.specs.Ascii.{hash}
use Rattle.pb_directive.specs.DepInfo.{after_outputs, line_info, nothing, rule_words}
use Rattle.pb_directive.specs.LineWords.{IsFilled, IsPlain, IsUncut}
use Rattle.pb_directive.specs.declared.dep_info.DepInfo.{DepInfo}
use Rattle.pb_directive.specs.declared.fault.Problem.{Problem}
use Rattle.pb_directive.specs.declared.fault.Problem.TheVariants as problem

-- the text is empty, or it is `=` and a value
abbrev pub IsValue : List ℕ → Type 0
IsValue [] = Unit {0}
IsValue (b ∷ value) = b ≡ 61

-- What a line of dep-info names, after a carriage return at its end was removed. An empty line
-- names nothing. `# env-dep:NAME` or `# env-dep:NAME=VALUE` names a variable. Any other line that
-- begins with `#` names nothing. A rule names the words after its outputs; these words must have no
-- byte 0.
pub data IsInfo (text : List ℕ) : Result DepInfo Problem → Type 0 where
  raw : (is : is_utf8 text ≡ false) → IsInfo text (Err problem.NotText)
  empty : (is : text ≡ []) → IsInfo text (Ok nothing)
  comment : (utf8 : is_utf8 text ≡ true) (rest : List ℕ) (is : text ≡ hash ∷ rest) (other : (more : List ℕ) → text ≢ codes "# env-dep:" ++ more) → IsInfo text (Ok nothing)
  variable : (utf8 : is_utf8 text ≡ true) (name value : List ℕ) (is : text ≡ codes "# env-dep:" ++ name ++ value) (whole : IsUncut name) (ends : IsValue value) (filled : IsFilled name) → IsInfo text (Ok record { words = []; variables = name ∷ [] })
  variable_refused : (utf8 : is_utf8 text ≡ true) (name value : List ℕ) (is : text ≡ codes "# env-dep:" ++ name ++ value) (whole : IsUncut name) (ends : IsValue value) (unfilled : IsFilled name → ⊥) → IsInfo text (Err problem.BadValue)
  rule : (utf8 : is_utf8 text ≡ true) (some : text ≢ []) (no_comment : (rest : List ℕ) → text ≢ hash ∷ rest) (rest : List ℕ) (behind : after_outputs text ≡ Some rest) (plain : IsPlain rest) → IsInfo text (Ok record { words = rule_words rest; variables = [] })
  rule_refused : (utf8 : is_utf8 text ≡ true) (some : text ≢ []) (no_comment : (rest : List ℕ) → text ≢ hash ∷ rest) (none : (rest : List ℕ) → after_outputs text ≡ Some rest → IsPlain rest → ⊥) → IsInfo text (Err problem.BadValue)

-- the reader has this answer for a line if and only if `IsInfo` is true of the line and this answer
abbrev pub InfosSay : Type 0
InfosSay = (line : List ℕ) (answer : Result DepInfo Problem) → (line_info line ≡ answer) ↔ IsInfo (strip_carriage_return line) answer
