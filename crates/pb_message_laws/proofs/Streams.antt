-- Lines one after another; and the lines of a compiler.
use Rattle.std.proofs.Common.{◌≡◌, ℕ, Bool, true, false, List, [], ◌∷◌, ◌++◌, Option, Some, None, refl, sym, ◌∙◌, ap, subst, append_assoc, if◌then◌else◌}
use Rattle.std.specs.Str.{is_utf8}
use Rattle.pb_directive.specs.Lines.{lines_of, trimmed}
use Rattle.pb_message.specs.Diagnostics.{reads_as_object, object_text, diagnostic_in, and_more, diagnostics_in, plain_by, plain_lines_in}
use Rattle.pb_message.specs.Message.{line_of}
use Rattle.serde_json.specs.Data.{Data, Members, null, boolean, number, string, array, object}
use Rattle.serde_json.specs.Read.{read}
use Rattle.pb_message_laws.specs.Objects.{LinesFollow}
use Rattle.pb_message_laws.specs.Streams.{IsObject, AreSaid, nothing, diagnostic, blank, other, CompilersSay}

pub lines_follow : LinesFollow
lines_follow s fresh [] = refl
lines_follow s fresh (m ∷ ms) = ap (λ t. line_of s fresh m ++ t) (lines_follow s fresh ms)

-- ---- what reads as an object

abbrev Is : Option Data → Type 0
Is o = (members : Members) × (o ≡ Some (object members))

object_is : (o : Option Data) → reads_as_object o ≡ true → Is o
object_is None e = absurd (cc)
object_is (Some null) e = absurd (cc)
object_is (Some (boolean b)) e = absurd (cc)
object_is (Some (number n)) e = absurd (cc)
object_is (Some (string s)) e = absurd (cc)
object_is (Some (array items)) e = absurd (cc)
object_is (Some (object members)) e = (members, refl)

no_plain : (bytes text line : List ℕ) → plain_by bytes (Some text) line ≡ []
no_plain [] text line = refl
no_plain (b ∷ bytes) text line = refl

-- ---- a line

module _ (line : List ℕ) (lines texts : List (List ℕ)) (plain : List ℕ) (more : AreSaid lines texts plain) where
  abbrev Said : Option (List ℕ) → Type 0
  Said found = AreSaid (line ∷ lines) (and_more found texts) (plain_by (trimmed line) found line ++ plain)

  none_found : (IsObject (trimmed line) → ⊥) → Said None
  none_found never = by (trimmed line) refl
    where
      by : (bytes : List ℕ) → trimmed line ≡ bytes → AreSaid (line ∷ lines) texts (plain_by bytes None line ++ plain)
      by [] is = blank line lines texts plain is more
      by (b ∷ bytes) is = subst (AreSaid (line ∷ lines) texts) (sym (append_assoc line (10 ∷ []) plain)) (other line lines texts plain (λ e. let wrong : b ∷ bytes ≡ [] = sym is ∙ e in cc) never more)

  one_found : IsObject (trimmed line) → Said (Some (trimmed line))
  one_found is = subst (λ t. AreSaid (line ∷ lines) (trimmed line ∷ texts) (t ++ plain)) (sym (no_plain (trimmed line) (trimmed line) line)) (diagnostic line lines texts plain is more)

  by_object : (r : Bool) → reads_as_object (read (trimmed line)) ≡ r → is_utf8 (trimmed line) ≡ true → Said (if r then Some (trimmed line) else None)
  by_object true is utf8 = one_found (utf8, object_is (read (trimmed line)) is)
  by_object false is utf8 = none_found (λ d. let wrong : reads_as_object (read (trimmed line)) ≡ true = ap reads_as_object d.1.1 in absurd (cc))

  by_text : (r : Bool) → is_utf8 (trimmed line) ≡ r → Said (object_text (if r then Some (trimmed line) else None))
  by_text true is = by_object (reads_as_object (read (trimmed line))) refl is
  by_text false is = none_found (λ d. let wrong : is_utf8 (trimmed line) ≡ true = d.0 in absurd (cc))

  line_said : Said (diagnostic_in line)
  line_said = by_text (is_utf8 (trimmed line)) refl

lines_said : (lines : List (List ℕ)) → AreSaid lines (diagnostics_in lines) (plain_lines_in lines)
lines_said [] = nothing
lines_said (line ∷ lines) = line_said line lines (diagnostics_in lines) (plain_lines_in lines) (lines_said lines)

pub compilers_say : CompilersSay
compilers_say stderr = lines_said (lines_of stderr)
