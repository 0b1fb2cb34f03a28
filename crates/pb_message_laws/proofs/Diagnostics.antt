-- Diagnostics that are found in what a compiler writes are of one line.
use Rattle.std.proofs.Common.{◌≡◌, ◌∙◌, ◌==◌, ◌||◌, ℕ, Bool, true, false, cond, List, [], ◌∷◌, reverse, Some, None, refl, ap}
use Rattle.std.proofs.lemmas.List.{reverse-append}
use Rattle.std.specs.List.{onto_first, AllByRecursion}
use Rattle.std.specs.Str.{is_utf8}
use Rattle.serde_json.specs.Read.{read}
use Rattle.pb_directive.specs.Lines.{has_byte, is_blank, lines_of, trimmed_front, trimmed}
use Rattle.pb_message.specs.Diagnostics.{reads_as_object, object_text, diagnostic_in, and_more, diagnostics_in}
use Rattle.pb_message_laws.specs.OneLine.{IsOfOneLine, DiagnosticsAreLines}
use Rattle.pb_message_laws.proofs.Lines.{both, or_second}

-- the lines of a text
onto_line : (b : ℕ) (lines : List (List ℕ)) → b == 10 ≡ false → AllByRecursion IsOfOneLine lines → AllByRecursion IsOfOneLine (onto_first b lines)
onto_line b [] one all = (both (b ∷ []) [] (ap (λ r. r || false) one) refl, tt)
onto_line b (line ∷ lines) one all = (ap (λ r. r || has_byte 10 line) one ∙ all.0, all.1)

lines_line : (bytes : List ℕ) → AllByRecursion IsOfOneLine (lines_of bytes)
lines_line [] = (refl, tt)
lines_line (b ∷ bytes) = by (b == 10) refl (lines_line bytes)
  where
    by : (r : Bool) → b == 10 ≡ r → AllByRecursion IsOfOneLine (lines_of bytes) → AllByRecursion IsOfOneLine (cond r ([] ∷ lines_of bytes) (onto_first b (lines_of bytes)))
    by true is all = (refl, all)
    by false is all = onto_line b (lines_of bytes) is all

-- without the blanks at its ends
front_line : (bytes : List ℕ) → IsOfOneLine bytes → IsOfOneLine (trimmed_front bytes)
front_line [] one = refl
front_line (b ∷ bytes) one = by (is_blank b) (front_line bytes (or_second (b == 10) (has_byte 10 bytes) one))
  where
    by : (r : Bool) → IsOfOneLine (trimmed_front bytes) → IsOfOneLine (cond r (trimmed_front bytes) (b ∷ bytes))
    by true rest = rest
    by false rest = one

reverse_line : (bytes : List ℕ) → IsOfOneLine bytes → IsOfOneLine (reverse bytes)
reverse_line [] one = refl
reverse_line (b ∷ bytes) one =
    ap (has_byte 10) (reverse-append (b ∷ []) bytes)
    ∙ both (reverse bytes) (b ∷ []) (reverse_line bytes (or_second (b == 10) (has_byte 10 bytes) one)) (alone (b == 10) (has_byte 10 bytes) one)
  where
    alone : (r s : Bool) → r || s ≡ false → r || false ≡ false
    alone true s h = h
    alone false s h = refl

trimmed_line : (bytes : List ℕ) → IsOfOneLine bytes → IsOfOneLine (trimmed bytes)
trimmed_line bytes one = reverse_line (trimmed_front (reverse (trimmed_front bytes))) (front_line (reverse (trimmed_front bytes)) (reverse_line (trimmed_front bytes) (front_line bytes one)))

-- the diagnostics among them
kept_line : (line : List ℕ) (texts : List (List ℕ)) → IsOfOneLine line → AllByRecursion IsOfOneLine texts → AllByRecursion IsOfOneLine (and_more (diagnostic_in line) texts)
kept_line line texts one all = by (is_utf8 (trimmed line))
  where
    held : (s : Bool) → AllByRecursion IsOfOneLine (and_more (cond s (Some (trimmed line)) None) texts)
    held true = (trimmed_line line one, all)
    held false = all

    by : (r : Bool) → AllByRecursion IsOfOneLine (and_more (object_text (cond r (Some (trimmed line)) None)) texts)
    by true = held (reads_as_object (read (trimmed line)))
    by false = all

found_line : (lines : List (List ℕ)) → AllByRecursion IsOfOneLine lines → AllByRecursion IsOfOneLine (diagnostics_in lines)
found_line [] all = tt
found_line (line ∷ lines) all = kept_line line (diagnostics_in lines) all.0 (found_line lines all.1)

pub diagnostics_are_lines : DiagnosticsAreLines
diagnostics_are_lines stderr = found_line (lines_of stderr) (lines_line stderr)
