-- Lemmas on the words of a text.
use borrow.Author.Tests.{ltb-false}
use Rattle.std.proofs.Common.{◌≡◌, ℕ, ◌+◌, ◌<◌, ◌≤◌, not, Bool, true, false, cond, List, [], ◌∷◌, length, None, Some, refl, sym, ◌∙◌, ap, arith, eqb, ltb, if◌then◌else◌, filter, length-drop}
use Rattle.std.proofs.lemmas.Bool.Decides.{Decides-ltb}
use Rattle.std.proofs.lemmas.List.Splits.{slice_split_first}
use Rattle.std.specs.List.{slice_split, position_or_len, before_first, after_first}
use Rattle.pb_directive.specs.Directives.{is_empty, words_of, some_word}
use Rattle.pb_directive.specs.Lines.{split_first}
use Rattle.pb_directive.proofs.TextLemmas.{split_none}

-- what a found byte says
pub record Cut (byte : ℕ) (text part rest : List ℕ) : Type 0 where
  pub inside : position_or_len (λ b. eqb b byte) text < length text
  pub before : before_first (λ b. eqb b byte) text ≡ part
  pub after : after_first (λ b. eqb b byte) text ≡ rest

pub cut_of : (byte : ℕ) (text part rest : List ℕ) → split_first byte text ≡ Some (part, rest) → Cut byte text part rest
cut_of byte text part rest at = by (ltb (position_or_len (λ b. eqb b byte) text) (length text)) refl
  where
    by : (r : Bool) → ltb (position_or_len (λ b. eqb b byte) text) (length text) ≡ r → Cut byte text part rest
    by true is =
        let found : Some (before_first (λ b. eqb b byte) text, after_first (λ b. eqb b byte) text) ≡ Some (part, rest) = sym (ap (λ r. cond r (Some (before_first (λ b. eqb b byte) text, after_first (λ b. eqb b byte) text)) None) is) ∙ at in
        let pair : (before_first (λ b. eqb b byte) text, after_first (λ b. eqb b byte) text) ≡ (part, rest) = cc in
        record {
          inside = (Decides-ltb _ _).0 is;
          before = ap (λ (p : List ℕ × List ℕ). p.0) pair;
          after = ap (λ (p : List ℕ × List ℕ). p.1) pair;
        }
    by false is =
        let found : None ≡ Some (part, rest) = sym (ap (λ r. cond r (Some (before_first (λ b. eqb b byte) text, after_first (λ b. eqb b byte) text)) None) is) ∙ at in
        absurd (cc)

-- where there is such a byte, the text is cut there
pub split_first-some : (byte : ℕ) (text part rest : List ℕ) → split_first byte text ≡ Some (part, rest) → slice_split (λ b. eqb b byte) text ≡ part ∷ slice_split (λ b. eqb b byte) rest
split_first-some byte text part rest at =
    let cut = cut_of byte text part rest at in
    slice_split_first (λ b. eqb b byte) text 0 cut.inside ∙ (λ i. cut.before i ∷ slice_split (λ b. eqb b byte) (cut.after i))

-- and what follows is shorter
pub split_first-shorter : (byte : ℕ) (text part rest : List ℕ) → split_first byte text ≡ Some (part, rest) → length rest < length text
split_first-shorter byte text part rest at =
    let cut = cut_of byte text part rest at in
    let inside : position_or_len (λ b. eqb b byte) text < length text = cut.inside in
    omega (arith, ap length cut.after, length-drop (position_or_len (λ b. eqb b byte) text + 1) text)

-- else the text is the one part
pub split_first-none : (byte : ℕ) (text : List ℕ) → split_first byte text ≡ None → slice_split (λ b. eqb b byte) text ≡ text ∷ []
split_first-none byte text at = by (ltb (position_or_len (λ b. eqb b byte) text) (length text)) refl
  where
    by : (r : Bool) → ltb (position_or_len (λ b. eqb b byte) text) (length text) ≡ r → slice_split (λ b. eqb b byte) text ≡ text ∷ []
    by true is =
        let found : Some (before_first (λ b. eqb b byte) text, after_first (λ b. eqb b byte) text) ≡ None = sym (ap (λ r. cond r (Some (before_first (λ b. eqb b byte) text, after_first (λ b. eqb b byte) text)) None) is) ∙ at in
        absurd (cc)
    by false is =
        let past : length text ≤ position_or_len (λ b. eqb b byte) text = omega (arith, ltb-false) in
        split_none (λ b. eqb b byte) text past

pub words_cons : (part : List ℕ) (parts : List (List ℕ)) → filter (λ word. not (is_empty word)) (part ∷ parts) ≡ some_word part (filter (λ word. not (is_empty word)) parts)
words_cons part parts = by (is_empty part) refl
  where
    by : (r : Bool) → is_empty part ≡ r → filter (λ word. not (is_empty word)) (part ∷ parts) ≡ some_word part (filter (λ word. not (is_empty word)) parts)
    by true is = (λ i. cond (not (is i)) (part ∷ filter (λ word. not (is_empty word)) parts) (filter (λ word. not (is_empty word)) parts)) ∙ sym (ap (λ r. if r then filter (λ word. not (is_empty word)) parts else part ∷ filter (λ word. not (is_empty word)) parts) is)
    by false is = (λ i. cond (not (is i)) (part ∷ filter (λ word. not (is_empty word)) parts) (filter (λ word. not (is_empty word)) parts)) ∙ sym (ap (λ r. if r then filter (λ word. not (is_empty word)) parts else part ∷ filter (λ word. not (is_empty word)) parts) is)

pub words_of-some : (text part rest : List ℕ) → split_first 32 text ≡ Some (part, rest) → words_of text ≡ some_word part (words_of rest)
words_of-some text part rest at = ap (filter (λ word. not (is_empty word))) (split_first-some 32 text part rest at) ∙ words_cons part (slice_split (λ b. eqb b 32) rest)

pub words_of-none : (text : List ℕ) → split_first 32 text ≡ None → words_of text ≡ some_word text []
words_of-none text at = ap (filter (λ word. not (is_empty word))) (split_first-none 32 text at) ∙ words_cons text []

pub ruleset word_laws = (words_of-some, words_of-none, split_first-shorter)

-- a part that is not empty is a word
pub words_of-word : (text part rest : List ℕ) → Some (part, rest) ≡ split_first 32 text → is_empty part ≡ false → words_of text ≡ part ∷ words_of rest
words_of-word text part rest at is = words_of-some text part rest (sym at) ∙ ap (λ r. if r then words_of rest else part ∷ words_of rest) is
