-- A line by its words.
use borrow.Author.Tests.{ltb-false}
use Rattle.std.proofs.Common.{◌≡◌, ℕ, ◌≤◌, Bool, true, false, cond, List, [], ◌∷◌, length, refl, sym, ap, ◌∙◌, arith, eqb, ltb, codes}
use Rattle.std.proofs.lemmas.Bool.Decides.{Decides-ltb}
use Rattle.std.proofs.lemmas.List.{take_all, drop_all}
use Rattle.std.proofs.lemmas.List.Splits.{slice_split_first, slice_split_none, join_with_byte-slice_split}
use Rattle.std.proofs.lemmas.List.Sums.{fails_before_first}
use Rattle.std.specs.List.{slice_split, position_or_len, join_with_byte}
use Rattle.std.specs.Str.{bytes_eq}
use Rattle.pb_data.specs.OrderedSet.{is_mentioned}
use Rattle.pb_mini.specs.Lines.{word_in, rest_of}
use Rattle.pb_mini.specs.Verbs.{without_conditions, line_meant}

abbrev words : List ℕ → List (List ℕ)
words line = slice_split (λ b. eqb b 32) line

-- a line is a word alone, or a word and what follows a space
data Shape (line : List ℕ) : Type 0 where
  Alone : words line ≡ line ∷ [] → word_in line ≡ line → rest_of line ≡ [] → Shape line
  More : words line ≡ word_in line ∷ words (rest_of line) → Shape line

shape : (line : List ℕ) → Shape line
shape line = by (ltb (position_or_len (λ b. eqb b 32) line) (length line)) refl
  where
    by : (r : Bool) → ltb (position_or_len (λ b. eqb b 32) line) (length line) ≡ r → Shape line
    by true is = More (slice_split_first (λ b. eqb b 32) line 0 ((Decides-ltb _ _).0 is))
    by false is =
        let past : length line ≤ position_or_len (λ b. eqb b 32) line = omega (arith, ltb-false) in
        Alone (slice_split_none (λ b. eqb b 32) line (λ k d inside. fails_before_first (λ b. eqb b 32) line k d (omega arith))) (take_all _ line past) (drop_all _ line (omega arith))

-- ---- a line without `when` in front

unchanged : (given : List (List ℕ)) (word next : List ℕ) (more : List (List ℕ)) → bytes_eq word (codes "when") ≡ false → without_conditions given (word ∷ next ∷ more) ≡ word ∷ next ∷ more
unchanged given word next more other = ap (λ r. cond r (cond (is_mentioned given next) (without_conditions given more) []) (word ∷ next ∷ more)) other

unchanged_words : (given : List (List ℕ)) (word rest : List ℕ) → bytes_eq word (codes "when") ≡ false → without_conditions given (word ∷ words rest) ≡ word ∷ words rest
unchanged_words given word rest other = elim (shape rest) [
  | Alone one in_one nothing ↦ ap (λ ws. without_conditions given (word ∷ ws)) one ∙ unchanged given word rest [] other ∙ ap (λ ws. word ∷ ws) (sym one)
  | More parts ↦ ap (λ ws. without_conditions given (word ∷ ws)) parts ∙ unchanged given word (word_in rest) (words (rest_of rest)) other ∙ ap (λ ws. word ∷ ws) (sym parts)
]

pub not_when : (given : List (List ℕ)) (line word : List ℕ) → word ≡ word_in line → bytes_eq word (codes "when") ≡ false → line_meant given line ≡ line
not_when given line word is other = elim (shape line) [
  | Alone one in_one nothing ↦
      ap (λ ws. join_with_byte 32 (without_conditions given ws)) one
      ∙ ap (λ r. join_with_byte 32 (cond r [] (line ∷ []))) (ap (λ w. bytes_eq w (codes "when")) (sym in_one ∙ sym is) ∙ other)
  | More parts ↦
      ap (λ ws. join_with_byte 32 (without_conditions given ws)) parts
      ∙ ap (join_with_byte 32) (unchanged_words given (word_in line) (rest_of line) (ap (λ w. bytes_eq w (codes "when")) (sym is) ∙ other))
      ∙ ap (join_with_byte 32) (sym parts)
      ∙ join_with_byte-slice_split 32 line
]

-- ---- a line with `when` in front

abbrev meant : List (List ℕ) → List ℕ → List ℕ → List ℕ
meant given condition rest = cond (is_mentioned given condition) (line_meant given rest) []

nothing_meant : (given : List (List ℕ)) (r : Bool) → cond r (line_meant given []) [] ≡ []
nothing_meant given true = refl
nothing_meant given false = refl

nothing_left : (given : List (List ℕ)) (r : Bool) → join_with_byte 32 (cond r (without_conditions given []) []) ≡ []
nothing_left given true = refl
nothing_left given false = refl

joined_left : (given : List (List ℕ)) (r : Bool) (more : List (List ℕ)) → join_with_byte 32 (cond r (without_conditions given more) []) ≡ cond r (join_with_byte 32 (without_conditions given more)) []
joined_left given true more = refl
joined_left given false more = refl

after_when : (given : List (List ℕ)) (word rest : List ℕ) → bytes_eq word (codes "when") ≡ true
    → join_with_byte 32 (without_conditions given (word ∷ words rest)) ≡ meant given (word_in rest) (rest_of rest)
after_when given word rest same = elim (shape rest) [
  | Alone one in_one nothing ↦
      ap (λ ws. join_with_byte 32 (without_conditions given (word ∷ ws))) one
      ∙ ap (λ r. join_with_byte 32 (cond r (cond (is_mentioned given rest) (without_conditions given []) []) (word ∷ rest ∷ []))) same
      ∙ nothing_left given (is_mentioned given rest)
      ∙ sym (nothing_meant given (is_mentioned given (word_in rest)))
      ∙ ap (meant given (word_in rest)) (sym nothing)
  | More parts ↦
      ap (λ ws. join_with_byte 32 (without_conditions given (word ∷ ws))) parts
      ∙ ap (λ r. join_with_byte 32 (cond r (cond (is_mentioned given (word_in rest)) (without_conditions given (words (rest_of rest))) []) (word ∷ word_in rest ∷ words (rest_of rest)))) same
      ∙ joined_left given (is_mentioned given (word_in rest)) (words (rest_of rest))
]

alone_when : (given : List (List ℕ)) (line : List ℕ) → bytes_eq line (codes "when") ≡ true → rest_of line ≡ []
    → join_with_byte 32 (without_conditions given (line ∷ [])) ≡ meant given (word_in (rest_of line)) (rest_of (rest_of line))
alone_when given line same nothing =
    ap (λ r. join_with_byte 32 (cond r [] (line ∷ []))) same
    ∙ sym (nothing_meant given (is_mentioned given (word_in [])))
    ∙ ap (λ x. meant given (word_in x) (rest_of x)) (sym nothing)

pub is_when : (given : List (List ℕ)) (line word rest condition next : List ℕ) → word ≡ word_in line → bytes_eq word (codes "when") ≡ true → rest ≡ rest_of line → condition ≡ word_in rest → next ≡ rest_of rest
    → line_meant given line ≡ meant given condition next
is_when given line word rest condition next is same follows first last = elim (shape line) [
  | Alone one in_one nothing ↦
      ap (λ ws. join_with_byte 32 (without_conditions given ws)) one
      ∙ alone_when given line (ap (λ w. bytes_eq w (codes "when")) (sym in_one ∙ sym is) ∙ same) nothing ∙ parts
  | More ws ↦
      ap (λ ws. join_with_byte 32 (without_conditions given ws)) ws
      ∙ after_when given (word_in line) (rest_of line) (ap (λ w. bytes_eq w (codes "when")) (sym is) ∙ same) ∙ parts
]
  where
    parts : meant given (word_in (rest_of line)) (rest_of (rest_of line)) ≡ meant given condition next
    parts = λ i. meant given (sym (first ∙ ap word_in follows) i) (sym (last ∙ ap rest_of follows) i)
