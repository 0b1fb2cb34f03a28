-- Lemmas on the rules of dep-info.
use borrow.Author.Tests.{ltb-false}
use Rattle.std.proofs.Common.{◌≡◌, ◌≢◌, ℕ, ◌+◌, ◌<◌, ◌≤◌, suc, not, ◌&&◌, ◌||◌, Bool, true, false, cond, List, [], ◌∷◌, ◌++◌, length, take, drop, Option, None, Some, refl, sym, ◌∙◌, ap, subst, arith, eqb, ltb, if◌then◌else◌, append_assoc, filter}
use Rattle.std.proofs.lemmas.Bool.Decides.{Decides-eqb}
use Rattle.std.proofs.Common.{lit<}
use Rattle.std.proofs.lemmas.Str.Pattern.{strip_suffix_char}
use Rattle.std.specs.Borrow.{Bor}
use Rattle.std.specs.Option.{MatchOption}
use Rattle.std.specs.Str.Pattern.{FindsCharSuffix, StripsSuffix}
use Rattle.std.specs.List.{position_or_len, before_first, after_first, list_any, onto_first}
use Rattle.pb_directive.specs.Lines.{split_first}
use Rattle.pb_data.specs.OrderedSet.{mentioned_all}
use Rattle.pb_directive.specs.Directives.{is_empty, some_word}
use Rattle.pb_directive.specs.DepInfo.{ends_outputs, after_outputs, parts_of, rule_words, onto_part}
use Rattle.pb_directive.proofs.WordLemmas.{cut_of, split_first-shorter, words_cons}

-- the text is cut at the first such byte
pub record Around (byte : ℕ) (text part rest : List ℕ) : Type 0 where
  pub whole : text ≡ part ++ byte ∷ rest
  pub first : list_any (λ b. eqb b byte) part ≡ false

around_first : (byte : ℕ) (text : List ℕ) → position_or_len (λ b. eqb b byte) text < length text → Around byte text (before_first (λ b. eqb b byte) text) (after_first (λ b. eqb b byte) text)
around_first byte [] inside = absurd (omega arith)
around_first byte (b ∷ text) inside = by (eqb b byte) refl (around_first byte text)
  where
    by : (r : Bool) → eqb b byte ≡ r → (position_or_len (λ b. eqb b byte) text < length text → Around byte text (before_first (λ b. eqb b byte) text) (after_first (λ b. eqb b byte) text))
        → Around byte (b ∷ text) (before_first (λ b. eqb b byte) (b ∷ text)) (after_first (λ b. eqb b byte) (b ∷ text))
    by true is later =
        let here : position_or_len (λ b. eqb b byte) (b ∷ text) ≡ 0 = ap (λ r. cond (not r) (1 + position_or_len (λ b. eqb b byte) text) 0) is in
        let same : b ≡ byte = (Decides-eqb b byte).0 is in
        subst (λ n. Around byte (b ∷ text) (take n (b ∷ text)) (drop (n + 1) (b ∷ text))) (sym here) (record { whole = ap (λ x. x ∷ text) same; first = refl })
    by false is later =
        let k = position_or_len (λ b. eqb b byte) text in
        let there : position_or_len (λ b. eqb b byte) (b ∷ text) ≡ 1 + k = ap (λ r. cond (not r) (1 + k) 0) is in
        let tail = later (omega arith) in
        let n : position_or_len (λ b. eqb b byte) (b ∷ text) ≡ suc k = omega arith in
        let m : position_or_len (λ b. eqb b byte) (b ∷ text) + 1 ≡ suc (k + 1) = omega arith in
        subst (λ x. Around byte (b ∷ text) (take x (b ∷ text)) (drop (position_or_len (λ b. eqb b byte) (b ∷ text) + 1) (b ∷ text))) (sym n)
        (subst (λ x. Around byte (b ∷ text) (take (suc k) (b ∷ text)) (drop x (b ∷ text))) (sym m)
        (record { whole = ap (λ t. b ∷ t) tail.whole; first = ap (λ r. r || list_any (λ b. eqb b byte) (before_first (λ b. eqb b byte) text)) is ∙ tail.first }))

pub around_of : (byte : ℕ) (text part rest : List ℕ) → split_first byte text ≡ Some (part, rest) → Around byte text part rest
around_of byte text part rest at =
    let cut = cut_of byte text part rest at in
    subst (λ p. Around byte text p rest) cut.before (subst (λ r. Around byte text (before_first (λ b. eqb b byte) text) r) cut.after (around_first byte text cut.inside))

absent_past : (byte : ℕ) (text : List ℕ) → length text ≤ position_or_len (λ b. eqb b byte) text → list_any (λ b. eqb b byte) text ≡ false
absent_past byte [] past = refl
absent_past byte (b ∷ text) past = by (eqb b byte) refl (absent_past byte text)
  where
    by : (r : Bool) → eqb b byte ≡ r → (length text ≤ position_or_len (λ b. eqb b byte) text → list_any (λ b. eqb b byte) text ≡ false) → list_any (λ b. eqb b byte) (b ∷ text) ≡ false
    by true is later =
        let here : position_or_len (λ b. eqb b byte) (b ∷ text) ≡ 0 = ap (λ r. cond (not r) (1 + position_or_len (λ b. eqb b byte) text) 0) is in
        absurd (omega arith)
    by false is later =
        let there : position_or_len (λ b. eqb b byte) (b ∷ text) ≡ 1 + position_or_len (λ b. eqb b byte) text = ap (λ r. cond (not r) (1 + position_or_len (λ b. eqb b byte) text) 0) is in
        ap (λ r. r || list_any (λ b. eqb b byte) text) is ∙ later (omega arith)

-- where the text cannot be cut, it has no such byte
pub absent_of : (byte : ℕ) (text : List ℕ) → split_first byte text ≡ None → list_any (λ b. eqb b byte) text ≡ false
absent_of byte text at = by (ltb (position_or_len (λ b. eqb b byte) text) (length text)) refl
  where
    by : (r : Bool) → ltb (position_or_len (λ b. eqb b byte) text) (length text) ≡ r → list_any (λ b. eqb b byte) text ≡ false
    by true is =
        let found : Some (before_first (λ b. eqb b byte) text, after_first (λ b. eqb b byte) text) ≡ None = sym (ap (λ r. cond r (Some (before_first (λ b. eqb b byte) text, after_first (λ b. eqb b byte) text)) None) is) ∙ at in
        absurd (cc)
    by false is =
        let past : length text ≤ position_or_len (λ b. eqb b byte) text = omega (arith, ltb-false) in
        absent_past byte text past

-- neither of two
pub record Neither (x y : Bool) : Type 0 where
  pub one : x ≡ false
  pub other : y ≡ false

pub neither : (x y : Bool) → (x || y) ≡ false → Neither x y
neither true y is = absurd (cc)
neither false y is = record { one = refl; other = is }

and_false : (x : Bool) → (x && false) ≡ false
and_false true = refl
and_false false = refl

-- ---- the outputs

outputs_past : (part rest : List ℕ) → list_any (λ b. eqb b 58) part ≡ false → after_outputs (part ++ 58 ∷ rest) ≡ after_outputs (58 ∷ rest)
outputs_past [] rest none = refl
outputs_past (b ∷ part) rest none =
    let both = neither (eqb b 58) (list_any (λ b. eqb b 58) part) none in
    ap (λ r. if r && ends_outputs (part ++ 58 ∷ rest) then Some (part ++ 58 ∷ rest) else after_outputs (part ++ 58 ∷ rest)) both.one ∙ outputs_past part rest both.other

-- at the first colon
pub outputs_some : (text part rest : List ℕ) → split_first 58 text ≡ Some (part, rest) → after_outputs text ≡ (if ends_outputs rest then Some rest else after_outputs rest)
outputs_some text part rest at =
    let around = around_of 58 text part rest at in
    ap after_outputs around.whole ∙ outputs_past part rest around.first

outputs_absent : (text : List ℕ) → list_any (λ b. eqb b 58) text ≡ false → after_outputs text ≡ None
outputs_absent [] none = refl
outputs_absent (b ∷ text) none =
    let both = neither (eqb b 58) (list_any (λ b. eqb b 58) text) none in
    ap (λ r. if r && ends_outputs text then Some text else after_outputs text) both.one ∙ outputs_absent text both.other

-- without a colon
pub outputs_none : (text : List ℕ) → split_first 58 text ≡ None → after_outputs text ≡ None
outputs_none text at = outputs_absent text (absent_of 58 text at)

pub ruleset output_laws = (outputs_some, outputs_none, split_first-shorter)

-- ---- the parts

parts_cons : (b c : ℕ) (bytes : List ℕ) → eqb b 32 ≡ false → eqb c 32 ≡ false → parts_of (b ∷ c ∷ bytes) ≡ onto_first b (parts_of (c ∷ bytes))
parts_cons b c bytes first second =
    ap (λ r. if r then [] ∷ parts_of (c ∷ bytes) else (if eqb b 92 && eqb c 32 then onto_first 32 (parts_of bytes) else onto_first b (parts_of (c ∷ bytes)))) first
    ∙ ap (λ r. if r then onto_first 32 (parts_of bytes) else onto_first b (parts_of (c ∷ bytes))) (ap (λ r. eqb b 92 && r) second ∙ and_false (eqb b 92))

parts_absent : (text : List ℕ) → list_any (λ b. eqb b 32) text ≡ false → parts_of text ≡ text ∷ []
parts_absent [] none = refl
parts_absent (b ∷ []) none =
    let both = neither (eqb b 32) false none in
    ap (λ r. if r then [] ∷ [] ∷ [] else (b ∷ []) ∷ []) both.one
parts_absent (b ∷ c ∷ text) none =
    let both = neither (eqb b 32) (list_any (λ b. eqb b 32) (c ∷ text)) none in
    let next = neither (eqb c 32) (list_any (λ b. eqb b 32) text) both.other in
    parts_cons b c text both.one next.one ∙ ap (onto_first b) (parts_absent (c ∷ text) both.other)

-- without a space the text is the one part
pub parts_none : (text : List ℕ) → split_first 32 text ≡ None → parts_of text ≡ text ∷ []
parts_none text at = parts_absent text (absent_of 32 text at)

space_first : (rest : List ℕ) → parts_of (32 ∷ rest) ≡ [] ∷ parts_of rest
space_first [] = refl
space_first (b ∷ rest) = refl

plain_past : (part rest : List ℕ) → list_any (λ b. eqb b 32) part ≡ false → ((front : List ℕ) → part ≢ front ++ 92 ∷ []) → parts_of (part ++ 32 ∷ rest) ≡ part ∷ parts_of rest
plain_past [] rest none lacks = space_first rest
plain_past (b ∷ []) rest none lacks =
    let both = neither (eqb b 32) false none in
    by (eqb b 92) refl both.one
  where
    by : (r : Bool) → eqb b 92 ≡ r → eqb b 32 ≡ false → parts_of (b ∷ 32 ∷ rest) ≡ (b ∷ []) ∷ parts_of rest
    by true is one = absurd (lacks [] (ap (λ x. x ∷ []) ((Decides-eqb b 92).0 is)))
    by false is one =
        ap (λ r. if r then [] ∷ parts_of (32 ∷ rest) else (if eqb b 92 && true then onto_first 32 (parts_of rest) else onto_first b (parts_of (32 ∷ rest)))) one
        ∙ ap (λ r. if r && true then onto_first 32 (parts_of rest) else onto_first b (parts_of (32 ∷ rest))) is
        ∙ ap (onto_first b) (space_first rest)
plain_past (b ∷ c ∷ part) rest none lacks =
    let both = neither (eqb b 32) (list_any (λ b. eqb b 32) (c ∷ part)) none in
    let next = neither (eqb c 32) (list_any (λ b. eqb b 32) part) both.other in
    parts_cons b c (part ++ 32 ∷ rest) both.one next.one ∙ ap (onto_first b) (plain_past (c ∷ part) rest both.other (λ front same. lacks (b ∷ front) (ap (λ t. b ∷ t) same)))

onto_one : (b : ℕ) (parts : List (List ℕ)) → onto_first b parts ≡ onto_part (b ∷ []) parts
onto_one b [] = refl
onto_one b (part ∷ parts) = refl

onto_more : (b : ℕ) (front : List ℕ) (parts : List (List ℕ)) → onto_first b (onto_part front parts) ≡ onto_part (b ∷ front) parts
onto_more b front [] = refl
onto_more b front (part ∷ parts) = refl

escaped_past : (front rest : List ℕ) → list_any (λ b. eqb b 32) (front ++ 92 ∷ []) ≡ false → parts_of ((front ++ 92 ∷ []) ++ 32 ∷ rest) ≡ onto_part (front ++ 32 ∷ []) (parts_of rest)
escaped_past [] rest none = onto_one 32 (parts_of rest)
escaped_past (b ∷ []) rest none =
    let both = neither (eqb b 32) (list_any (λ b. eqb b 32) (92 ∷ [])) none in
    parts_cons b 92 (32 ∷ rest) both.one refl ∙ ap (onto_first b) (onto_one 32 (parts_of rest)) ∙ onto_more b (32 ∷ []) (parts_of rest)
escaped_past (b ∷ c ∷ front) rest none =
    let both = neither (eqb b 32) (list_any (λ b. eqb b 32) (c ∷ front ++ 92 ∷ [])) none in
    let next = neither (eqb c 32) (list_any (λ b. eqb b 32) (front ++ 92 ∷ [])) both.other in
    parts_cons b c ((front ++ 92 ∷ []) ++ 32 ∷ rest) both.one next.one ∙ ap (onto_first b) (escaped_past (c ∷ front) rest both.other) ∙ onto_more b (c ∷ front ++ 32 ∷ []) (parts_of rest)

-- at the first space, where no `\` stands before it
pub parts_plain : (text part rest : List ℕ) → Some (part, rest) ≡ split_first 32 text → ((front : List ℕ) → part ≢ front ++ 92 ∷ []) → parts_of text ≡ part ∷ parts_of rest
parts_plain text part rest at lacks =
    let around = around_of 32 text part rest (sym at) in
    ap parts_of around.whole ∙ plain_past part rest around.first lacks

-- and where one does
pub parts_escaped : (text part rest front : List ℕ) → Some (part, rest) ≡ split_first 32 text → part ≡ front ++ 92 ∷ [] → parts_of text ≡ onto_part (front ++ 32 ∷ []) (parts_of rest)
parts_escaped text part rest front at is =
    let around = around_of 32 text part rest (sym at) in
    ap parts_of (around.whole ∙ ap (λ p. p ++ 32 ∷ rest) is) ∙ escaped_past front rest (ap (list_any (λ b. eqb b 32)) (sym is) ∙ around.first)

onto_twice : (a b : List ℕ) (parts : List (List ℕ)) → onto_part a (onto_part b parts) ≡ onto_part (a ++ b) parts
onto_twice a b [] = refl
onto_twice a b (part ∷ parts) = ap (λ p. p ∷ parts) (sym (append_assoc a b part))

onto_first_none : (b : ℕ) (parts : List (List ℕ)) → onto_part [] (onto_first b parts) ≡ onto_first b parts
onto_first_none b [] = refl
onto_first_none b (part ∷ parts) = refl

-- there is always a first part
pub onto_none : (text : List ℕ) → onto_part [] (parts_of text) ≡ parts_of text
onto_none [] = refl
onto_none (b ∷ []) = by (eqb b 32)
  where
    by : (r : Bool) → onto_part [] (if r then [] ∷ [] ∷ [] else (b ∷ []) ∷ []) ≡ (if r then [] ∷ [] ∷ [] else (b ∷ []) ∷ [])
    by true = refl
    by false = refl
onto_none (b ∷ c ∷ bytes) = by (eqb b 32) (eqb b 92 && eqb c 32)
  where
    by : (r s : Bool) → onto_part [] (if r then [] ∷ parts_of (c ∷ bytes) else (if s then onto_first 32 (parts_of bytes) else onto_first b (parts_of (c ∷ bytes))))
        ≡ (if r then [] ∷ parts_of (c ∷ bytes) else (if s then onto_first 32 (parts_of bytes) else onto_first b (parts_of (c ∷ bytes))))
    by true s = refl
    by false true = onto_first_none 32 (parts_of bytes)
    by false false = onto_first_none b (parts_of (c ∷ bytes))

-- a step over an escaped space
pub parts_step : (whole : List (List ℕ)) (text part rest front piece half new : List ℕ) → onto_part piece (parts_of text) ≡ whole → Some (part, rest) ≡ split_first 32 text → part ≡ front ++ 92 ∷ []
    → half ≡ piece ++ front → new ≡ half ++ 32 ∷ [] → onto_part new (parts_of rest) ≡ whole
parts_step whole text part rest front piece half new so_far at is pushed spaced =
    ap (λ p. onto_part p (parts_of rest)) (spaced ∙ ap (λ h. h ++ 32 ∷ []) pushed ∙ append_assoc piece front (32 ∷ []))
    ∙ sym (onto_twice piece (front ++ 32 ∷ []) (parts_of rest)) ∙ ap (onto_part piece) (sym (parts_escaped text part rest front at is)) ∙ so_far

-- the clause of `strip_suffix` at a backslash
pub backslash_cases : (part : List ℕ) (r : Option (Bor (List ℕ))) → MatchOption r (FindsCharSuffix 92 part None) (λ x. StripsSuffix (FindsCharSuffix 92) part x.now)
    → MatchOption r ((front : List ℕ) → part ≢ front ++ 92 ∷ []) (λ x. part ≡ x.now ++ 92 ∷ [])
backslash_cases part r cases = strip_suffix_char 92 part r cases (lit< tt)

-- the outputs end at the first colon
pub outputs_found : (text part rest : List ℕ) → Some (part, rest) ≡ split_first 58 text → ends_outputs rest ≡ true → after_outputs text ≡ Some rest
outputs_found text part rest at ends = outputs_some text part rest (sym at) ∙ ap (λ r. if r then Some rest else after_outputs rest) ends

-- or after it
pub outputs_next : (text part rest : List ℕ) → Some (part, rest) ≡ split_first 58 text → ends_outputs rest ≡ false → after_outputs text ≡ after_outputs rest
outputs_next text part rest at ends = outputs_some text part rest (sym at) ∙ ap (λ r. if r then Some rest else after_outputs rest) ends

-- a step over a part that ends
pub parts_end : (whole : List (List ℕ)) (text part rest piece new : List ℕ) → onto_part piece (parts_of text) ≡ whole → Some (part, rest) ≡ split_first 32 text → ((front : List ℕ) → part ≢ front ++ 92 ∷ [])
    → new ≡ piece ++ part → whole ≡ new ∷ parts_of rest
parts_end whole text part rest piece new so_far at lacks pushed = sym so_far ∙ ap (onto_part piece) (parts_plain text part rest at lacks) ∙ ap (λ p. p ∷ parts_of rest) (sym pushed)

-- and over the last part
pub parts_last : (whole : List (List ℕ)) (text piece new : List ℕ) → onto_part piece (parts_of text) ≡ whole → split_first 32 text ≡ None → new ≡ piece ++ text → whole ≡ new ∷ []
parts_last whole text piece new so_far at pushed = sym so_far ∙ ap (onto_part piece) (parts_none text at) ∙ ap (λ p. p ∷ []) (sym pushed)

some_more : (words : List (List ℕ)) (part : List ℕ) (more : List (List ℕ)) → mentioned_all words (some_word part more) ≡ mentioned_all (mentioned_all words (some_word part [])) more
some_more words part more = by (is_empty part)
  where
    by : (r : Bool) → mentioned_all words (if r then more else part ∷ more) ≡ mentioned_all (mentioned_all words (if r then [] else part ∷ [])) more
    by true = refl
    by false = refl

-- a step over a part
pub rule_step : (whole words new : List (List ℕ)) (text part : List ℕ) (parts : List (List ℕ)) → mentioned_all words (rule_words text) ≡ whole → parts_of text ≡ part ∷ parts
    → new ≡ mentioned_all words (some_word part []) → mentioned_all new (filter (λ part. not (is_empty part)) parts) ≡ whole
rule_step whole words new text part parts so_far at added =
    ap (λ w. mentioned_all w (filter (λ part. not (is_empty part)) parts)) added ∙ sym (some_more words part (filter (λ part. not (is_empty part)) parts))
    ∙ ap (mentioned_all words) (sym (ap (filter (λ part. not (is_empty part))) at ∙ words_cons part parts)) ∙ so_far
