-- Lemmas on the parts of a text.
use borrow.Author.Tests.{ltb-false}
use Rattle.std.proofs.Common.{◌≡◌, ◌≢◌, ℕ, ◌+◌, ◌-◌, ◌≤◌, not, Bool, true, false, cond, List, [], ◌∷◌, ◌++◌, length, take, drop, Option, None, Some, refl, sym, ◌∙◌, ap, arith, eqb, ltb, if◌then◌else◌}
use Rattle.std.proofs.lemmas.Bool.Decides.{Decides-eqb, Decides-ltb}
use Rattle.std.proofs.lemmas.List.{take_rest}
use Rattle.std.proofs.lemmas.List.Sums.{count_by-le-length}
use Rattle.std.proofs.lemmas.List.Splits.{slice_split_first, length-slice_split}
use Rattle.std.proofs.lemmas.Str.{is_utf8-from_IsUtf8, IsUtf8-from_is_utf8}
use Rattle.std.specs.List.{slice_split, onto_first, position, position_or_len}
use Rattle.std.specs.Borrow.{Bor}
use Rattle.std.specs.Option.{MatchOption, option_copied}
use Rattle.std.specs.Str.{IsUtf8, is_utf8}
use Rattle.std.specs.Str.Pattern.{FindsTextPrefix, StripsPrefix}
use Rattle.pb_directive.specs.Lines.{lines_of, text_of, after_prefix}

pub text_of-some : (bytes : List ℕ) → IsUtf8 bytes → text_of bytes ≡ Some bytes
text_of-some bytes text = ap (λ b. if b then Some bytes else None) (is_utf8-from_IsUtf8 bytes text)

pub text_of-none : (bytes : List ℕ) → ¬ (IsUtf8 bytes) → text_of bytes ≡ None
text_of-none bytes is_not = by (is_utf8 bytes) refl
  where
    by : (b : Bool) → is_utf8 bytes ≡ b → text_of bytes ≡ None
    by true is = absurd (is_not (IsUtf8-from_is_utf8 bytes is))
    by false is = ap (λ b. if b then Some bytes else None) is

pub ruleset text_laws = (text_of-some, text_of-none)

same_byte : (a : ℕ) → eqb a a ≡ true
same_byte a = (Decides-eqb a a).1 refl

-- what follows a prefix is found
pub after_prefix-append : (prefix rest : List ℕ) → after_prefix prefix (prefix ++ rest) ≡ Some rest
after_prefix-append [] rest = refl
after_prefix-append (a ∷ prefix) rest = ap (λ b. if b then after_prefix prefix (prefix ++ rest) else None) (same_byte a) ∙ after_prefix-append prefix rest

-- and there is nothing where there is no prefix
pub after_prefix-none : (prefix bytes : List ℕ) → ((rest : List ℕ) → bytes ≢ prefix ++ rest) → after_prefix prefix bytes ≡ None
after_prefix-none [] bytes lacks = absurd (lacks bytes refl)
after_prefix-none (a ∷ prefix) [] lacks = refl
after_prefix-none (a ∷ prefix) (b ∷ bytes) lacks = by (eqb a b) refl (after_prefix-none prefix bytes)
  where
    by : (r : Bool) → eqb a b ≡ r → (((rest : List ℕ) → bytes ≢ prefix ++ rest) → after_prefix prefix bytes ≡ None) → after_prefix (a ∷ prefix) (b ∷ bytes) ≡ None
    by true is later =
        let head : a ≡ b = (Decides-eqb a b).0 is in
        ap (λ r. if r then after_prefix prefix bytes else None) is ∙ later (λ rest same. lacks rest (cc))
    by false is later = ap (λ r. if r then after_prefix prefix bytes else None) is

-- without a byte that passes, the bytes are the one part
pub split_none : (p : ℕ → Bool) (bytes : List ℕ) → length bytes ≤ position_or_len p bytes → slice_split p bytes ≡ bytes ∷ []
split_none p [] past = refl
split_none p (b ∷ bytes) past = by (p b) refl (split_none p bytes)
  where
    by : (r : Bool) → p b ≡ r → (length bytes ≤ position_or_len p bytes → slice_split p bytes ≡ bytes ∷ []) → slice_split p (b ∷ bytes) ≡ (b ∷ bytes) ∷ []
    by true is later =
        let first : position_or_len p (b ∷ bytes) ≡ 0 = ap (λ r. cond (not r) (1 + position_or_len p bytes) 0) is in
        absurd (omega arith)
    by false is later =
        let first : position_or_len p (b ∷ bytes) ≡ 1 + position_or_len p bytes = ap (λ r. cond (not r) (1 + position_or_len p bytes) 0) is in
        ap (λ r. cond r ([] ∷ slice_split p bytes) (onto_first b (slice_split p bytes))) is ∙ ap (onto_first b) (later (omega arith))

-- a text is its first line and the lines after the first line feed
pub lines_of-some : (bytes : List ℕ) (i : ℕ) → position (λ b. eqb b 10) bytes ≡ Some i → lines_of bytes ≡ take i bytes ∷ lines_of (drop (i + 1) bytes)
lines_of-some bytes i at = by (ltb (position_or_len (λ b. eqb b 10) bytes) (length bytes)) refl
  where
    by : (r : Bool) → ltb (position_or_len (λ b. eqb b 10) bytes) (length bytes) ≡ r → lines_of bytes ≡ take i bytes ∷ lines_of (drop (i + 1) bytes)
    by true is =
        let found : Some (position_or_len (λ b. eqb b 10) bytes) ≡ Some i = sym (ap (λ r. cond r (Some (position_or_len (λ b. eqb b 10) bytes)) None) is) ∙ at in
        let here : position_or_len (λ b. eqb b 10) bytes ≡ i = cc in
        slice_split_first (λ b. eqb b 10) bytes 0 ((Decides-ltb _ _).0 is) ∙ ap (λ n. take n bytes ∷ lines_of (drop (n + 1) bytes)) here
    by false is =
        let found : None ≡ Some i = sym (ap (λ r. cond r (Some (position_or_len (λ b. eqb b 10) bytes)) None) is) ∙ at in
        cc

pub lines_of-none : (bytes : List ℕ) → position (λ b. eqb b 10) bytes ≡ None → lines_of bytes ≡ bytes ∷ []
lines_of-none bytes at = by (ltb (position_or_len (λ b. eqb b 10) bytes) (length bytes)) refl
  where
    by : (r : Bool) → ltb (position_or_len (λ b. eqb b 10) bytes) (length bytes) ≡ r → lines_of bytes ≡ bytes ∷ []
    by true is =
        let found : Some (position_or_len (λ b. eqb b 10) bytes) ≡ None = sym (ap (λ r. cond r (Some (position_or_len (λ b. eqb b 10) bytes)) None) is) ∙ at in
        cc
    by false is =
        let past : length bytes ≤ position_or_len (λ b. eqb b 10) bytes = omega (arith, ltb-false) in
        split_none (λ b. eqb b 10) bytes past

pub lines_of-rest : (bytes : List ℕ) (i : ℕ) → position (λ b. eqb b 10) bytes ≡ Some i → lines_of bytes ≡ take i bytes ∷ lines_of (take (length bytes - (i + 1)) (drop (i + 1) bytes))
lines_of-rest bytes i at = lines_of-some bytes i at ∙ ap (λ rest. take i bytes ∷ lines_of rest) (sym (take_rest bytes (i + 1)))

pub ruleset line_laws = (lines_of-rest, lines_of-none)

-- the clause of `strip_prefix` at a text
pub after_prefix-strips : (prefix bytes : List ℕ) (r : Option (Bor (List ℕ)))
    → MatchOption r (FindsTextPrefix prefix bytes None) (λ x. StripsPrefix (FindsTextPrefix prefix) bytes x.now) → option_copied r ≡ after_prefix prefix bytes
after_prefix-strips prefix bytes None lacks = sym (after_prefix-none prefix bytes lacks)
after_prefix-strips prefix bytes (Some x) strips =
    let (n, found, rest, _) = strips in
    let whole : bytes ≡ prefix ++ x.now = found.1 ∙ ap (λ r. prefix ++ r) (sym rest) in
    sym (ap (after_prefix prefix) whole ∙ after_prefix-append prefix x.now)

-- there are at most as many line feeds as bytes
pub length-lines_of : (bytes : List ℕ) → length (lines_of bytes) ≤ length bytes + 1
length-lines_of bytes = omega (arith, length-slice_split (λ b. eqb b 10) bytes, count_by-le-length (λ b. eqb b 10) bytes)

pub ruleset length_laws = (length-lines_of)
