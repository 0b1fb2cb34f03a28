-- Lemmas on numbers as text.
use Rattle.std.proofs.Common.{◌≡◌, ◌≢◌, ◌<◌, ◌+◌, ◌^◌, ℕ, true, false, zero, suc, List, [], ◌∷◌, ◌++◌, length, get_or, map, Option, Result, Ok, Err, refl, sym, ◌∙◌, ap, subst, arith, length-append, codes, take, drop}
use Rattle.std.specs.Prelude.{MatchOption}
use Rattle.std.specs.Fmt.{decimal}
use Rattle.std.specs.Int.Digits.{digits_of, number_from_digits}
use Rattle.std.specs.Str.{IsUtf8}
use Rattle.std.specs.Str.Parse.{AllDigits, digits_value, ParsesUnsigned}
use Rattle.std.specs.List.{AllByRecursion}
use Rattle.std.specs.Char.{digit_value}
use Rattle.std.specs.Result.{result_ok}
use Rattle.std.proofs.lemmas.Bool.Decides.{nat_tests}
use Rattle.std.proofs.lemmas.Fmt.{decimal_digit, decimal-digits_of, decimal-digits_value, parse-decimal, first_decimal, IsAscii-decimal}
use Rattle.std.proofs.lemmas.Str.Parse.{IsNumeralModel, numerals_by_value, tells_digits, parse_plain}
use Rattle.std.proofs.lemmas.Result.{OkIff-at_ok}
use Rattle.std.proofs.lemmas.Str.{IsUtf8-from_ascii}
use Rattle.std.proofs.lemmas.Int.Digits.{number_digits_of, all_below_base_digits_of, digits_value_is}
use Rattle.std.proofs.lemmas.List.{take-append-drop, drop_more, get_or_at, append_assoc}
use Rattle.pb_record.specs.Grammar.{decimals, number}
use Rattle.pb_record.specs.Parts.{IsNumber}
use Rattle.pb_record.specs.Reading.{BeginsWith, StandsNone, IsSpelling, HasNoFeed, begins_well}

own : IsNumeralModel (AllDigits 10) (digits_value 10)
own = numerals_by_value _ tells_digits

-- below 2 ^ 64 the digits are those that std writes
pub decimals_is : (n : ℕ) → n < 2 ^ 64 → decimals n ≡ decimal n
decimals_is zero small = sym (decimal_digit 0 (omega arith))
decimals_is (suc n) small = sym (decimal-digits_of (suc n) (omega arith) small)

digit_back : (d : ℕ) → d < 10 → digit_value (48 + d) ≡ d
digit_back d low = grind (arith, nat_tests)

values_back : (ds : List ℕ) → AllByRecursion (λ d. d < 10) ds → map digit_value (map (λ d. 48 + d) ds) ≡ ds
values_back [] all = refl
values_back (d ∷ ds) (low, all) = cc (digit_back d low, values_back ds all)

-- the digits of a number say it
pub value_of_decimals : (n : ℕ) → digits_value 10 (decimals n) ≡ n
value_of_decimals zero = refl
value_of_decimals (suc n) =
    digits_value_is 10 (map (λ d. 48 + d) (digits_of 10 (suc n)))
    ∙ ap (number_from_digits 10) (values_back (digits_of 10 (suc n)) (all_below_base_digits_of 10 (suc n) (omega arith)))
    ∙ number_digits_of 10 (suc n) (omega arith)

feed_free : (ds : List ℕ) → AllByRecursion (λ d. d < 10) ds → HasNoFeed (map (λ d. 48 + d) ds)
feed_free [] all k within = absurd (omega arith)
feed_free (d ∷ ds) (low, all) zero within = λ e. omega arith
feed_free (d ∷ ds) (low, all) (suc k) within = feed_free ds all k (omega arith)

zero_feed_free : HasNoFeed (codes "0")
zero_feed_free zero within = λ e. omega arith
zero_feed_free (suc k) within = absurd (omega arith)

pub decimals_feed_free : (n : ℕ) → HasNoFeed (decimals n)
decimals_feed_free zero = zero_feed_free
decimals_feed_free (suc n) = feed_free (digits_of 10 (suc n)) (all_below_base_digits_of 10 (suc n) (omega arith))

-- a line says where it ends
pub one_line : (a b r s : List ℕ) → HasNoFeed a → HasNoFeed b → a ++ 10 ∷ r ≡ b ++ 10 ∷ s → (a ≡ b) × (r ≡ s)
one_line [] [] r s free free' e = (refl, cc)
one_line [] (y ∷ b) r s free free' e = absurd (free' 0 (omega arith) (cc))
one_line (x ∷ a) [] r s free free' e = absurd (free 0 (omega arith) (cc))
one_line (x ∷ a) (y ∷ b) r s free free' e =
    let tails : a ++ 10 ∷ r ≡ b ++ 10 ∷ s = cc in
    let both = one_line a b r s (λ k within. free (suc k) (omega arith)) (λ k within. free' (suc k) (omega arith)) tails in
    (cc, both.1)

pub number_spelling : IsSpelling number
unfolding number
number_spelling = record {
  some = λ n. omega (arith, length-append (decimals n) (10 ∷ []));
  apart = λ m n rest more e.
      let lines : decimals m ++ 10 ∷ rest ≡ decimals n ++ 10 ∷ more = sym (append_assoc (decimals m) (10 ∷ []) rest) ∙ e ∙ append_assoc (decimals n) (10 ∷ []) more in
      let parts = one_line (decimals m) (decimals n) rest more (decimals_feed_free m) (decimals_feed_free n) lines in
      (sym (value_of_decimals m) ∙ ap (digits_value 10) parts.0 ∙ value_of_decimals n, parts.1);
}

-- how digits begin
well_from_first : (ds : List ℕ) → 48 < get_or ds 0 0 → begins_well ds ≡ true
well_from_first [] first = absurd (omega arith)
well_from_first (d ∷ []) first = grind (arith, nat_tests)
well_from_first (d ∷ e ∷ ds) first = grind (arith, nat_tests)

well_sign : (ds : List ℕ) → begins_well ds ≡ true → get_or ds 0 0 ≢ 43
well_sign [] well = cc
well_sign (d ∷ []) well = grind (arith, nat_tests)
well_sign (d ∷ e ∷ ds) well = grind (arith, nat_tests)

well_zero : (ds : List ℕ) → begins_well ds ≡ true → get_or ds 0 0 ≡ 48 → length ds ≡ 1
well_zero [] well first = cc
well_zero (d ∷ []) well first = refl
well_zero (d ∷ e ∷ ds) well first = grind (arith, nat_tests)

well_some : (ds : List ℕ) → begins_well ds ≡ true → 0 < length ds
well_some [] well = cc
well_some (d ∷ ds) well = omega arith

pub decimals_well : (n : ℕ) → n < 2 ^ 64 → begins_well (decimals n) ≡ true
decimals_well zero small = refl
decimals_well (suc n) small =
    ap begins_well (decimals_is (suc n) small) ∙ well_from_first (decimal (suc n)) (first_decimal (suc n) (omega arith) small)

pub not_well : (ds : List ℕ) → begins_well ds ≡ false → (n : ℕ) → n < 2 ^ 64 → ds ≡ decimals n → ⊥
not_well ds bad n small e = let well = ap begins_well e ∙ decimals_well n small in cc

pub not_utf8 : (ds : List ℕ) → (IsUtf8 ds → ⊥) → (n : ℕ) → n < 2 ^ 64 → ds ≡ decimals n → ⊥
not_utf8 ds bad n small e = bad (subst IsUtf8 (sym (e ∙ decimals_is n small)) (IsUtf8-from_ascii (decimal n) (IsAscii-decimal n small)))

number_parsed : (E : Type 0) (ds : List ℕ) (r : Result ℕ E) → begins_well ds ≡ true → ParsesUnsigned 64 10 ds r
    → MatchOption (result_ok r) ((n : ℕ) → n < 2 ^ 64 → ds ≡ decimals n → ⊥) (λ n. (n < 2 ^ 64) × (ds ≡ decimals n))
number_parsed E ds (Ok n) well parsed =
    let told = OkIff-at_ok {E = E} _ _ _ n (parse_plain own {E = E} 64 ds (Ok n) parsed (well_sign ds well)) refl in
    let small : n < 2 ^ 64 = omega (arith, told.1, told.0.2) in
    (small, sym (decimals_is n small ∙ ap decimal told.1 ∙ decimal-digits_value own ds told.0.0 (well_some ds well) (well_zero ds well) told.0.2))
number_parsed E ds (Err fault) well parsed = λ n small e.
    let told = parse-decimal {E = E} 64 n ds (Err fault) small small (e ∙ decimals_is n small) parsed in cc

pub number_told : (E : Type 0) (ds : List ℕ) (r : Result ℕ E) (o : Option ℕ) → begins_well ds ≡ true → ParsesUnsigned 64 10 ds r → o ≡ result_ok r
    → MatchOption o ((n : ℕ) → n < 2 ^ 64 → ds ≡ decimals n → ⊥) (λ n. (n < 2 ^ 64) × (ds ≡ decimals n))
number_told E ds r o well parsed e =
    subst (λ (o : Option ℕ). MatchOption o ((n : ℕ) → n < 2 ^ 64 → ds ≡ decimals n → ⊥) (λ n. (n < 2 ^ 64) × (ds ≡ decimals n))) (sym e) (number_parsed E ds r well parsed)

-- a line up to the first line feed
pub split_here : (text : List ℕ) (i : ℕ) → i < length text → get_or text i 0 ≡ 10 → text ≡ take i text ++ 10 ∷ drop (i + 1) text
split_here text i within feed = sym (take-append-drop i text) ∙ ap (λ rest. take i text ++ rest) (drop_more text i 0 within ∙ ap (λ b. b ∷ drop (i + 1) text) feed)

pub no_line : (text : List ℕ) → HasNoFeed text → (line rest : List ℕ) → text ≡ line ++ 10 ∷ rest → ⊥
no_line text free front rest e =
    let there : get_or text (length front) 0 ≡ 10 = ap (λ t. get_or t (length front) 0) e ∙ get_or_at front 10 rest 0 (length front) refl in
    let len : length text ≡ length front + (1 + length rest) = let l : length text ≡ length front + length (10 ∷ rest) = ap length e ∙ length-append front (10 ∷ rest) in omega (arith, l) in
    free (length front) (omega arith) there

-- a number in front of a text
pub number_stands : (text digits rest : List ℕ) (n : ℕ) → n < 2 ^ 64 → text ≡ digits ++ 10 ∷ rest → digits ≡ decimals n → BeginsWith IsNumber number text n rest
unfolding number
number_stands text digits rest n small split e = record { is = small; here = split ∙ ap (λ d. d ++ 10 ∷ rest) e ∙ sym (append_assoc (decimals n) (10 ∷ []) rest) }

pub no_number : (text digits rest : List ℕ) → text ≡ digits ++ 10 ∷ rest → HasNoFeed digits → ((n : ℕ) → n < 2 ^ 64 → digits ≡ decimals n → ⊥) → StandsNone IsNumber number text
unfolding number
no_number text digits rest split free bad = record {
  never = λ n more stands.
      let lines : digits ++ 10 ∷ rest ≡ decimals n ++ 10 ∷ more = sym split ∙ stands.here ∙ append_assoc (decimals n) (10 ∷ []) more in
      bad n stands.is (one_line digits (decimals n) rest more free (decimals_feed_free n) lines).0;
}

pub no_line_no_number : (text : List ℕ) → ((line rest : List ℕ) → text ≡ line ++ 10 ∷ rest → ⊥) → StandsNone IsNumber number text
unfolding number
no_line_no_number text bad = record { never = λ n more stands. bad (decimals n) more (stands.here ∙ append_assoc (decimals n) (10 ∷ []) more) }
