-- Which numerals a session takes.
use Rattle.std.proofs.Common.{◌≡◌, ◌<◌, ◌≤◌, ◌^◌, ℕ, Bool, true, false, List, [], ◌∷◌, ◌++◌, length, Err, refl, sym, ap, subst, ◌∙◌, arith, inl, inr, append-nil, lt-ltb, ltb-true, ltb-false, ne_eqb, eq-eqb}
use Rattle.std.specs.Char.{digit_value}
use Rattle.std.specs.Float.{binary64, float_is_finite}
use Rattle.std.specs.Float.Numeral.{Parts, scan_numeral, numeral_digits as digits_of, nearest_float as nearest, IsWellFormed}
use Rattle.std.specs.Prelude.{ℤ, pos, neg_ℤ, ◌==◌, ◌&&◌, not, nat_lt, nat_le, if◌then◌else◌, slice_index, drop, Some}
use Rattle.std.specs.Result.{OkIff}
use Rattle.std.specs.Str.Parse.{AllDigits, IsNumeral, digits_value}
use Rattle.std.proofs.lemmas.Float.Parse.{scan_numeral-text_of}
use Rattle.std.proofs.lemmas.Bool.{cases_Bool}
use Rattle.serde_json.specs.Data.{unsigned, negative}
use Rattle.serde_json.specs.Read.{number_of, number_from, float_of, is_integer}
use Rattle.pb_build_session.specs.Numbers.{taken, taken_as}
use Rattle.pb_build_session.specs.declared.fault.BadSession.TheVariants.{BadForm}

-- a float is no number of a session
float_bad : (sign : Bool) (p : Parts) → taken_as (float_of sign p) ≡ Err BadForm
float_bad sign p =
    elim (cases_Bool (float_is_finite (nearest binary64 sign p))) [
      | inl finite ↦ rw finite refl
      | inr infinite ↦ rw infinite refl
    ]

-- nor is what has a minus, or is no integer
chosen_bad : (fits : Bool) (z : ℤ) (p : Parts) → taken_as (if fits then Some (negative z) else float_of true p) ≡ Err BadForm
chosen_bad true z p = refl
chosen_bad false z p = float_bad true p

minus_bad : (p : Parts) → taken_as (number_from true p) ≡ Err BadForm
minus_bad p = chosen_bad (is_integer p && nat_lt 0 (digits_of p) && nat_le (digits_of p) (2 ^ 63)) (neg_ℤ (pos (digits_of p))) p

other_bad : (p : Parts) → is_integer p ≡ false → taken_as (number_from false p) ≡ Err BadForm
other_bad p other = rw other (float_bad false p)

pub minus_is_bad : (s : List ℕ) → slice_index s 0 ≡ 45 → taken s ≡ Err BadForm
unfolding number_of
minus_is_bad s is = rw (eq-eqb (slice_index s 0) 45 is) (minus_bad (scan_numeral (drop 1 s)))

no_integer_is_bad : (s : List ℕ) → is_integer (scan_numeral s) ≡ false → taken s ≡ Err BadForm
unfolding number_of
no_integer_is_bad s other =
    elim (cases_Bool (slice_index s 0 == 45)) [
      | inl minus ↦ rw minus (minus_bad (scan_numeral (drop 1 s)))
      | inr none ↦ rw none (other_bad (scan_numeral s) other)
    ]

-- a numeral with a point or an exponent is no integer
with_point : (p : Parts) → p.point ≡ true → is_integer p ≡ false
with_point p is =
    elim (cases_Bool (nat_lt 0 (length p.whole))) [
      | inl some ↦ rw (some, is) refl
      | inr none ↦ rw none refl
    ]

with_exponent : (p : Parts) → 0 < length p.exponent → is_integer p ≡ false
with_exponent p has =
    elim (cases_Bool (nat_lt 0 (length p.whole) && not p.point)) [
      | inl some ↦ rw (some, ne_eqb (length p.exponent) 0 (λ z. omega (arith, z, has))) refl
      | inr none ↦ rw none refl
    ]

pub point_is_bad : (s : List ℕ) → (scan_numeral s).point ≡ true → taken s ≡ Err BadForm
point_is_bad s is = no_integer_is_bad s (with_point (scan_numeral s) is)

pub exponent_is_bad : (s : List ℕ) → 0 < length (scan_numeral s).exponent → taken s ≡ Err BadForm
exponent_is_bad s has = no_integer_is_bad s (with_exponent (scan_numeral s) has)

-- digits alone
abbrev digits : List ℕ → Parts
digits ds = record { whole = ds; point = false; fraction = []; exponent_negative = false; exponent = []; len = length (ds ++ []) }

no_minus : (ds : List ℕ) → AllDigits 10 ds → 0 < length ds → slice_index ds 0 ≡ 45 → ⊥
no_minus [] h some e = omega (arith, some)
no_minus (d ∷ ds) h some e = let digit : digit_value d < 10 = h.0 in let is : d ≡ 45 = e in grind arith

scanned : (ds : List ℕ) → IsNumeral 10 ds → scan_numeral ds ≡ digits ds
scanned ds h =
    let formed : IsWellFormed (digits ds) = record { whole_digits = h.1; fraction_digits = tt; exponent_digits = tt; no_point = λ _. refl; no_exponent = λ _. refl; len_is = refl } in
    ap scan_numeral (sym (append-nil ds)) ∙ scan_numeral-text_of (digits ds) formed

of_digits : (ds : List ℕ) → IsNumeral 10 ds → number_of ds ≡ number_from false (digits ds)
unfolding number_of
of_digits ds h = rw (ne_eqb (slice_index ds 0) 45 (no_minus ds h.1 h.0)) (ap (number_from false) (scanned ds h))

taken_below : (fits : Bool) (n : ℕ) (p : Parts) → nat_lt n (2 ^ 64) ≡ fits → OkIff (taken_as (if fits then Some (unsigned n) else float_of false p)) (n < 2 ^ 64) n
taken_below true n p is = (ltb-true n (2 ^ 64) is, refl)
taken_below false n p is = let above : 2 ^ 64 ≤ n = ltb-false n (2 ^ 64) is in rw (float_bad false p) (λ fits. omega (arith, above, fits))

integer_taken : (p : Parts) → is_integer p ≡ true → OkIff (taken_as (number_from false p)) (digits_of p < 2 ^ 64) (digits_of p)
integer_taken p is = rw is (taken_below (nat_lt (digits_of p) (2 ^ 64)) (digits_of p) p refl)

pub digits_are_taken : (ds : List ℕ) → IsNumeral 10 ds → OkIff (taken ds) (digits_value 10 ds < 2 ^ 64) (digits_value 10 ds)
digits_are_taken ds h =
    let integer : is_integer (digits ds) ≡ true = rw (lt-ltb 0 (length ds) h.0) refl in
    let taken_so = subst (λ n. OkIff (taken_as (number_from false (digits ds))) (n < 2 ^ 64) n) (ap (digits_value 10) (append-nil ds)) (integer_taken (digits ds) integer) in
    rw (of_digits ds h) taken_so
