-- A session accepts a JSON numeral as a number only if the numeral consists of digits only.
use Rattle.std.specs.Prelude.{◌≡◌, ◌<◌, ◌^◌, ℕ, true, List, length, slice_index, Option, option_map, Err}
use Rattle.std.specs.Float.Numeral.{minus, scan_numeral}
use Rattle.std.specs.Result.{OkIff}
use Rattle.std.specs.Str.Parse.{IsNumeral, digits_value}
use Rattle.serde_json.specs.Data.{Num, number}
use Rattle.serde_json.specs.Read.{number_of as numeral_of}
use Rattle.pb_data.specs.UnlessOom.{◌>>=◌, some_or}
use Rattle.pb_build_session.specs.Faults.{Read}
use Rattle.pb_build_session.specs.Values.{number_of}
use Rattle.pb_build_session.specs.declared.fault.BadSession.TheVariants.{BadForm}

-- The number in a session, given what `serde_json` makes of its numeral. `taken` is the number,
-- given the numeral itself.
abbrev pub taken_as : Option Num → Read ℕ
taken_as n = some_or BadForm (option_map number n) >>= number_of

abbrev pub taken : List ℕ → Read ℕ
taken numeral = taken_as (numeral_of numeral)

-- a numeral of digits only is read as the number that it denotes; if this number is 2 ^ 64 or more,
-- the session is bad
abbrev pub DigitsAreTaken : Type 0
DigitsAreTaken = (digits : List ℕ) → IsNumeral 10 digits → OkIff (taken digits) (digits_value 10 digits < 2 ^ 64) (digits_value 10 digits)

-- a minus makes a session bad, even before 0
abbrev pub MinusIsBad : Type 0
MinusIsBad = (numeral : List ℕ) → slice_index numeral 0 ≡ minus → taken numeral ≡ Err BadForm

-- a point makes a session bad, even if only zeros follow
abbrev pub PointIsBad : Type 0
PointIsBad = (numeral : List ℕ) → (scan_numeral numeral).point ≡ true → taken numeral ≡ Err BadForm

-- an exponent makes a session bad
abbrev pub ExponentIsBad : Type 0
ExponentIsBad = (numeral : List ℕ) → 0 < length (scan_numeral numeral).exponent → taken numeral ≡ Err BadForm
