-- Which run numbers a record has.
use Rattle.std.specs.Prelude.{◌≡◌, ℕ, List, Option, Some, None, option_map}
use Rattle.pb_record.specs.Parts.{FindsAsReading, Says}
use Rattle.pb_record.specs.declared.numbers.Numbers.{Numbers}
use Rattle.pb_record.specs.declared.record.Needed.{Needed}
use Rattle.pb_record.specs.declared.record.Needed.TheVariants as needed
use Rattle.pb_record.specs.declared.record.Record.{Record}

-- A record's own run number, and the run numbers with which the record names the needed units. A
-- record of format 1 has no numbers.
abbrev pub numbered_in : Needed → Option (ℕ × List (List ℕ × ℕ))
numbered_in (needed.Copies copies) = None
numbered_in (needed.Numbers own needs) = Some (own, needs)

-- the key of a record's unit, with the run numbers in the record
abbrev pub numbers_of : Record → Numbers
numbers_of r = record { key = r.key; numbered = numbered_in r.needed }

-- `found` has the numbers of the record if the text is the text of a record, and is `None`
-- otherwise
abbrev pub AreNumbersOf : List ℕ → Option Numbers → Type 0
AreNumbersOf text found = (read : List ℕ → Option Record) → FindsAsReading read → found ≡ option_map numbers_of (read text)

-- the text is the text of a record, and the record has these numbers
pub record SaysNumbers (text : List ℕ) (numbers : Numbers) : Type 0 where
  pub kept : Record
  pub says : Says text kept
  pub same : numbers ≡ numbers_of kept
