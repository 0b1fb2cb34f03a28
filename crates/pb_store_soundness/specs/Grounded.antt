-- Grounded units. The record of a grounded unit names other records by run numbers. These records
-- name further records, and so on, down to records that name no records.
use Rattle.std.specs.Prelude.{◌≡◌, ◌<◌, ℕ, List, Option, Some, Contains}
use Rattle.pb_record.specs.declared.record.Record.{Record}
use Rattle.pb_store_soundness.specs.Records.{number_of, needs_of}

-- the record that counts for each key, if there is one
abbrev pub RecordMap : Type 0
RecordMap = List ℕ → Option Record

-- A unit is grounded with a number if the unit's record has this number and names only grounded
-- units. The record names each of these units with the number with which the unit is grounded. The
-- named numbers are less than the record's own number.
pub data Grounded (at : RecordMap) : List ℕ → ℕ → Type 0 where
  grounded : (key : List ℕ) (r : Record) (number : ℕ) (here : at key ≡ Some r) (numbered : number_of r ≡ Some number)
      (less : (need : List ℕ) (n : ℕ) → Contains (needs_of r) (need, n) → n < number)
      (needs : (need : List ℕ) (n : ℕ) → Contains (needs_of r) (need, n) → Grounded at need n) → Grounded at key number

-- A first unit reaches a second unit if the record of the first names the second, or names a unit
-- that reaches the second.
pub data Reaches (at : RecordMap) : List ℕ → List ℕ → Type 0 where
  named : (key : List ℕ) (r : Record) (here : at key ≡ Some r) (need : List ℕ) (n : ℕ) (names : Contains (needs_of r) (need, n)) → Reaches at key need
  onward : (key : List ℕ) (r : Record) (here : at key ≡ Some r) (need : List ℕ) (n : ℕ) (names : Contains (needs_of r) (need, n)) (further : List ℕ) (more : Reaches at need further) → Reaches at key further
