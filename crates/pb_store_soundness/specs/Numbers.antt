-- Run numbers: which numbers are in no record, and which number is the next.
use Rattle.std.specs.Prelude.{◌≡◌, ◌≢◌, ◌⊎◌, ◌<◌, ◌==◌, ◌+◌, if◌then◌else◌, ℕ, List, Option, Some, None, Contains}
use Rattle.pb_record.specs.declared.record.Record.{Record}
use Rattle.pb_store_soundness.specs.Records.{number_of, needs_of}
use Rattle.pb_store_soundness.specs.Grounded.{RecordMap}

-- no record that counts has this number or names a unit with this number
abbrev pub NoneNames : RecordMap → ℕ → Type 0
NoneNames at number = (other : List ℕ) (r : Record) → at other ≡ Some r → (number_of r ≢ Some number) × ((need : List ℕ) → Contains (needs_of r) (need, number) → ⊥)

-- Suppose that no record has or names a number. This stays true if the record of one unit is
-- dropped. This also stays true if the record is replaced by one that has another number and names
-- only records that count.
abbrev pub NumberWaitsLaw : Type 0
NumberWaitsLaw = (old new : RecordMap) (key : List ℕ) (number : ℕ) → ((l : List ℕ) → l ≢ key → new l ≡ old l)
    → NoneNames old number → ((r : Record) → new key ≡ Some r → (number_of r ≢ Some number) × ((need : List ℕ) (n : ℕ) → Contains (needs_of r) (need, n) → (s : Record) × (old need ≡ Some s) × (number_of s ≡ Some n))) → NoneNames new number

-- the number after this number, or none after the greatest number of 64 bits
abbrev pub after : ℕ → Option ℕ
after n = if n == 0xffff_ffff_ffff_ffff then None else Some (n + 1)

-- the number is below the next number; if there is no next number, this is true of every number
abbrev pub IsBefore : Option ℕ → ℕ → Type 0
IsBefore None n = Unit {0}
IsBefore (Some next) n = n < next

-- the next number is above the record's own number and above all numbers that the record names
pub record NamesBefore (next : Option ℕ) (r : Record) : Type 0 where
  pub own : (n : ℕ) → number_of r ≡ Some n → IsBefore next n
  pub named : (need : List ℕ) (n : ℕ) → Contains (needs_of r) (need, n) → IsBefore next n

-- the next number is above all numbers in records that count
abbrev pub IsAhead : RecordMap → Option ℕ → Type 0
IsAhead at next = (key : List ℕ) (r : Record) → at key ≡ Some r → NamesBefore next r

-- The next number stays above the numbers of all records if each record is gone, is unchanged, or
-- has and names only lower numbers.
abbrev pub StaysAheadLaw : Type 0
StaysAheadLaw = (old new : RecordMap) (next : Option ℕ) → ((key : List ℕ) → (new key ≡ None) ⊎ ((new key ≡ old key) ⊎ ((r : Record) → new key ≡ Some r → NamesBefore next r))) → IsAhead old next → IsAhead new next

-- If the next number is taken, the number after the taken number becomes the next number. The new
-- next number is above the taken number and above all numbers in records.
abbrev pub GivenAheadLaw : Type 0
GivenAheadLaw = (at : RecordMap) (number : ℕ) → IsAhead at (Some number) → IsAhead at (after number) × IsBefore (after number) number

-- The next number is in no record that counts. If a record that counts has a number, this number is
-- below the next number.
abbrev pub NextIsNewLaw : Type 0
NextIsNewLaw = (at : RecordMap) (number : ℕ) → IsAhead at (Some number) → NoneNames at number × ((key : List ℕ) (r : Record) (n : ℕ) → at key ≡ Some r → number_of r ≡ Some n → n < number)
