-- Laws about the text of records.
use Rattle.std.specs.Prelude.{◌≡◌, ◌≢◌, ◌<◌, ◌^◌, ℕ, false, List, ◌∷◌, ◌++◌, length, take, codes, Option}
use Rattle.pb_data.specs.Ascii.{line_feed}
use Rattle.pb_place_types.specs.Paths.{has_byte_0}
use Rattle.pb_record.specs.Grammar.{line, number, record_bytes}
use Rattle.pb_record.specs.Parts.{IsUtf8Path, IsRecord, Says, ReadsAs, FindsAsReading}
use Rattle.pb_record.specs.declared.record.Record.{Record}

-- Two records with the same bytes are equal.
abbrev pub TellsApart : Type 0
TellsApart = (r s : Record) → record_bytes r ≡ record_bytes s → r ≡ s

-- If two texts begin with records and are equal, the records are equal, and the rests of the texts
-- are equal.
abbrev pub SaysWhereItEnds : Type 0
SaysWhereItEnds = (r s : Record) (rest more : List ℕ) → record_bytes r ++ rest ≡ record_bytes s ++ more → (r ≡ s) × (rest ≡ more)

-- A proper prefix of a record's text is not the text of a record. So a torn write never counts as a
-- record.
abbrev pub FirstPartsSayNothing : Type 0
FirstPartsSayNothing = (n : ℕ) (r s : Record) → n < length (record_bytes r) → Says (take n (record_bytes r)) s → ⊥

-- A record's text followed by more bytes is not the text of a record.
abbrev pub MoreBytesSayNothing : Type 0
MoreBytesSayNothing = (r s : Record) (b : ℕ) (more : List ℕ) → Says (record_bytes r ++ b ∷ more) s → ⊥

-- If the bytes of a value are the text of a record, the value is itself a record. So the value's
-- texts are UTF-8, the paths are normalised, the numbers are not too large, and the variables are
-- sorted, each name once.
abbrev pub OnlyRecordsAreSaid : Type 0
OnlyRecordsAreSaid = (r s : Record) → Says (record_bytes r) s → IsRecord r

-- A path has no byte 0.
abbrev pub PathsHaveNoByte0 : Type 0
PathsHaveNoByte0 = (path : List ℕ) → IsUtf8Path path → has_byte_0 path ≡ false

-- If the text of a number begins with 0, the number is 0. `NumbersHaveDigits` says that each number
-- has at least one digit. In both laws, any bytes may follow the number.
abbrev pub NoZeroLeads : Type 0
NoZeroLeads = (n d : ℕ) (rest more : List ℕ) → number n ++ rest ≡ 48 ∷ d ∷ more → (n ≡ 0) × (d ≡ 10)

abbrev pub NumbersHaveDigits : Type 0
NumbersHaveDigits = (n : ℕ) (rest more : List ℕ) → number n ++ rest ≢ line_feed ∷ more

-- If the digits of a record's run number begin with 0, the 0 is the only digit. The next two laws
-- say that the run number has at least one digit, and fits in 64 bits.
abbrev pub NoZeroLeadsRecord : Type 0
NoZeroLeadsRecord = (r : Record) (d : ℕ) (more : List ℕ) → Says (line (codes "record 2") ++ 48 ∷ d ∷ more) r → d ≡ 10

abbrev pub RecordNumbersHaveDigits : Type 0
RecordNumbersHaveDigits = (r : Record) (more : List ℕ) → Says (line (codes "record 2") ++ line_feed ∷ more) r → ⊥

abbrev pub RecordNumbersFit : Type 0
RecordNumbersFit = (r : Record) (n : ℕ) (more : List ℕ) → Says (line (codes "record 2") ++ (number n ++ more)) r → n < 2 ^ 64

-- Each text is read in at most one way.
abbrev pub HasOneReading : Type 0
HasOneReading = (text : List ℕ) (found other : Option Record) → ReadsAs text found → ReadsAs text other → found ≡ other

-- There is a function that reads every text as `ReadsAs` defines.
abbrev pub HasReading : Type 0
HasReading = (read : List ℕ → Option Record) × FindsAsReading read
