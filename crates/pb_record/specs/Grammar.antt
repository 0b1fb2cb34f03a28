-- The text of a record: one function from a record to its bytes, in the order in which they are
-- written.
use Rattle.std.specs.Prelude.{ℕ, ◌+◌, zero, suc, codes, List, [], ◌∷◌, ◌++◌, length, map, Option, Some, None}
use Rattle.std.specs.Int.Digits.{digits_of}
use Rattle.std.specs.List.{flat_map}
use Rattle.pb_data.specs.Ascii.{line_feed}
use Rattle.pb_record.specs.declared.recorded_command.RecordedCommand.{RecordedCommand}
use Rattle.pb_record.specs.declared.record.Input.{Input}
use Rattle.pb_record.specs.declared.record.Input.TheVariants.{File, Tree, Value}
use Rattle.pb_record.specs.declared.record.Needed.{Needed}
use Rattle.pb_record.specs.declared.record.Needed.TheVariants.{Copies, Numbers}
use Rattle.pb_record.specs.declared.record.Record.{Record}

-- the first text, followed by the second
infixr 10 ◌⨾◌
abbrev pub ◌⨾◌ : List ℕ → List ℕ → List ℕ
a ⨾ b = a ++ b

-- the text as a line, with a line feed at its end
abbrev pub line : List ℕ → List ℕ
line text = text ++ line_feed ∷ []

-- the decimal digits of a number, without a leading 0; the number 0 has one digit
abbrev pub decimals : ℕ → List ℕ
decimals zero = codes "0"
decimals (suc n) = map (λ d. 48 + d) (digits_of 10 (suc n))

-- the number N as a line: its digits and a line feed
unfoldable pub number : ℕ → List ℕ
number n = line (decimals n)

-- the bytes B as a block: their count, the bytes, and a line feed
unfoldable pub block : List ℕ → List ℕ
block bytes = number (length bytes) ⨾ line bytes

-- the list L: the count of its items, followed by each item
unfoldable pub listed : {A : Type 0} → (A → List ℕ) → List A → List ℕ
listed item items = number (length items) ⨾ flat_map item items

-- the first part, followed by the second
abbrev pub both : {A B : Type 0} → (A → List ℕ) → (B → List ℕ) → (A × B) → List ℕ
both first second p = first p.0 ⨾ second p.1

-- the files of a folder: for each file its path inside the folder, and its bytes
abbrev pub files : List (List ℕ × List ℕ) → List ℕ
files = listed (both block block)

-- a value that may be absent: the line 0, or the line 1 and the value
abbrev pub perhaps : Option (List ℕ) → List ℕ
perhaps None = line (codes "0")
perhaps (Some text) = line (codes "1") ⨾ block text

-- an input: a letter for its kind, then its name, and then its value
abbrev pub input_bytes : Input → List ℕ
input_bytes (File path bytes) = line (codes "f") ⨾ block path ⨾ block bytes
input_bytes (Tree path below) = line (codes "t") ⨾ block path ⨾ files below
input_bytes (Value name text) = line (codes "v") ⨾ block name ⨾ perhaps text

-- what the record says about the command that the child was given
abbrev pub asked_bytes : RecordedCommand → List ℕ
asked_bytes a =
    block a.program
    ⨾ listed block a.words
    ⨾ block a.folder
    ⨾ listed (both block block) a.pairs
    ⨾ block a.out
    ⨾ block a.target
    ⨾ block a.toolchain
    ⨾ listed block a.reads

-- The bytes of a record, by its format. Format 2 has the record's own number and the numbers of the
-- needed units. Format 1 has copies of the needed units' files.
abbrev pub bytes_by : Record → Needed → List ℕ
bytes_by r (Numbers own needs) =
    line (codes "record 2")
    ⨾ number own
    ⨾ block r.key
    ⨾ asked_bytes r.asked
    ⨾ listed input_bytes r.inputs
    ⨾ listed (both block number) needs
    ⨾ block r.stdout
    ⨾ block r.stderr
    ⨾ line (codes "end")
bytes_by r (Copies copies) =
    line (codes "record 1")
    ⨾ block r.key
    ⨾ asked_bytes r.asked
    ⨾ listed input_bytes r.inputs
    ⨾ listed (both block files) copies
    ⨾ block r.stdout
    ⨾ block r.stderr
    ⨾ line (codes "end")

-- the bytes of a record
unfoldable pub record_bytes : Record → List ℕ
record_bytes r = bytes_by r r.needed
