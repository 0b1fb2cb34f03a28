-- Records, which are files beside the output folders of units.
use Rattle.std.specs.Prelude.{ℕ, Bool, not, ◌==◌, ◌&&◌, ◌-◌, if◌then◌else◌, codes, List, [], ◌++◌, length, drop, Option, Some, None}
use Rattle.std.specs.FinMap as finite
use Rattle.std.specs.List.{list_any}
use Rattle.std.specs.Str.{bytes_eq}
use Rattle.pb_data.specs.Ascii.{slash}
use Rattle.pb_place_types.specs.Paths.{below, is_name}
use Rattle.pb_place_types.specs.World.{World, Map}
pub use Rattle.pb_record.proofs.ReadingLemmas.{reading}
use Rattle.pb_record.specs.declared.record.Needed.{Needed}
use Rattle.pb_record.specs.declared.record.Needed.TheVariants.{Copies, Numbers}
use Rattle.pb_record.specs.declared.record.Record.{Record}

-- the text ends in `.record`, as the names of records do
abbrev pub ends_as_record : List ℕ → Bool
ends_as_record name = bytes_eq (drop (length name - 7) name) (codes ".record")

-- a text is a key if it is the name of a file or folder, has no slash, and does not end in
-- `.record`
unfoldable pub is_key : List ℕ → Bool
is_key key = is_name key && (not (list_any (λ b. b == slash) key) && not (ends_as_record key))

-- The output folder of the unit with this key. `record_path` is the path of the unit's record.
abbrev pub out_of : List ℕ → List ℕ → List ℕ
out_of folder key = below folder key

abbrev pub record_path : List ℕ → List ℕ → List ℕ
record_path folder key = below folder (key ++ codes ".record")

-- A function that reads texts as records. For a text that is not the text of a record, the function
-- returns `None`.
abbrev pub RecordParser : Type 0
RecordParser = List ℕ → Option Record

abbrev pub read_text : RecordParser → Option (List ℕ) → Option Record
read_text read None = None
read_text read (Some text) = read text

-- The record, if the key in the record is the key in the name of the record's file. A record with
-- another key does not count.
abbrev pub if_of_key : List ℕ → Option Record → Option Record
if_of_key key None = None
if_of_key key (Some r) = if bytes_eq r.key key then Some r else None

-- the record that counts for a key, if there is one
unfoldable pub record_at : RecordParser → List ℕ → Map → List ℕ → Option Record
record_at read folder files key = if is_key key then if_of_key key (read_text read (finite.get files (record_path folder key))) else None

-- the record that counts for each key, in a folder of a world
abbrev pub records : List ℕ → World → List ℕ → Option Record
records folder w = record_at reading folder w.files

-- A record's own number, if the record has a number. `numbered_in` lists the units that the record
-- names, each with a number. A record of format 1 has no number, and names no units with numbers.
abbrev pub number_in : Needed → Option ℕ
number_in (Copies copies) = None
number_in (Numbers number needs) = Some number

abbrev pub number_of : Record → Option ℕ
number_of r = number_in r.needed

abbrev pub numbered_in : Needed → List (List ℕ × ℕ)
numbered_in (Copies copies) = []
numbered_in (Numbers number needs) = needs

abbrev pub needs_of : Record → List (List ℕ × ℕ)
needs_of r = numbered_in r.needed
