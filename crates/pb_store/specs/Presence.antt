-- How the files below a folder are read one by one, and how the numbers of records are collected
-- and looked up. Only private functions need these definitions.
use Rattle.std.specs.Prelude.{◌&&◌, ℕ, if◌then◌else◌, true, map, max, List, [], ◌∷◌, Option, Some, None}
use Rattle.std.specs.FinMap as finite
use Rattle.std.specs.List.{fold}
use Rattle.std.specs.Str.{bytes_eq}
use Rattle.pb_data.specs.Table.{with_entry}
use Rattle.pb_place_types.specs.declared.call.Call.{Call}
use Rattle.pb_place_types.specs.declared.call.Call.TheVariants as call
use Rattle.pb_place_types.specs.Paths.{inside}
use Rattle.pb_place_types.specs.World.{Map}
use Rattle.pb_record.specs.declared.numbers.Numbers.{Numbers}
use Rattle.pb_record.specs.declared.record.Record.{Record}
use Rattle.pb_store_soundness.specs.Records.{ends_as_record, is_key, number_of, record_path, read_text, reading}
use Rattle.pb_store.specs.Folder.{number_in, or_zero}
use Rattle.pb_store.specs.Looking.{looked_up_to}

-- the two texts as a pair, if neither text is missing
abbrev pub both_of : Option (List ℕ) → Option (List ℕ) → Option (List ℕ × List ℕ)
both_of (Some relative) (Some bytes) = Some (relative, bytes)
both_of (Some relative) None = None
both_of None found = None

-- the file at a path below the folder, with its path inside the folder, if there is such a file
abbrev pub file_in : List ℕ → Map → List ℕ → Option (List ℕ × List ℕ)
file_in folder files path = both_of (inside folder path) (finite.get files path)

-- the call that reads a file, if the file is below the folder
abbrev pub file_looked : List ℕ → Option (List ℕ) → List Call
file_looked path None = []
file_looked path (Some relative) = call.Read path ∷ []

-- the calls that read the files at these paths, in the order of the paths
abbrev pub files_looked : List ℕ → List (List ℕ) → List Call
files_looked folder paths = looked_up_to (λ path. true) (λ path. file_looked path (inside folder path)) paths

-- each needed unit, with the number that the table has for the unit
abbrev pub numbered_by : List (List ℕ × Option ℕ) → List (List ℕ) → List (List ℕ × ℕ)
numbered_by numbers needs = map (λ (need : List ℕ). (need, or_zero (number_in numbers need))) needs

-- The greatest of a record's own run number and the numbers that the record names. The result is 0
-- if there is no record, or if the record is of format 1.
abbrev pub greatest_said : Option (ℕ × List (List ℕ × ℕ)) → ℕ
greatest_said None = 0
greatest_said (Some (own, needs)) = max own (fold (λ g (pair : List ℕ × ℕ). max g pair.1) 0 needs)

abbrev pub greatest_told : Option Numbers → ℕ
greatest_told None = 0
greatest_told (Some numbers) = greatest_said numbers.numbered

-- a record's own run number
abbrev pub own_said : Option (ℕ × List (List ℕ × ℕ)) → Option ℕ
own_said None = None
own_said (Some (own, needs)) = Some own

-- The table of run numbers after the record at a path was read, given the numbers in the record. If
-- the path belongs to the record's key, the table now has the record's number.
abbrev pub noted_told : List ℕ → List ℕ → Option Numbers → List (List ℕ × Option ℕ) → List (List ℕ × Option ℕ)
noted_told folder path None numbers = numbers
noted_told folder path (Some said) numbers = if is_key said.key && bytes_eq (record_path folder said.key) path then with_entry numbers said.key (own_said said.numbered) else numbers

-- The table of run numbers after the record at a path was read. If the path belongs to the record's
-- key, the table now has the record's number.
abbrev pub noted : List ℕ → List ℕ → Option Record → List (List ℕ × Option ℕ) → List (List ℕ × Option ℕ)
noted folder path None numbers = numbers
noted folder path (Some r) numbers = if is_key r.key && bytes_eq (record_path folder r.key) path then with_entry numbers r.key (number_of r) else numbers

-- The table of run numbers after the file at a path was read, if the path ends in `.record`. Any
-- other path leaves the table unchanged.
abbrev pub noted_at : List ℕ → Map → List (List ℕ × Option ℕ) → List ℕ → List (List ℕ × Option ℕ)
noted_at folder m numbers path = if ends_as_record path then noted folder path (read_text reading (finite.get m path)) numbers else numbers
