-- Which record counts for a key, which numbers records have, and which run number is next.
use Rattle.std.specs.Prelude.{◌≡◌, ◌↔◌, ℕ, max, if◌then◌else◌, fold, true, false, is_none, List, [], ◌∷◌, map, Option, Some, option_and_then, slice_get}
use Rattle.std.specs.FinMap as finite
use Rattle.std.specs.List.{flat_map}
use Rattle.std.specs.Option.{option_map_or}
use Rattle.pb_place_types.specs.World.{Map, World, listed_directly}
use Rattle.pb_record.specs.declared.record.Needed.{Needed}
use Rattle.pb_record.specs.declared.record.Needed.TheVariants.{Copies, Numbers}
use Rattle.pb_record.specs.declared.record.Record.{Record}
use Rattle.pb_store_soundness.specs.Numbers.{after}
use Rattle.pb_store_soundness.specs.Records.{reading, ends_as_record, is_key, number_of, record_path, record_at}
use Rattle.pb_store_soundness.specs.Reuse.{number_if}
use Rattle.pb_store.specs.Folder.{lacks_number, next_in}

-- a record's own number, followed by the numbers that the record names
abbrev pub numbers_in : Needed → List ℕ
numbers_in (Copies copies) = []
numbers_in (Numbers number needs) = number ∷ map (λ (need : List ℕ × ℕ). need.1) needs

-- The number of a record is the first number in `numbers_in`, if there is one. A unit lacks a
-- number if a record counts for the unit and this record has no number.
abbrev pub RecordsAreNumbered : Type 0
RecordsAreNumbered = ((r : Record) → number_of r ≡ slice_get (numbers_in r.needed) 0)
    × ((o : Option Record) → (number_if o ≡ option_and_then number_of o) × (lacks_number o ≡ option_map_or (λ r. is_none (number_of r)) o false))

-- the number of the record at a path, and the numbers that this record names; the record may have
-- any key
abbrev pub numbers_at : Map → List ℕ → List ℕ
numbers_at files path = if ends_as_record path then option_map_or (λ (r : Record). numbers_in r.needed) (option_and_then reading (finite.get files path)) [] else []

-- The next run number is one above the greatest run number in the records directly in a folder. If
-- no record has a number, the next number is 1.
abbrev pub NextIsAbove : Type 0
NextIsAbove = (folder : List ℕ) (w : World) → next_in folder w ≡ after (fold max 0 (flat_map (numbers_at w.files) (listed_directly folder w)))

-- A record counts for a key if and only if three things are true. The text of the key's file is
-- read as this record. The record has this key. The key is a valid key.
abbrev pub RecordsCount : Type 0
RecordsCount = (folder key : List ℕ) (files : Map) (r : Record)
    → (record_at reading folder files key ≡ Some r) ↔ ((text : List ℕ) × (finite.get files (record_path folder key) ≡ Some text) × (reading text ≡ Some r) × (r.key ≡ key) × (is_key key ≡ true))
