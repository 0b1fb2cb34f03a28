-- Laws that say what keeps a folder sound.
use Rattle.std.specs.Prelude.{◌≡◌, ℕ, true, List, Some, None, Contains}
use Rattle.std.specs.FinMap as finite
use Rattle.pb_place_types.specs.Folders.{files_in}
use Rattle.pb_place_types.specs.Paths.{is_path, is_at_or_below}
use Rattle.pb_place_types.specs.World.{Map, Answers, AgreeBut}
use Rattle.pb_record.specs.declared.record.Record.{Record}
use Rattle.pb_store_soundness.specs.Inputs.{Judge}
use Rattle.pb_store_soundness.specs.Records.{RecordParser, is_key, out_of, record_path, record_at, number_of, needs_of}
use Rattle.pb_store_soundness.specs.Grounded.{RecordMap}
use Rattle.pb_store_soundness.specs.Sound.{Sound, IsTrueRecord}

-- no record that counts names this unit with this run number
abbrev pub Unnamed : RecordMap → List ℕ → ℕ → Type 0
Unnamed at key number = (other : List ℕ) (r : Record) → at other ≡ Some r → Contains (needs_of r) (key, number) → ⊥

-- What became of a unit. Either no record counts for the unit, or the unit's record and files are
-- unchanged, or the unit has a new record. `Said` is true of the new record. No old record names
-- the unit with the new record's number.
pub data Became (read : RecordParser) (folder : List ℕ) (old new : Map) (Said : List ℕ → Record → Type 0) (key : List ℕ) : Type 0 where
  gone : record_at read folder new key ≡ None → Became read folder old new Said key
  stays : record_at read folder new key ≡ record_at read folder old key → files_in (out_of folder key) new ≡ files_in (out_of folder key) old → Became read folder old new Said key
  renewed : (r : Record) (number : ℕ) → record_at read folder new key ≡ Some r → number_of r ≡ Some number → Unnamed (record_at read folder old) key number → Said key r → Became read folder old new Said key

-- A folder stays sound if each record is gone, is unchanged, or is new. A new record must be true,
-- and no old record may name the new record's unit together with the new record's number.
abbrev pub StaysSound : Type 0
StaysSound = (read : RecordParser) (judge : Judge) (child : Answers) (folder : List ℕ) (old new : Map)
    → ((key : List ℕ) → Became read folder old new (IsTrueRecord judge child folder (record_at read folder new) new) key) → Sound read judge child folder old → Sound read judge child folder new

-- A folder stays sound after a change outside the folder.
abbrev pub OutsideLaw : Type 0
OutsideLaw = (read : RecordParser) (judge : Judge) (child : Answers) (folder : List ℕ) (old new : Map) → ((q : List ℕ) → is_at_or_below folder q ≡ true → finite.get new q ≡ finite.get old q)
    → Sound read judge child folder old → Sound read judge child folder new

-- A folder stays sound after a change at or below the output folder of a unit for which no record
-- counts.
abbrev pub InOutputLaw : Type 0
InOutputLaw = (read : RecordParser) (judge : Judge) (child : Answers) (folder : List ℕ) (old new : Map) (key : List ℕ) → is_path folder ≡ true → is_key key ≡ true
    → record_at read folder old key ≡ None → AgreeBut (is_at_or_below (out_of folder key)) old new → Sound read judge child folder old → Sound read judge child folder new

-- A folder stays sound if the text of a record is removed, or becomes a text that does not count as
-- a record.
abbrev pub WithoutRecordLaw : Type 0
WithoutRecordLaw = (read : RecordParser) (judge : Judge) (child : Answers) (folder : List ℕ) (old new : Map) (key : List ℕ) → is_path folder ≡ true → is_key key ≡ true
    → record_at read folder new key ≡ None → AgreeBut (is_at_or_below (record_path folder key)) old new → Sound read judge child folder old → Sound read judge child folder new

-- A folder stays sound if a true record of format 2 is written. No record that counts may name this
-- record's unit with this record's number.
abbrev pub PutLaw : Type 0
PutLaw = (read : RecordParser) (judge : Judge) (child : Answers) (folder : List ℕ) (old new : Map) (key : List ℕ) (r : Record) (number : ℕ) → is_path folder ≡ true → is_key key ≡ true
    → record_at read folder new key ≡ Some r → number_of r ≡ Some number → Unnamed (record_at read folder old) key number → AgreeBut (is_at_or_below (record_path folder key)) old new
    → IsTrueRecord judge child folder (record_at read folder new) new key r → Sound read judge child folder old → Sound read judge child folder new
