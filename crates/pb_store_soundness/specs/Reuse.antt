-- When a record contains what the record's unit would answer, and what a new record rests on.
use Rattle.std.specs.Prelude.{◌≡◌, ◌≢◌, ◌↔◌, ◌<◌, ℕ, true, List, Option, Some, None, Contains}
use Rattle.pb_place_types.specs.Folders.{files_in}
use Rattle.pb_place_types.specs.Paths.{is_path, is_at_or_below}
use Rattle.pb_place_types.specs.World.{World, Map, Answers, AgreeBut}
use Rattle.pb_place_types.specs.declared.command.Command.{Command}
use Rattle.pb_record.specs.Commands.{command_of}
use Rattle.pb_record.specs.declared.record.Needed.{Needed}
use Rattle.pb_record.specs.declared.record.Needed.TheVariants.{Copies, Numbers}
use Rattle.pb_record.specs.declared.record.Record.{Record}
use Rattle.pb_store_soundness.specs.Inputs.{Judge, Agrees, IsHonest, reply_in}
use Rattle.pb_store_soundness.specs.Records.{RecordParser, is_key, out_of, record_path, record_at, number_of, needs_of}
use Rattle.pb_store_soundness.specs.Grounded.{RecordMap, Grounded, Reaches}
use Rattle.pb_store_soundness.specs.Sound.{Sound, Backs, HoldsCopies}
use Rattle.pb_store_soundness.specs.Laws.{Unnamed}

-- the number of a record, if there is a record and it has a number
abbrev pub number_if : Option Record → Option ℕ
number_if None = None
number_if (Some r) = number_of r

-- The needed units are as the record names them. If the record names the units with numbers, the
-- units' records have these numbers now. If the record has copies, the units' files are equal to
-- the copies now.
abbrev pub NeededNow : List ℕ → RecordMap → Map → Needed → Type 0
NeededNow folder at files (Copies copies) = HoldsCopies folder copies files
NeededNow folder at files (Numbers number needs) = (need : List ℕ) (n : ℕ) → Contains needs (need, n) → number_if (at need) ≡ Some n

-- Nothing differs from the record. The record counts and has this command. The recorded inputs have
-- their present values, and the needed units are as the record names them.
pub record IsSame (read : RecordParser) (folder key : List ℕ) (c : Command) (w : World) (r : Record) : Type 0 where
  pub stands : record_at read folder w.files key ≡ Some r
  pub asked : command_of r.asked ≡ c
  pub inputs : Agrees c.target r.inputs w
  pub needed : NeededNow folder (record_at read folder w.files) w.files r.needed

-- each unit whose output folder is among these folders is grounded
abbrev pub AreGrounded : RecordMap → List ℕ → List (List ℕ) → Type 0
AreGrounded at folder reads = (v : List ℕ) → Contains reads (out_of folder v) → (n : ℕ) × Grounded at v n

-- Take a sound folder in which all units with a folder in the command's `reads` are grounded. If
-- nothing differs from a unit's record of format 2, the unit is grounded.
abbrev pub GroundsLaw : Type 0
GroundsLaw = (read : RecordParser) (judge : Judge) (child : Answers) (folder key : List ℕ) (c : Command) (w : World) (r : Record) (number : ℕ) → Sound read judge child folder w.files
    → IsSame read folder key c w r → AreGrounded (record_at read folder w.files) folder c.reads → number_of r ≡ Some number → Grounded (record_at read folder w.files) key number

-- Take a sound folder in which all units with a folder in the command's `reads` are grounded. If
-- nothing differs from a unit's record, the child's reply would now be the recorded reply. The
-- files of the reply would be the files in the unit's folder.
abbrev pub ReuseLaw : Type 0
ReuseLaw = (read : RecordParser) (judge : Judge) (child : Answers) (folder key : List ℕ) (c : Command) (w : World) (r : Record) → Sound read judge child folder w.files
    → IsSame read folder key c w r → AreGrounded (record_at read folder w.files) folder c.reads → Backs judge r (out_of folder key) (files_in (out_of folder key) w.files) (reply_in child c w)

-- One of the named units has the output folder `f`, or has a record with a command that reads the
-- folder `f`.
pub data ReadByNeeds (at : RecordMap) (folder : List ℕ) (needs : List (List ℕ × ℕ)) (f : List ℕ) : Type 0 where
  own : (need : List ℕ) (n : ℕ) → Contains needs (need, n) → f ≡ out_of folder need → ReadByNeeds at folder needs f
  beyond : (need : List ℕ) (n : ℕ) (s : Record) → Contains needs (need, n) → at need ≡ Some s → Contains s.asked.reads f → ReadByNeeds at folder needs f

-- Each named unit has a record with the named number. This number is less than the number of the
-- record that names the unit. The naming record's command reads exactly the folders of the named
-- units and the folders that the commands in these units' records read.
pub record NamesNeeds (at : RecordMap) (folder : List ℕ) (r : Record) (number : ℕ) : Type 0 where
  pub stand : (need : List ℕ) (n : ℕ) → Contains (needs_of r) (need, n) → (s : Record) × (at need ≡ Some s) × (number_of s ≡ Some n)
  pub less : (need : List ℕ) (n : ℕ) → Contains (needs_of r) (need, n) → n < number
  pub reads : (f : List ℕ) → Contains r.asked.reads f ↔ ReadByNeeds at folder (needs_of r) f

-- This record was written, and nothing else has changed. No old record names the new record's unit
-- with the new record's number.
pub record IsPut (read : RecordParser) (folder key : List ℕ) (r : Record) (number : ℕ) (old new : Map) : Type 0 where
  pub path : is_path folder ≡ true
  pub key_is : is_key key ≡ true
  pub there : record_at read folder new key ≡ Some r
  pub numbered : number_of r ≡ Some number
  pub unnamed : Unnamed (record_at read folder old) key number
  pub only : AgreeBut (is_at_or_below (record_path folder key)) old new

-- A folder stays sound if a new record of format 2 is put into it. The record must contain the
-- reply of an honest child in the present world, and the present values of the inputs. `NamesNeeds`
-- must be true of the record.
abbrev pub RenewLaw : Type 0
RenewLaw = (read : RecordParser) (judge : Judge) (child : Answers) (folder key : List ℕ) (w : World) (new : Map) (r : Record) (number : ℕ) → IsHonest judge child (command_of r.asked) w
    → Agrees r.asked.target r.inputs w → Backs judge r (out_of folder key) (files_in (out_of folder key) w.files) (reply_in child (command_of r.asked) w)
    → NamesNeeds (record_at read folder w.files) folder r number → IsPut read folder key r number w.files new → Sound read judge child folder w.files → Sound read judge child folder new

-- If only the record of one unit changes, a grounded unit that does not reach this unit stays
-- grounded.
abbrev pub SparesLaw : Type 0
SparesLaw = (old new : RecordMap) (key v : List ℕ) (n : ℕ) → ((l : List ℕ) → l ≢ key → new l ≡ old l) → Grounded old v n → v ≢ key → (Reaches old v key → ⊥) → Grounded new v n

-- Take a new record of a unit that the old records do not ground. The unit is grounded if all units
-- that the record names were grounded with the named numbers. These numbers must be lower than the
-- record's own number.
abbrev pub PutGroundsLaw : Type 0
PutGroundsLaw = (old new : RecordMap) (key : List ℕ) (r : Record) (number : ℕ) → ((l : List ℕ) → l ≢ key → new l ≡ old l) → new key ≡ Some r → number_of r ≡ Some number → ((n : ℕ) → Grounded old key n → ⊥)
    → ((need : List ℕ) (n : ℕ) → Contains (needs_of r) (need, n) → (n < number) × Grounded old need n) → Grounded new key number
