-- How each call of the store changes the store's run numbers and the records in the store's folder.
use Rattle.std.specs.Prelude.{◌≡◌, ℕ, List, Option, Some, None, ◌⊎◌, pos, ◌↔◌, ◌<◌, true, map, Contains, Bool, false, not, is_some, Result, IfErr, if◌then◌else◌, max, Err, OnOk, MatchResult}
use Rattle.std.specs.FinMap as finite
use Rattle.std.specs.List.{fold}
use Rattle.std.specs.Option.{option_and_then}
use Rattle.pb_data.specs.Table.{value_at}
use Rattle.pb_place_types.specs.Folders.{files_in}
use Rattle.pb_place_types.specs.Paths.{is_path}
use Rattle.pb_place_types.specs.World.{World, Answers, Map, listed_directly}
use Rattle.pb_place_types.specs.declared.command.Command.{Command}
use Rattle.pb_place_types.specs.declared.command.Ended.{Ended}
use Rattle.pb_place_types.specs.declared.place.PlaceFault.TheVariants.{Write}
use Rattle.pb_record.specs.Commands.{command_of, of_parts}
use Rattle.pb_record.specs.declared.record.Input.{Input}
use Rattle.pb_record.specs.declared.record.InputName.{InputName}
use Rattle.pb_record.specs.declared.record.Needed.{Needed}
use Rattle.pb_record.specs.declared.record.Needed.TheVariants.{Numbers, Copies}
use Rattle.pb_record.specs.declared.record.Record.{Record}
use Rattle.pb_store_soundness.specs.Grounded.{RecordMap}
use Rattle.pb_store_soundness.specs.Inputs.{Judge, Agrees, IsHonest, reply_in, input_in}
use Rattle.pb_store_soundness.specs.Laws.{Unnamed}
use Rattle.pb_store_soundness.specs.Numbers.{NoneNames, after, IsAhead, IsBefore, NamesBefore}
use Rattle.pb_store_soundness.specs.Records.{RecordParser, is_key, out_of, record_at, records, number_of, reading, ends_as_record, read_text}
use Rattle.pb_store_soundness.specs.Reuse.{number_if, NamesNeeds, IsSame, AreGrounded}
use Rattle.pb_store_soundness.specs.Sound.{Backs, replied_files, Sound}
use Rattle.pb_store.specs.Calls.{looked}
use Rattle.pb_store.specs.Differences.{FirstDifference, CarriesReplayed, difference_in}
use Rattle.pb_store.specs.declared.fault.StoreFault.{StoreFault}
use Rattle.pb_store.specs.declared.fault.StoreFault.TheVariants.{Place, NumbersSpent}
use Rattle.pb_store.specs.declared.replaying.Compared.{Compared}
use Rattle.pb_store.specs.declared.store.Store.{Store}

-- the run number that a table has for a key, if there is such a number
abbrev pub number_in : List (List ℕ × Option ℕ) → List ℕ → Option ℕ
number_in table key = option_and_then (λ (number : Option ℕ). number) (value_at key table)

-- the table has the pair's number for the pair's key
abbrev pub IsHeld : List (List ℕ × Option ℕ) → (List ℕ × ℕ) → Type 0
IsHeld table need = number_in table need.0 ≡ Some need.1

-- for each key, the table has the number of the record that counts for the key, or no number if no
-- record counts
abbrev pub HasNumbers : RecordMap → List (List ℕ × Option ℕ) → Type 0
HasNumbers at table = (key : List ℕ) → number_in table key ≡ number_if (at key)

-- One of these units has the output folder `f`, or has a record with a command that reads the
-- folder `f`.
pub data ReadBy (at : RecordMap) (folder : List ℕ) (needs : List (List ℕ)) (f : List ℕ) : Type 0 where
  itself : (need : List ℕ) → Contains needs need → f ≡ out_of folder need → ReadBy at folder needs f
  further : (need : List ℕ) (s : Record) → Contains needs need → at need ≡ Some s → Contains s.asked.reads f → ReadBy at folder needs f

-- Each needed unit has a record of format 2, with a number below `number`. The folders in `reads`
-- are exactly the folders of these units and the folders that the commands in these units' records
-- read.
pub record HasNeeds (at : RecordMap) (folder : List ℕ) (reads : List (List ℕ)) (needs : List (List ℕ)) (number : ℕ) : Type 0 where
  pub stand : (need : List ℕ) → Contains needs need → (s : Record) × (at need ≡ Some s) × ((n : ℕ) × (number_of s ≡ Some n) × (n < number))
  pub reads_are : (f : List ℕ) → Contains reads f ↔ ReadBy at folder needs f

abbrev pub or_zero : Option ℕ → ℕ
or_zero None = 0
or_zero (Some n) = n

-- each needed unit, with the number of the unit's record
abbrev pub numbered : RecordMap → List (List ℕ) → List (List ℕ × ℕ)
numbered at needs = map (λ (need : List ℕ). (need, or_zero (number_if (at need)))) needs

-- In this world the child is honest on the command. The child's reply is good, with these input
-- names and streams. The files of the reply are those in the unit's folder.
pub record IsEarned (judge : Judge) (child : Answers) (folder key : List ℕ) (c : Command) (names : List InputName) (ended : Ended) (w : World) : Type 0 where
  pub honest : IsHonest judge child c w
  pub good : judge c (reply_in child c w) ≡ Some names
  pub status : (reply_in child c w).status ≡ pos 0
  pub stdout : (reply_in child c w).stdout ≡ ended.stdout
  pub stderr : (reply_in child c w).stderr ≡ ended.stderr
  pub files : replied_files (out_of folder key) (reply_in child c w) ≡ files_in (out_of folder key) w.files

-- the record that the store keeps for a unit, made of these parts
abbrev pub kept_of : List ℕ → List ℕ → Command → List Input → ℕ → List (List ℕ × ℕ) → Ended → Record
kept_of folder key c inputs number pairs ended = record { key = key; asked = of_parts c (out_of folder key); inputs = inputs; needed = Numbers number pairs; stdout = ended.stdout; stderr = ended.stderr }

-- A unit's record after a failed call: no record, the old record, or `put`, the record that the
-- call was to keep.
abbrev pub Leaves : Option Record → Option Record → Option Record → Type 0
Leaves put old new = (new ≡ None) ⊎ ((new ≡ old) ⊎ (new ≡ put))

-- When a record may be kept. The unit's answer is earned, the needed units have their records, and
-- no record has or names the new number. The kept record is then true.
pub record IsKept (judge : Judge) (child : Answers) (folder key : List ℕ) (c : Command) (needs : List (List ℕ)) (names : List InputName) (ended : Ended) (number : ℕ) (w : World) : Type 0 where
  pub earned : IsEarned judge child folder key c names ended w
  pub needs_stand : HasNeeds (records folder w) folder c.reads needs number
  pub unnamed : NoneNames (records folder w) number

-- When a record may be put into the folder. The record contains the reply of an honest child in
-- this world. Each unit that the record names has a record with the named number. No record that
-- counts names this unit with this run number.
pub record MayPut (read : RecordParser) (judge : Judge) (child : Answers) (folder key : List ℕ) (w : World) (r : Record) (number : ℕ) : Type 0 where
  pub honest : IsHonest judge child (command_of r.asked) w
  pub agree : Agrees r.asked.target r.inputs w
  pub backs : Backs judge r (out_of folder key) (files_in (out_of folder key) w.files) (reply_in child (command_of r.asked) w)
  pub names : NamesNeeds (record_at read folder w.files) folder r number
  pub path : is_path folder ≡ true
  pub key_is : is_key key ≡ true
  pub its_key : r.key ≡ key
  pub numbered : number_of r ≡ Some number
  pub unnamed : Unnamed (record_at read folder w.files) key number

-- the record with this number, and with the numbers of the needed units instead of copies of their
-- files
abbrev pub numbered_record : Record → ℕ → List (List ℕ × ℕ) → Record
numbered_record r number pairs = record { key = r.key; asked = r.asked; inputs = r.inputs; needed = Numbers number pairs; stdout = r.stdout; stderr = r.stderr }

-- a record counts for the unit, and this record has no number because it is of format 1
abbrev pub lacks_number : Option Record → Bool
lacks_number None = false
lacks_number (Some r) = not (is_some (number_of r))

-- The record after a migration. A record with a number stays as it is. A record without a number
-- gets the next number, if one is left.
abbrev pub migrated_by : Option ℕ → Option ℕ → List (List ℕ × ℕ) → Record → Option Record
migrated_by (Some own) next pairs r = Some r
migrated_by None (Some number) pairs r = Some (numbered_record r number pairs)
migrated_by None None pairs r = Some r

abbrev pub migrated : Option ℕ → List (List ℕ × ℕ) → Option Record → Option Record
migrated next pairs None = None
migrated next pairs (Some r) = migrated_by (number_of r) next pairs r

-- When a record may be migrated. Nothing differs from the old record, and the child is honest on
-- the command. All units with a folder in the command's `reads` are grounded. The needed units have
-- their records. No record has or names the new number. The new record is then true.
pub record IsMigrated (judge : Judge) (child : Answers) (folder key : List ℕ) (c : Command) (needs : List (List ℕ)) (number : ℕ) (w : World) (r : Record) : Type 0 where
  pub same : IsSame reading folder key c w r
  pub honest : IsHonest judge child c w
  pub reads_grounded : AreGrounded (records folder w) folder c.reads
  pub needs_stand : HasNeeds (records folder w) folder c.reads needs number
  pub unnamed : NoneNames (records folder w) number

-- the old next number was taken, and the number after the taken number is the new next number
abbrev pub TakesNext : Option ℕ → Option ℕ → Type 0
TakesNext old new = (number : ℕ) × (old ≡ Some number) × (new ≡ after number)

-- the next number is unchanged, or it was taken
abbrev pub TakesNumber : Option ℕ → Option ℕ → Type 0
TakesNumber old new = (new ≡ old) ⊎ TakesNext old new

-- How a migration changes the next number. If reading a file, listing a folder or reading a
-- variable failed, no number was taken. If the write failed, the number was taken.
pub record MigratesNext (result : Result Unit StoreFault) (old new : Option ℕ) : Type 0 where
  pub next : TakesNumber old new
  pub before : IfErr result (λ e. looked e ≡ true → new ≡ old)
  pub used : IfErr result (λ e. e ≡ Place Write → TakesNext old new)

-- The greatest number that a record has or names. `greatest_if` is 0 if there is no record.
abbrev pub greatest_named : Needed → ℕ
greatest_named (Copies copies) = 0
greatest_named (Numbers number needs) = max number (fold (λ g (pair : List ℕ × ℕ). max g pair.1) 0 needs)

abbrev pub greatest_if : Option Record → ℕ
greatest_if None = 0
greatest_if (Some r) = greatest_named r.needed

-- The greatest number that the record at a path has or names, even if the record does not count.
-- `greatest_of` is the greatest such number for a list of paths.
abbrev pub greatest_at : Map → List ℕ → ℕ
greatest_at m path = if ends_as_record path then greatest_if (read_text reading (finite.get m path)) else 0

abbrev pub greatest_of : Map → List (List ℕ) → ℕ
greatest_of m paths = fold (λ g path. max g (greatest_at m path)) 0 paths

-- The next run number of a folder: one more than the greatest number that a record directly in the
-- folder has or names. If no record has a number, the next number is 1. After the greatest number
-- of 64 bits there is no next number.
abbrev pub next_in : List ℕ → World → Option ℕ
next_in folder w = after (greatest_of w.files (listed_directly folder w))

-- The store of a folder has the folder's next run number and the run numbers of the folder's
-- records. The next number is above all numbers that a record has or names.
pub record OpensStore (folder : List ℕ) (w : World) (store : Store) : Type 0 where
  pub next : store.next ≡ next_in folder w
  pub ahead : IsAhead (records folder w) store.next
  pub numbers : HasNumbers (records folder w) store.numbers

-- A comparison of a unit contains the unit's first difference. If nothing differs, the comparison
-- contains what the unit's record replays.
pub record Compares (folder key : List ℕ) (c : Command) (w : World) (compared : Compared) : Type 0 where
  pub first : FirstDifference folder key c w (difference_in compared)
  pub carries : CarriesReplayed (records folder w key) compared

-- this was the next number and was taken, and the number after it is now the next one
abbrev pub IsGiven : ℕ → Option ℕ → Option ℕ → Type 0
IsGiven number old new = (old ≡ Some number) × (new ≡ after number)

-- A unit's record after a call. After a success the record is `put`, which the call was to keep.
-- After a fault the record is as `Leaves` says.
abbrev pub IsAfterPut : {T : Type 0} → Result T StoreFault → Option Record → Option Record → Option Record → Type 0
IsAfterPut result put old new = MatchResult result (λ x. new ≡ put) (λ e. Leaves put old new)

-- What removing a record guarantees. The folder stays sound, and no record counts for the key after
-- a success. If a number was above all numbers in the records, it still is.
pub record RemovesRecord (child : Answers) (folder key : List ℕ) (result : Result Unit StoreFault) (old new : World) : Type 0 where
  pub sound : (judge : Judge) → Sound reading judge child folder old.files → Sound reading judge child folder new.files
  pub stands : IsAfterPut result None (records folder old key) (records folder new key)
  pub ahead : (next : Option ℕ) → IsAhead (records folder old) next → IsAhead (records folder new) next

-- What dropping a record guarantees. The folder stays sound, and no record counts for the key after
-- a success. The next number stays above all others. After a success the store has the numbers of
-- the records.
pub record DropsRecord (child : Answers) (key : List ℕ) (result : Result ℕ StoreFault) (old new : Store) (before now : World) : Type 0 where
  pub sound : (judge : Judge) → Sound reading judge child old.folder before.files → Sound reading judge child old.folder now.files
  pub stands : IsAfterPut result None (records old.folder before key) (records old.folder now key)
  pub ahead : IsAhead (records old.folder before) old.next → IsAhead (records old.folder now) new.next
  pub numbers : OnOk result (HasNumbers (records old.folder now) new.numbers)
  pub spent : old.next ≡ None → now ≡ before

-- What putting a record guarantees. If `MayPut` is true, the folder stays sound. After a success
-- the record counts for its key. If a number was above all numbers in the old records and in the
-- new record, it is above all numbers in the records afterwards.
pub record PutsRecord (child : Answers) (folder key : List ℕ) (r : Record) (result : Result Unit StoreFault) (old new : World) : Type 0 where
  pub sound : (judge : Judge) (number : ℕ) → MayPut reading judge child folder key old r number → Sound reading judge child folder old.files → Sound reading judge child folder new.files
  pub stands : IsAfterPut result (Some r) (records folder old key) (records folder new key)
  pub ahead : (next : Option ℕ) → NamesBefore next r → IsAhead (records folder old) next → IsAhead (records folder new) next

-- What keeping a record guarantees. If `IsKept` is true, the folder stays sound. If `number` was
-- taken and the needed units have records, the next number stays above all others. After a success
-- the store has the records' numbers. If a look failed, nothing changed.
pub record KeepsRecord (child : Answers) (key : List ℕ) (c : Command) (needs : List (List ℕ)) (names : List InputName) (ended : Ended) (number : ℕ) (result : Result Unit StoreFault) (old new : Store) (before now : World) : Type 0 where
  pub sound : (judge : Judge) → IsKept judge child old.folder key c needs names ended number before → Sound reading judge child old.folder before.files → Sound reading judge child old.folder now.files
  pub stands : IsAfterPut result (Some (kept_of old.folder key c (map (input_in c.target before) names) number (numbered (records old.folder before) needs) ended)) (records old.folder before key) (records old.folder now key)
  pub ahead : IsBefore old.next number → HasNeeds (records old.folder before) old.folder c.reads needs number → IsAhead (records old.folder before) old.next → IsAhead (records old.folder now) old.next
  pub numbers : OnOk result (HasNumbers (records old.folder now) new.numbers)
  pub looked : IfErr result (λ e. looked e ≡ true → now ≡ before)

-- What migrating a record guarantees. A record without a number gets the next number, and any other
-- record stays. If `IsMigrated` is true, the folder stays sound and the next number stays above all
-- others. After a success the store has the numbers of the records.
pub record MigratesRecord (child : Answers) (key : List ℕ) (needs : List (List ℕ)) (result : Result Unit StoreFault) (old new : Store) (before now : World) : Type 0 where
  pub sound : (judge : Judge) (c : Command) (r : Record) → ((number : ℕ) → old.next ≡ Some number → IsMigrated judge child old.folder key c needs number before r) → Sound reading judge child old.folder before.files → Sound reading judge child old.folder now.files
  pub stands : IsAfterPut result (migrated old.next (numbered (records old.folder before) needs) (records old.folder before key)) (records old.folder before key) (records old.folder now key)
  pub ahead : (judge : Judge) (c : Command) (r : Record) → ((number : ℕ) → old.next ≡ Some number → IsMigrated judge child old.folder key c needs number before r) → IsAhead (records old.folder before) old.next → IsAhead (records old.folder now) new.next
  pub numbers : OnOk result (HasNumbers (records old.folder now) new.numbers)
  -- if a record without a number counts, a success takes the next number; if no such record counts,
  -- nothing changes
  pub taken : lacks_number (records old.folder before key) ≡ true → OnOk result (TakesNext old.next new.next)
  pub unused : lacks_number (records old.folder before key) ≡ false → (new.next ≡ old.next) × (now ≡ before)
  pub cause : result ≡ Err NumbersSpent → lacks_number (records old.folder before key) ≡ true
  pub spent : old.next ≡ None → now ≡ before
  pub looked : IfErr result (λ e. looked e ≡ true → now ≡ before)
