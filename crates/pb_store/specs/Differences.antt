-- The first difference of a unit, in a fixed order, and what the unit's record replays if nothing
-- differs.
use Rattle.std.specs.Prelude.{◌≡◌, ◌++◌, ◌∷◌, ◌&&◌, ℕ, Bool, true, false, List, [], Option, Some, None, pos, is_some, option_map}
use Rattle.std.specs.List.{AllByRecursion}
use Rattle.std.specs.Str.{bytes_eq}
use Rattle.pb_place_types.specs.Paths.{is_relative}
use Rattle.pb_place_types.specs.World.{World, Map}
use Rattle.pb_place_types.specs.declared.command.Command as commands
use Rattle.pb_place_types.specs.declared.command.Ended.{Ended}
use Rattle.pb_record.specs.Commands.{AsksAs, command_of}
use Rattle.pb_record.specs.declared.record.Input as inputs
use Rattle.pb_record.specs.declared.record.InputName.{InputName}
use Rattle.pb_record.specs.declared.record.Needed.{Needed}
use Rattle.pb_record.specs.declared.record.Needed.TheVariants.{Copies, Numbers}
use Rattle.pb_record.specs.declared.record.Record.{Record}
use Rattle.pb_store_soundness.specs.Grounded.{RecordMap}
use Rattle.pb_store_soundness.specs.Inputs.{Agrees, contents, input_in, name_of}
use Rattle.pb_store_soundness.specs.Records.{out_of, reading, records, number_of}
use Rattle.pb_store_soundness.specs.Reuse.{IsSame, number_if}
use Rattle.pb_store.specs.Asking.{IsFirstName, SamePart, parts}
use Rattle.pb_store.specs.declared.difference.Difference.{Difference}
use Rattle.pb_store.specs.declared.difference.Difference.TheVariants.{NoRecord, Command, Pair, Input, Dependency}
use Rattle.pb_store.specs.declared.replaying.Compared.{Compared}
use Rattle.pb_store.specs.declared.replaying.Compared.TheVariants.{Differs, Same}
use Rattle.pb_store.specs.declared.replaying.Replayed.{Replayed}

-- `b` is `told` of the first item of the row for which `Holds` is false. `Holds` is true for all
-- items before this item.
pub record IsFirst {A B : Type 0} (Holds : A → Type 0) (told : A → B) (row : List A) (b : B) : Type 0 where
  pub before : List A
  pub here : A
  pub after : List A
  pub split : row ≡ before ++ here ∷ after
  pub hold : AllByRecursion Holds before
  pub fails : Holds here → ⊥
  pub tells : b ≡ told here

-- If no name is reported, `Holds` is true for all items of the row. Otherwise the reported name is
-- the name of the first item for which `Holds` is false.
abbrev pub FirstOrAll : {A : Type 0} → ((List ℕ × A) → Type 0) → List (List ℕ × A) → Option (List ℕ) → Type 0
FirstOrAll Holds row None = AllByRecursion Holds row
FirstOrAll Holds row (Some b) = IsFirst Holds (λ x. x.0) row b

-- the recorded value of the input is its value in this world
abbrev pub IsPresent : List ℕ → World → inputs.Input → Type 0
IsPresent target w i = input_in target w (name_of i) ≡ i

-- The report on a row of recorded inputs: the name of the first input with a value that has
-- changed. If no value has changed, no name is reported.
abbrev pub FirstInput : List ℕ → List inputs.Input → World → Option InputName → Type 0
FirstInput target row w None = Agrees target row w
FirstInput target row w (Some name) = IsFirst (IsPresent target w) name_of row name

-- the number of the needed unit's record is the number in the pair
abbrev pub HasNumber : RecordMap → (List ℕ × ℕ) → Type 0
HasNumber at need = number_if (at need.0) ≡ Some need.1

-- the pair names the needed unit by a relative path, and the unit's folder contains exactly the
-- files in the pair
abbrev pub HasFiles : List ℕ → Map → (List ℕ × List (List ℕ × List ℕ)) → Type 0
HasFiles folder files need = (is_relative need.0 ≡ true) × (contents (out_of folder need.0) files ≡ need.1)

-- The needed units are still as the record names them: by run numbers, or by copies of their files.
-- `FirstNeed` is the first needed unit, in the record's order, for which this is false.
abbrev pub AreNeeded : List ℕ → RecordMap → Map → Needed → Type 0
AreNeeded folder at files (Copies copies) = AllByRecursion (HasFiles folder files) copies
AreNeeded folder at files (Numbers number needs) = AllByRecursion (HasNumber at) needs

abbrev pub FirstNeed : List ℕ → RecordMap → Map → Needed → List ℕ → Type 0
FirstNeed folder at files (Copies copies) need = IsFirst (HasFiles folder files) (λ c. c.0) copies need
FirstNeed folder at files (Numbers number needs) need = IsFirst (HasNumber at) (λ n. n.0) needs need

-- Nothing differs from the record. The record has this command, and each recorded input has the
-- recorded value now. The needed units are as the record names them.
pub record IsAsRecorded (folder : List ℕ) (at : RecordMap) (c : commands.Command) (w : World) (r : Record) : Type 0 where
  pub asked : command_of r.asked ≡ c
  pub inputs : Agrees c.target r.inputs w
  pub needed : AreNeeded folder at w.files r.needed

-- The first difference from a record. The parts of the command are compared first, without
-- variables. Then come the variables, the inputs, and the needed units.
abbrev pub DiffersFrom : List ℕ → RecordMap → commands.Command → World → Record → Difference → Type 0
DiffersFrom folder at c w r NoRecord = ⊥
DiffersFrom folder at c w r (Command part) = IsFirst (SamePart r.asked c) (λ p. p) parts part
DiffersFrom folder at c w r (Pair name) = AsksAs r.asked c × IsFirstName r.asked.pairs c.pairs name
DiffersFrom folder at c w r (Input name) = (command_of r.asked ≡ c) × IsFirst (IsPresent c.target w) name_of r.inputs name
DiffersFrom folder at c w r (Dependency need) = (command_of r.asked ≡ c) × Agrees c.target r.inputs w × FirstNeed folder at w.files r.needed need

-- the report on a record: the first difference from the record, or `None` if nothing differs
abbrev pub FirstFrom : List ℕ → RecordMap → commands.Command → World → Record → Option Difference → Type 0
FirstFrom folder at c w r None = IsAsRecorded folder at c w r
FirstFrom folder at c w r (Some d) = DiffersFrom folder at c w r d

-- The report on a unit. If no record counts for the unit, the report is `NoRecord`. Otherwise the
-- report is `FirstFrom` for the unit's record. `FirstDifference` is this report for a folder of a
-- world.
abbrev pub FirstOf : List ℕ → RecordMap → commands.Command → World → Option Record → Option Difference → Type 0
FirstOf folder at c w None found = found ≡ Some NoRecord
FirstOf folder at c w (Some r) found = FirstFrom folder at c w r found

abbrev pub FirstDifference : List ℕ → List ℕ → commands.Command → World → Option Difference → Type 0
FirstDifference folder key c w found = FirstOf folder (records folder w) c w (records folder w key) found

-- if the record has copies of needed units, it names each of these units by a relative path
abbrev pub NamesPaths : Needed → Type 0
NamesPaths (Copies copies) = AllByRecursion (λ c. is_relative c.0 ≡ true) copies
NamesPaths (Numbers number needs) = Unit {0}

-- for some command, nothing differs from the unit's record
abbrev pub NothingDiffers : List ℕ → List ℕ → World → Type 0
NothingDiffers folder key w = (c : commands.Command) × FirstDifference folder key c w None

-- If nothing differs from a unit's record, `IsSame` is true of the record. If `NamesPaths` is true
-- of the needed units in the record, the converse is true, too.
pub record UnchangedIsSame : Type 0 where
  pub same : (folder key : List ℕ) (c : commands.Command) (w : World) → FirstDifference folder key c w None → (r : Record) × IsSame reading folder key c w r
  pub none : (folder key : List ℕ) (c : commands.Command) (w : World) (r : Record) → IsSame reading folder key c w r → NamesPaths r.needed → FirstDifference folder key c w None

-- Given a command and a world, a unit has at most one first difference.
abbrev pub DifferencesAreOne : Type 0
DifferencesAreOne = (folder key : List ℕ) (c : commands.Command) (w : World) (found other : Option Difference) → FirstDifference folder key c w found → FirstDifference folder key c w other → found ≡ other

-- the two lists of files are equal
abbrev pub same_files : List (List ℕ × List ℕ) → List (List ℕ × List ℕ) → Bool
same_files [] [] = true
same_files [] (y ∷ ys) = false
same_files (x ∷ xs) [] = false
same_files (x ∷ xs) (y ∷ ys) = (bytes_eq x.0 y.0 && bytes_eq x.1 y.1) && same_files xs ys

-- What a record replays: a child that ended well and wrote the recorded streams. It also says
-- whether the record has a number.
abbrev pub replayed : Record → Replayed
replayed r = record { ended = record { status = pos 0; stdout = r.stdout; stderr = r.stderr }; numbered = is_some (number_of r) }

-- there is a record that counts for a unit, and `again` is what this record replays
abbrev pub IsReplayed : Option Record → Replayed → Type 0
IsReplayed found again = option_map replayed found ≡ Some again

-- the difference that a comparison found, if something differs
abbrev pub difference_in : Compared → Option Difference
difference_in (Differs difference) = Some difference
difference_in (Same again) = None

-- if a comparison found no difference, the comparison contains what the record replays
abbrev pub CarriesReplayed : Option Record → Compared → Type 0
CarriesReplayed found (Differs difference) = Unit {0}
CarriesReplayed found (Same again) = IsReplayed found again

-- the record replays a child that ended with this status and these streams
abbrev pub IsAnswered : Option Record → Ended → Type 0
IsAnswered found ended = option_map (λ (r : Record). (replayed r).ended) found ≡ Some ended
