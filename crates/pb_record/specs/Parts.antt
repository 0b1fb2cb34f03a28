-- What a record is, apart from its text. Texts are UTF-8, and paths are normalised. Paths inside a
-- folder are relative paths, and numbers fit in 64 bits. Variables are sorted by name, each name
-- once.
use Rattle.std.specs.Prelude.{◌≡◌, ◌↔◌, ◌<◌, ◌^◌, ℕ, true, List, Option, Some, None}
use Rattle.std.specs.List.{AllByRecursion}
use Rattle.std.specs.Str.{IsUtf8}
use Rattle.pb_place_types.specs.Paths.{is_path, is_relative}
use Rattle.pb_record.specs.Grammar.{record_bytes}
use Rattle.pb_record.specs.Sorted.{are_sorted}
use Rattle.pb_record.specs.declared.recorded_command.RecordedCommand.{RecordedCommand}
use Rattle.pb_record.specs.declared.record.Input.{Input}
use Rattle.pb_record.specs.declared.record.Input.TheVariants.{File, Tree, Value}
use Rattle.pb_record.specs.declared.record.Needed.{Needed}
use Rattle.pb_record.specs.declared.record.Needed.TheVariants.{Copies, Numbers}
use Rattle.pb_record.specs.declared.record.Record.{Record}

-- Any value is allowed. `IsNumber` says that a number fits in 64 bits.
abbrev pub IsAny : {A : Type 0} → A → Type 0
IsAny x = Unit {0}

abbrev pub IsNumber : ℕ → Type 0
IsNumber n = n < 2 ^ 64

-- the path is a normalised absolute path, in UTF-8
abbrev pub IsUtf8Path : List ℕ → Type 0
IsUtf8Path path = (is_path path ≡ true) × IsUtf8 path

-- the path is a relative path inside a folder, in UTF-8
abbrev pub IsInside : List ℕ → Type 0
IsInside path = (is_relative path ≡ true) × IsUtf8 path

abbrev pub AreBoth : {A B : Type 0} → (A → Type 0) → (B → Type 0) → (A × B) → Type 0
AreBoth First Second p = First p.0 × Second p.1

abbrev pub IsPerhaps : Option (List ℕ) → Type 0
IsPerhaps None = Unit {0}
IsPerhaps (Some text) = IsUtf8 text

abbrev pub AreFiles : List (List ℕ × List ℕ) → Type 0
AreFiles = AllByRecursion (AreBoth IsInside IsAny)

abbrev pub ArePairs : List (List ℕ × List ℕ) → Type 0
ArePairs pairs = AllByRecursion (AreBoth IsUtf8 IsUtf8) pairs × (are_sorted pairs ≡ true)

abbrev pub IsInput : Input → Type 0
IsInput (File path bytes) = IsUtf8Path path
IsInput (Tree path below) = IsUtf8Path path × AreFiles below
IsInput (Value name text) = IsUtf8 name × IsPerhaps text

pub record IsAsked (a : RecordedCommand) : Type 0 where
  pub program : IsUtf8 a.program
  pub words : AllByRecursion IsUtf8 a.words
  pub folder : IsUtf8Path a.folder
  pub pairs : ArePairs a.pairs
  pub out : IsUtf8Path a.out
  pub target : IsUtf8Path a.target
  pub reads : AllByRecursion IsUtf8Path a.reads

abbrev pub AreNeeded : Needed → Type 0
AreNeeded (Numbers own needs) = IsNumber own × AllByRecursion (AreBoth IsUtf8 IsNumber) needs
AreNeeded (Copies copies) = AllByRecursion (AreBoth IsUtf8 AreFiles) copies

pub record IsRecord (r : Record) : Type 0 where
  pub key : IsUtf8 r.key
  pub asked : IsAsked r.asked
  pub inputs : AllByRecursion IsInput r.inputs
  pub needed : AreNeeded r.needed

-- `r` is a record, and the text is the text of `r`
pub record Says (text : List ℕ) (r : Record) : Type 0 where
  pub is : IsRecord r
  pub same : text ≡ record_bytes r

-- `found` is the record with this text, or `None` if the text is not the text of a record
abbrev pub ReadsAs : List ℕ → Option Record → Type 0
ReadsAs text found = (r : Record) → (found ≡ Some r) ↔ Says text r

-- for each text, the function returns what `ReadsAs` defines: the record with this text, or `None`
abbrev pub FindsAsReading : (List ℕ → Option Record) → Type 0
FindsAsReading read = (text : List ℕ) → ReadsAs text (read text)
