-- Which calls of the place each call of the store makes, with their arguments and in order.
use Rattle.std.specs.Prelude.{◌≡◌, ◌⊎◌, ◌++◌, ◌∷◌, ◌==◌, ◌&&◌, if◌then◌else◌, ℕ, Bool, true, false, map, List, [], Option, Some, None, Result, Err, MatchResult, Decides}
use Rattle.std.specs.Cmp.Lexicographic.{pointwise}
use Rattle.std.specs.FinMap as finite
use Rattle.std.specs.List.{filter, list_all}
use Rattle.std.specs.Option.{option_map_or}
use Rattle.std.specs.Str.{bytes_eq}
use Rattle.pb_place_types.specs.CallsInTurn.{FailsAt, MakesSome, past_calls}
use Rattle.pb_place_types.specs.declared.call.Call.{Call}
use Rattle.pb_place_types.specs.declared.call.Call.TheVariants as call
use Rattle.pb_place_types.specs.Counts.{Counts}
use Rattle.pb_place_types.specs.Paths.{is_at_or_below, is_relative}
use Rattle.pb_place_types.specs.World.{World, Map, from_nothing, listed, listed_directly, removed}
use Rattle.pb_place_types.specs.declared.command.Command as commands
use Rattle.pb_record.specs.Commands.{command_of}
use Rattle.pb_record.specs.declared.recorded_command.RecordedCommand.{RecordedCommand}
use Rattle.pb_record.specs.declared.record.Input.{Input}
use Rattle.pb_record.specs.declared.record.Input.TheVariants.{File, Tree, Value}
use Rattle.pb_record.specs.declared.record.InputName.{InputName}
use Rattle.pb_record.specs.declared.record.InputName.TheVariants.{Path, Variable}
use Rattle.pb_record.specs.declared.record.Needed.{Needed}
use Rattle.pb_record.specs.declared.record.Needed.TheVariants.{Copies, Numbers}
use Rattle.pb_record.specs.declared.record.Record.{Record}
use Rattle.pb_store_soundness.specs.Inputs.{contents, input_in, name_of}
use Rattle.pb_store_soundness.specs.Records.{ends_as_record, out_of, record_path, records}
use Rattle.pb_store.specs.Differences.{HasFiles, IsPresent, same_files}
use Rattle.pb_store.specs.Folder.{lacks_number}
use Rattle.pb_store.specs.declared.fault.OpenFault.{OpenFault}
use Rattle.pb_store.specs.declared.fault.OpenFault.TheVariants as open_fault
use Rattle.pb_store.specs.declared.fault.StoreFault.{StoreFault}
use Rattle.pb_store.specs.declared.fault.StoreFault.TheVariants.{Place, NumbersSpent, OutOfMemory}

-- How a sequence of calls ended, given the fault of the store. For a fault of the place, one of
-- these calls failed. If memory ran out, only the first n of the calls were made, for some n. No
-- other fault is possible.
abbrev pub StopsAt : StoreFault → List Call → Counts → Counts → Type 0
StopsAt (Place fault) calls old new = FailsAt fault calls old new
StopsAt NumbersSpent calls old new = ⊥
StopsAt OutOfMemory calls old new = MakesSome calls old new

-- After a success, exactly these calls were made. After an error, the first n of these calls were
-- made, for some n. The counters of a place also record the failed call.
abbrev pub Looks : {T : Type 0} → Result T StoreFault → List Call → Counts → Counts → Type 0
Looks result calls old new = MatchResult result (λ x. new ≡ past_calls calls old) (λ e. StopsAt e calls old new)

-- How a sequence of calls ended, given the fault of opening: one call failed, or memory ran out
-- after the first n calls, for some n. `OpensLooking` also covers a success.
abbrev pub OpeningStopsAt : OpenFault → List Call → Counts → Counts → Type 0
OpeningStopsAt (open_fault.Place path fault) calls old new = FailsAt fault calls old new
OpeningStopsAt open_fault.OutOfMemory calls old new = MakesSome calls old new

abbrev pub OpensLooking : {T : Type 0} → Result T OpenFault → List Call → Counts → Counts → Type 0
OpensLooking result calls old new = MatchResult result (λ x. new ≡ past_calls calls old) (λ e. OpeningStopsAt e calls old new)

-- the calls for the items of a row, item by item, up to and including the first item that differs
abbrev pub looked_up_to : {A : Type 0} → (A → Bool) → (A → List Call) → List A → List Call
looked_up_to is_same look [] = []
looked_up_to is_same look (x ∷ xs) = look x ++ (if is_same x then looked_up_to is_same look xs else [])

-- the call that reads a file of the sources; if the file is at or below the target folder, there is
-- no call
abbrev pub source_looked : List ℕ → List ℕ → List Call
source_looked target path = if is_at_or_below target path then [] else call.Read path ∷ []

-- The calls for a path without a file. The path is listed as a folder. Files at or below the target
-- folder are left out. Then each listed file is read.
abbrev pub folder_looked : List ℕ → World → List ℕ → Option (List ℕ) → List Call
folder_looked target w path (Some bytes) = []
folder_looked target w path None = call.ListOutside path target ∷ map call.Read (listed path (removed target w))

-- the calls for an input: for a path, the calls for its file or its folder; for a variable, the
-- call for its value
abbrev pub name_looked : List ℕ → World → InputName → List Call
name_looked target w (Path path) = source_looked target path ++ folder_looked target w path (finite.get (from_nothing target w).files path)
name_looked target w (Variable name) = call.Variable name ∷ []

-- two optional texts are equal
abbrev pub same_text : Option (List ℕ) → Option (List ℕ) → Bool
same_text None None = true
same_text None (Some other) = false
same_text (Some text) None = false
same_text (Some text) (Some other) = bytes_eq text other

-- the two inputs have the same kind, the same name and the same value
abbrev pub same_input : Input → Input → Bool
same_input (File path bytes) (File other others) = bytes_eq path other && bytes_eq bytes others
same_input (File path bytes) (Tree other others) = false
same_input (File path bytes) (Value other text) = false
same_input (Tree path files) (File other others) = false
same_input (Tree path files) (Tree other others) = bytes_eq path other && same_files files others
same_input (Tree path files) (Value other text) = false
same_input (Value name text) (File other others) = false
same_input (Value name text) (Tree other others) = false
same_input (Value name text) (Value other second) = bytes_eq name other && same_text text second

-- the recorded value of the input is its value in this world
unfoldable pub is_present : List ℕ → World → Input → Bool
is_present target w i = same_input (input_in target w (name_of i)) i

-- the calls for the inputs of a record, input by input, up to and including the first input whose
-- value has changed
abbrev pub inputs_looked : List ℕ → World → List Input → List Call
inputs_looked target w inputs = looked_up_to (is_present target w) (λ i. name_looked target w (name_of i)) inputs

-- The calls for a unit if the record has copies of the unit's files. The unit's folder is listed,
-- and then each file there is read. If the record does not name the unit by a relative path, no
-- call is made.
abbrev pub out_looked : List ℕ → World → List ℕ → List Call
out_looked folder w key = if is_relative key then call.List (out_of folder key) ∷ map call.Read (listed (out_of folder key) w) else []

-- the needed unit has exactly the files of which the record has copies
unfoldable pub has_files : List ℕ → Map → List ℕ × List (List ℕ × List ℕ) → Bool
has_files folder files need = is_relative need.0 && same_files (contents (out_of folder need.0) files) need.1

-- a record has copies of the files of some units; the calls for these units, unit by unit, up to
-- and including the first unit that differs
abbrev pub copies_looked : List ℕ → World → List (List ℕ × List (List ℕ × List ℕ)) → List Call
copies_looked folder w copies = looked_up_to (has_files folder w.files) (λ need. out_looked folder w need.0) copies

-- The calls for the needed units of a record. Units that the record names by number need no call,
-- because the store has their numbers.
abbrev pub needed_looked : List ℕ → World → Needed → List Call
needed_looked folder w (Copies copies) = copies_looked folder w copies
needed_looked folder w (Numbers number needs) = []

-- The calls for a record whose command does not differ. The calls for the record's inputs come
-- first. If no input has changed, the calls for the needed units follow.
unfoldable pub around_looked : List ℕ → List ℕ → World → Record → List Call
around_looked folder target w r = inputs_looked target w r.inputs ++ (if list_all (is_present target w) r.inputs then needed_looked folder w r.needed else [])

abbrev pub same_texts : List (List ℕ) → List (List ℕ) → Bool
same_texts texts others = pointwise (pointwise ◌==◌) texts others

-- the command is equal to the recorded command, part by part and variable by variable
unfoldable pub is_asked : RecordedCommand → commands.Command → Bool
is_asked a c = bytes_eq a.program c.program && (same_texts a.words c.words && (bytes_eq a.folder c.folder && (same_text (Some a.out) c.out && (bytes_eq a.target c.target && (bytes_eq a.toolchain c.toolchain && (same_texts a.reads c.reads && same_files a.pairs c.pairs))))))

-- the calls for a record; if the record's command differs, no calls are made
unfoldable pub from_looked : List ℕ → commands.Command → World → Record → List Call
from_looked folder c w r = if is_asked r.asked c then around_looked folder c.target w r else []

-- the calls for a unit: the unit's record is read, and if the record counts, the calls for the
-- record follow
unfoldable pub unit_looked : List ℕ → List ℕ → commands.Command → World → List Call
unit_looked folder key c w = call.Read (record_path folder key) ∷ option_map_or (from_looked folder c w) (records folder w key) []

-- the calls that read those of the listed files that have the name of a record, in the order of the
-- list
abbrev pub records_looked : List (List ℕ) → List Call
records_looked paths = map call.Read (filter ends_as_record paths)

-- The calls that open a store. The files directly in the store's folder are listed. Then each
-- record among these files is read, in the listed order.
abbrev pub opened_looked : List ℕ → World → List Call
opened_looked folder w = call.ListDirectly folder ∷ records_looked (listed_directly folder w)

-- the calls for inputs with these names, in the order of the names
abbrev pub names_looked : List ℕ → World → List InputName → List Call
names_looked target w names = looked_up_to (λ name. true) (name_looked target w) names

-- the calls that keep a record: the calls for the record's inputs, and then the call that writes
-- the record
abbrev pub kept_called : List ℕ → List ℕ → List ℕ → World → List InputName → List Call
kept_called folder key target w names = names_looked target w names ++ (call.Write (record_path folder key) ∷ [])

-- The calls that migrate a record. The record's file is read. If the record counts and has no
-- number, the record's file is written again.
abbrev pub migrated_called : List ℕ → List ℕ → World → List Call
migrated_called folder key w = call.Read (record_path folder key) ∷ (if lacks_number (records folder w key) then call.Write (record_path folder key) ∷ [] else [])

-- Either the calls of the first list were made, and then no run number was left. Or the calls of
-- the second list were made, as `Looks` states.
abbrev pub LooksOrSpent : {T : Type 0} → Result T StoreFault → List Call → List Call → Counts → Counts → Type 0
LooksOrSpent result first calls old new = ((result ≡ Err NumbersSpent) × (new ≡ past_calls first old)) ⊎ Looks result calls old new

-- The store has tests that compare the values of inputs, the files of needed units, and the
-- command. These tests agree with the definitions of differences.
pub record TestsDecide : Type 0 where
  pub input : (target : List ℕ) (w : World) (i : Input) → Decides (is_present target w i) (IsPresent target w i)
  pub copies : (folder : List ℕ) (files : Map) (need : List ℕ × List (List ℕ × List ℕ)) → Decides (has_files folder files need) (HasFiles folder files need)
  pub command : (a : RecordedCommand) (c : commands.Command) → Decides (is_asked a c) (command_of a ≡ c)
