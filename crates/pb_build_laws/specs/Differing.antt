-- The first difference between a unit and its record. Parts, variables, inputs and needed units are
-- compared in this order.
use Rattle.std.specs.Prelude.{◌≡◌, ◌↔◌, ℕ, List, Option, Some, None, slice_get, take}
use Rattle.std.specs.List.{AllByRecursion}
use Rattle.pb_place_types.specs.World.{World}
use Rattle.pb_place_types.specs.declared.command.Command as commands
use Rattle.pb_record.specs.Commands.{AsksAs, command_of}
use Rattle.pb_record.specs.declared.record.InputName.{InputName}
use Rattle.pb_record.specs.declared.record.Needed.TheVariants.{Copies, Numbers}
use Rattle.pb_record.specs.declared.record.Record.{Record}
use Rattle.pb_store_soundness.specs.Grounded.{RecordMap}
use Rattle.pb_store_soundness.specs.Inputs.{Agrees, name_of}
use Rattle.pb_store_soundness.specs.Records.{records}
use Rattle.pb_store.specs.Asking.{IsFirstName, SamePart, parts}
use Rattle.pb_store.specs.Differences.{FirstDifference, HasFiles, HasNumber, IsAsRecorded, IsPresent}
use Rattle.pb_store.specs.declared.difference.CommandPart.{CommandPart}
use Rattle.pb_store.specs.declared.difference.Difference.{Difference}
use Rattle.pb_store.specs.declared.difference.Difference.TheVariants.{NoRecord, Command, Pair, Input, Dependency}

-- `b` is what `told` says about the first item of the row for which `Holds` is false
abbrev pub IsFirstOf : {A B : Type 0} → (A → Type 0) → (A → B) → List A → B → Type 0
IsFirstOf {A} Holds told row b = (n : ℕ) × (here : A) × (slice_get row n ≡ Some here) × (Holds here → ⊥) × AllByRecursion Holds (take n row) × (b ≡ told here)

-- What differs. Either no record counts, or something differs, or nothing differs. Of several
-- differences, the first counts. The order is: a part of the command, a variable, an input, the run
-- number or the files of a needed unit.
pub data Differs (folder : List ℕ) (at : RecordMap) (c : commands.Command) (w : World) : Option Record → Option Difference → Type 0 where
  no_record : Differs folder at c w None (Some NoRecord)
  part : (r : Record) (p : CommandPart) (first : IsFirstOf (SamePart r.asked c) (λ p. p) parts p) → Differs folder at c w (Some r) (Some (Command p))
  variable : (r : Record) (name : List ℕ) (same : AsksAs r.asked c) (first : IsFirstName r.asked.pairs c.pairs name) → Differs folder at c w (Some r) (Some (Pair name))
  input : (r : Record) (name : InputName) (same : command_of r.asked ≡ c) (first : IsFirstOf (IsPresent c.target w) name_of r.inputs name) → Differs folder at c w (Some r) (Some (Input name))
  need : (r : Record) (same : command_of r.asked ≡ c) (inputs : Agrees c.target r.inputs w) (number : ℕ) (needs : List (List ℕ × ℕ)) (is : r.needed ≡ Numbers number needs)
      (key : List ℕ) (first : IsFirstOf (HasNumber at) (λ need. need.0) needs key) → Differs folder at c w (Some r) (Some (Dependency key))
  copied : (r : Record) (same : command_of r.asked ≡ c) (inputs : Agrees c.target r.inputs w) (copies : List (List ℕ × List (List ℕ × List ℕ))) (is : r.needed ≡ Copies copies)
      (key : List ℕ) (first : IsFirstOf (HasFiles folder w.files) (λ copy. copy.0) copies key) → Differs folder at c w (Some r) (Some (Dependency key))
  nothing : (r : Record) (is : IsAsRecorded folder at c w r) → Differs folder at c w (Some r) None

-- The first difference of a unit is as `Differs` says. The record that counts for the unit, and the
-- records of the units that it needs, determine this difference.
abbrev pub DifferencesAreThese : Type 0
DifferencesAreThese = (folder key : List ℕ) (c : commands.Command) (w : World) (found : Option Difference)
    → FirstDifference folder key c w found ↔ Differs folder (records folder w) c w (records folder w key) found
