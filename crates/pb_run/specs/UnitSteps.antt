-- What is true of the outside world while units of a build begin and answer. Any number of units
-- may be in flight.
use Rattle.std.specs.Prelude.{◌≡◌, ◌≢◌, ◌∷◌, [], ℕ, Bool, true, false, not, List, Option, Some, None, IfSome, slice_get, take, length}
use Rattle.std.specs.FinMap as finite
use Rattle.std.specs.List.{flat_map}
use Rattle.pb_command_arguments.specs.Externs.{reads_of}
use Rattle.pb_command.specs.Judge.{judge}
use Rattle.pb_directive.specs.declared.directive.Directive.{Directive}
use Rattle.pb_run_flight.specs.declared.flight.State.{State}
use Rattle.pb_run_flight.specs.declared.flight.State.TheVariants.{Untouched, Begun as begun_state}
use Rattle.pb_run_flight.specs.Table.{is_good_at, are_good}
use Rattle.pb_message.specs.declared.message.Message.{Message}
use Rattle.pb_place_types.specs.Children.{StandsStill, child_spawned, child_at, inside_out}
use Rattle.pb_place_types.specs.Folders.{files_in}
use Rattle.pb_place_types.specs.World.{World, Map, Answers, ChangesOnly, from_nothing, seen_by}
use Rattle.pb_place_types.specs.declared.child_in_flight.ChildInFlight.{ChildInFlight}
use Rattle.pb_place_types.specs.declared.command.Command.{Command}
use Rattle.pb_command_types.specs.Targets.{unit_at}
use Rattle.pb_build_result.specs.declared.bad_unit.BadUnit.{BadUnit}
use Rattle.pb_command_types.specs.declared.project.Project.{Project}
use Rattle.pb_command_types.specs.declared.project.Setup.{Setup}
use Rattle.pb_record.specs.declared.record.Record.{Record}
use Rattle.pb_run.specs.Outcome.{Outcome, Good, outcomes, view_of, command_after}
use Rattle.pb_run.specs.Invariants.{records_folder}
use Rattle.pb_run.specs.declared.begun.Awaited.{Awaited}
use Rattle.pb_run.specs.declared.begun.Awaited.TheVariants as awaited
use Rattle.pb_run.specs.declared.begun.Begun.{Begun}
use Rattle.pb_run.specs.declared.begun.SpawnedChild.{SpawnedChild}
use Rattle.pb_store_soundness.specs.Grounded.{RecordMap, Grounded}
use Rattle.pb_store_soundness.specs.Inputs.{IsHonest}
use Rattle.pb_store_soundness.specs.Numbers.{IsAhead, IsBefore, NoneNames}
use Rattle.pb_store_soundness.specs.Records.{number_of, reading, records}
use Rattle.pb_store_soundness.specs.Reuse.{IsSame}
use Rattle.pb_store_soundness.specs.Sound.{Sound}
use Rattle.pb_store.specs.Folder.{HasNeeds}
use Rattle.pb_store.specs.Differences.{IsReplayed}
use Rattle.pb_unit.specs.declared.plan.Planned.{Planned}

-- What a build assumes. With `TrustedRecords` the folder of records is sound and the child is
-- honest. With `NoRecords` no unit has a record when the build begins, so a unit with a record has
-- begun.
pub data Premise : Type 0 where
  TrustedRecords : Premise
  NoRecords : Premise

-- what the facts about a build refer to: the build's premise, the child, the setup, the project and
-- the sources
pub record BuildContext : Type 0 where
  pub premise : Premise
  pub child : Answers
  pub setup : Setup
  pub project : Project
  pub sources : World

abbrev pub build_context : Premise → Answers → Setup → Project → World → BuildContext
build_context premise child setup project sources = record { premise = premise; child = child; setup = setup; project = project; sources = sources }

-- the outcome that each unit has in a clean build
abbrev pub outcomes_in : BuildContext → List Outcome
outcomes_in b = outcomes b.child b.setup b.project b.sources

-- The command of the unit at an index, given the outcomes of the units before it. `view_in` is the
-- unit's view.
abbrev pub command_in : BuildContext → ℕ → Planned → Command
command_in b index u = command_after b.setup b.project (take index (outcomes_in b)) u

abbrev pub view_in : BuildContext → ℕ → Planned → World
view_in b index u = view_of (take index (outcomes_in b)) b.sources u

-- the records that count in a world, by key
abbrev pub records_in : BuildContext → World → RecordMap
records_in b w = records (records_folder b.project) w

-- Units that have answered and are good.

-- The unit at an index has a good outcome in a clean build. The unit's directives are noted, and
-- its files are in its output folder.
pub record StandsGood (b : BuildContext) (done : List (Option (List Directive))) (w : World) (index : ℕ) : Type 0 where
  pub unit : Planned
  pub there : unit_at b.project index ≡ Some unit
  pub files : Map
  pub directives : Option (List Directive)
  pub messages : List Message
  pub good : slice_get (outcomes_in b) index ≡ Some (Good files directives messages)
  pub noted : slice_get done index ≡ Some directives
  pub holds : files_in unit.out w.files ≡ files

-- The unit at an index has a grounded record with a number. The record's command reads the folders
-- that the unit reads, and nothing differs from the record.
pub record HasRecord (b : BuildContext) (w : World) (index : ℕ) : Type 0 where
  pub unit : Planned
  pub there : unit_at b.project index ≡ Some unit
  pub kept : Record
  pub here : records_in b w unit.key ≡ Some kept
  pub number : ℕ
  pub numbered : number_of kept ≡ Some number
  pub grounded : Grounded (records_in b w) unit.key number
  pub reads : kept.asked.reads ≡ reads_of b.project unit
  pub same : IsSame reading (records_folder b.project) unit.key (command_in b index unit) w kept

-- What stays true while units begin and answer.

-- The child is honest on the command of each unit, in each world that has these sources and shows
-- the child the unit's view.
abbrev pub IsHonestOnUnits : BuildContext → Type 0
IsHonestOnUnits b = (index : ℕ) (u : Planned) (w : World) → unit_at b.project index ≡ Some u → from_nothing b.project.workspace.target w ≡ b.sources
    → seen_by (command_in b index u) w ≡ view_in b index u → IsHonest judge b.child (command_in b index u) w

-- The child is honest on the units' commands, and the folder of records is sound. All run numbers
-- in the records are below the next number. Each unit that has answered and is good has its record.
pub record HoldsRecords (b : BuildContext) (states : List (State BadUnit)) (next : Option ℕ) (w : World) : Type 0 where
  pub honest : IsHonestOnUnits b
  pub sound : Sound reading judge b.child (records_folder b.project) w.files
  pub ahead : IsAhead (records_in b w) next
  pub recorded : (index : ℕ) → is_good_at (slice_get states index) ≡ true → HasRecord b w index

-- What the premise requires of the records. With `TrustedRecords`, `HoldsRecords` is true. With
-- `NoRecords`, no unit has a record before the unit begins.
abbrev pub HoldsBy : Premise → BuildContext → List (State BadUnit) → Option ℕ → World → Type 0
HoldsBy TrustedRecords b states next w = HoldsRecords b states next w
HoldsBy NoRecords b states next w = (index : ℕ) (u : Planned) → unit_at b.project index ≡ Some u → slice_get states index ≡ Some Untouched → records_in b w u.key ≡ None

-- What is true while units are in these states. There is an entry in `done` for each unit. The
-- sources are unchanged. Each good unit has its files, and reaches only good units. The records are
-- as the premise requires.
pub record BuildInvariant (b : BuildContext) (states : List (State BadUnit)) (done : List (Option (List Directive))) (next : Option ℕ) (w : World) : Type 0 where
  pub long : length done ≡ length states
  pub sources_stay : from_nothing b.project.workspace.target w ≡ b.sources
  pub good : (index : ℕ) → is_good_at (slice_get states index) ≡ true → StandsGood b done w index
  pub closed : (index : ℕ) (u : Planned) → is_good_at (slice_get states index) ≡ true → unit_at b.project index ≡ Some u → are_good states u.reaches ≡ true
  pub records : HoldsBy b.premise b states next w

-- A unit that has begun and not answered.

abbrev pub key_in : Option Planned → List (List ℕ)
key_in None = []
key_in (Some u) = u.key ∷ []

abbrev pub key_at : Project → ℕ → List (List ℕ)
key_at project index = key_in (unit_at project index)

-- the keys of the units that a unit needs, in plan order
abbrev pub needed_keys : Project → Planned → List (List ℕ)
needed_keys project u = flat_map (key_at project) u.needs

-- a unit that has begun: it has this key and this command, waits in this way, and reports no
-- difference
abbrev pub begun_with : List ℕ → Command → Awaited → Begun
begun_with key c by = record { unit = key; command = c; difference = None; awaited = by }

-- the child for which a unit waits, if the unit has a child
abbrev pub child_in : Awaited → Option SpawnedChild
child_in (awaited.Child launched) = Some launched
child_in (awaited.Record again) = None

abbrev pub child_of : Begun → Option SpawnedChild
child_of begun = child_in begun.awaited

-- the unit has no child, and the record that it replays has no run number
abbrev pub awaits_number : Awaited → Bool
awaits_number (awaited.Child launched) = false
awaits_number (awaited.Record again) = not again.numbered

-- The unit's child is in flight. The child was spawned for this command, saw this view, and found
-- its output folder empty. Neither the view nor the folder has changed since the spawn.
pub record IsInFlight (child : Answers) (c : Command) (view : World) (ticket : ℕ) (flying : List ChildInFlight) (still : ℕ → Type 0) : Type 0 where
  pub spawned : World
  pub flies : child_at ticket flying ≡ Some (child_spawned (child c) c spawned ticket)
  pub sees : seen_by c spawned ≡ view
  pub emptied : inside_out c.out spawned.files ≡ finite.empty
  pub stands : still ticket

-- A record of the unit may be kept with this number. No record counts for the unit now, and no
-- record has or names this number. This number is below the next run number. All needed units have
-- their records.
pub record AwaitsRecord (b : BuildContext) (u : Planned) (number : ℕ) (next : Option ℕ) (w : World) : Type 0 where
  pub gone : records_in b w u.key ≡ None
  pub unnamed : NoneNames (records_in b w) number
  pub needs_stand : HasNeeds (records_in b w) (records_folder b.project) (reads_of b.project u) (needed_keys b.project u) number
  pub before : IsBefore next number

abbrev pub AwaitsBy : Premise → BuildContext → Planned → ℕ → Option ℕ → World → Type 0
AwaitsBy TrustedRecords b u number next w = AwaitsRecord b u number next w
AwaitsBy NoRecords b u number next w = Unit {0}

-- the records are trusted, and nothing differs from the unit's record
abbrev pub NothingDiffers : Premise → BuildContext → Planned → Command → World → Type 0
NothingDiffers TrustedRecords b u c w = (r : Record) × IsSame reading (records_folder b.project) u.key c w r
NothingDiffers NoRecords b u c w = ⊥

-- Either the unit has a child in flight, or nothing differs from the unit's record and the unit has
-- what this record replays.
abbrev pub WaitsBy : BuildContext → Planned → Command → World → Awaited → Option ℕ → World → List ChildInFlight → (ℕ → Type 0) → Type 0
WaitsBy b u c view (awaited.Child launched) next w flying still = IsInFlight b.child c view launched.ticket flying still × AwaitsBy b.premise b u launched.number next w
WaitsBy b u c view (awaited.Record again) next w flying still = NothingDiffers b.premise b u c w × IsReplayed (records_in b w u.key) again

-- the unit at this index has begun in this way
pub record IsBegun (b : BuildContext) (index : ℕ) (begun : Begun) (next : Option ℕ) (w : World) (flying : List ChildInFlight) (still : ℕ → Type 0) : Type 0 where
  pub unit : Planned
  pub there : unit_at b.project index ≡ Some unit
  pub command : begun.command ≡ command_in b index unit
  pub waits : WaitsBy b unit begun.command (view_in b index unit) begun.awaited next w flying still

-- if the unit has a child, this child writes into this folder
abbrev pub WritesTo : List ℕ → Option SpawnedChild → List ChildInFlight → Type 0
WritesTo out None flying = Unit {0}
WritesTo out (Some launched) flying = IfSome (child_at launched.ticket flying) (λ spawned. spawned.command.out ≡ Some out)

-- Take a ticket that stood still before the step and is not the ticket of `launched`. If changes at
-- these paths cannot touch what the ticket's child sees, the ticket stands still after the step.
abbrev pub KeepsOthersStill : Option SpawnedChild → (List ℕ → Bool) → List ChildInFlight → (ℕ → Type 0) → (ℕ → Type 0) → Type 0
KeepsOthersStill launched inside flying before after =
    (ticket : ℕ) → IfSome launched (λ its. ticket ≢ its.ticket) → ((v w : World) → ChangesOnly inside v w → StandsStill ticket flying v w) → before ticket → after ticket

-- The states from which a step may start.

-- The unit at an index can begin: the unit has not begun, and reaches only units that have answered
-- and are good.
pub record CanBegin (b : BuildContext) (states : List (State BadUnit)) (done : List (Option (List Directive))) (index : ℕ) (u : Planned) (next : Option ℕ) (w : World) : Type 0 where
  pub keeps : BuildInvariant b states done next w
  pub untouched : slice_get states index ≡ Some Untouched
  pub reaches : are_good states u.reaches ≡ true

-- The unit at an index can answer: the unit has begun in this way, and reaches only good units.
pub record CanAnswer (b : BuildContext) (states : List (State BadUnit)) (done : List (Option (List Directive))) (index : ℕ) (u : Planned) (begun : Begun) (next : Option ℕ) (w : World) (flying : List ChildInFlight) (still : ℕ → Type 0) : Type 0 where
  pub keeps : BuildInvariant b states done next w
  pub state : slice_get states index ≡ Some begun_state
  pub reaches : are_good states u.reaches ≡ true
  pub begun_so : IsBegun b index begun next w flying still

-- The unit `other` is not the unit at `index`. The unit `other` has begun, and reaches only good
-- units. If both units have a child, the two children have different tickets and different run
-- numbers.
pub record BeginsApart (b : BuildContext) (states : List (State BadUnit)) (index : ℕ) (launched : Option SpawnedChild) (other : ℕ) (its : Begun) (next : Option ℕ) (w : World) (flying : List ChildInFlight) (still : ℕ → Type 0) : Type 0 where
  pub another : other ≢ index
  pub unit : Planned
  pub there : unit_at b.project other ≡ Some unit
  pub reaches : are_good states unit.reaches ≡ true
  pub tickets : (ours theirs : SpawnedChild) → launched ≡ Some ours → child_of its ≡ Some theirs → theirs.ticket ≢ ours.ticket
  pub numbers : (ours theirs : SpawnedChild) → launched ≡ Some ours → child_of its ≡ Some theirs → theirs.number ≢ ours.number
  pub begun_so : IsBegun b other its next w flying still
