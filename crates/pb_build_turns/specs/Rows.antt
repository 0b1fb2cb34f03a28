-- The outcomes of a build's units, one after another in plan order, and what a build reports about
-- the units.
use Rattle.std.specs.Prelude.{ℕ, suc, Bool, true, false, ◌==◌, ◌+◌, List, [], ◌∷◌, ◌++◌, length, take, Option, Some, None, if◌then◌else◌, slice_get, is_none}
use Rattle.std.specs.List.{flat_map}
use Rattle.pb_build_result.specs.declared.bad_unit.BadUnit.{BadUnit}
use Rattle.pb_build_result.specs.declared.summary.Summary.{Summary}
use Rattle.pb_directive.specs.declared.directive.Directive.{Directive}
use Rattle.pb_run_flight.specs.Events.{Event, Began, Gave, started_by}
use Rattle.pb_run_flight.specs.declared.flight.State.{State}
use Rattle.pb_run_flight.specs.declared.flight.State.TheVariants.{Untouched, Begun, Answered}
use Rattle.pb_message.specs.declared.message.Message.{Message}
use Rattle.pb_place_types.specs.World.{World, Answers}
use Rattle.pb_command_types.specs.Targets.{unit_at}
use Rattle.pb_command_types.specs.declared.fault.UnitFault.{UnitFault}
use Rattle.pb_command_types.specs.declared.project.Project.{Project}
use Rattle.pb_command_types.specs.declared.project.Setup.{Setup}
use Rattle.pb_run.specs.UnitSteps.{key_in}
use Rattle.pb_run.specs.Outcome.{Outcome, Waiting, Good, Bad, outcomes, directives_in}
use Rattle.pb_store.specs.declared.difference.Difference.{Difference}
use Rattle.pb_unit.specs.declared.plan.Planned.{Planned}
use Rattle.pb_message_units.specs.Telling.{unit_lines}

-- a unit of the build with its outcome
pub record Row : Type 0 where
  pub unit : Planned
  pub outcome : Outcome

abbrev pub is_bad : Outcome → Bool
is_bad Waiting = false
is_bad (Good files directives messages) = false
is_bad (Bad bad messages) = true

-- the units with their outcomes, in plan order, up to and including the first bad unit
abbrev pub to_first_bad : List Planned → List Outcome → List Row
to_first_bad [] os = []
to_first_bad (u ∷ us) [] = []
to_first_bad (u ∷ us) (o ∷ os) = record { unit = u; outcome = o } ∷ (if is_bad o then [] else to_first_bad us os)

abbrev pub rows_of : Answers → Setup → Project → World → List Row
rows_of child setup project sources = to_first_bad project.plan.planned (outcomes child setup project sources)

-- What a build reports about these units.

abbrev pub messages_in : Outcome → List Message
messages_in Waiting = []
messages_in (Good files directives messages) = messages
messages_in (Bad bad messages) = messages

abbrev pub fault_in : Outcome → Option BadUnit
fault_in Waiting = None
fault_in (Good files directives messages) = None
fault_in (Bad bad messages) = Some bad

-- the unit at this index has begun with a child
abbrev pub is_started : List (Event BadUnit) → ℕ → Bool
is_started [] index = false
is_started (Began unit spawned ∷ es) index = if unit == index then spawned else is_started es index
is_started (Gave unit answer ∷ es) index = is_started es index

-- The lines of these units, one unit after another; the first unit has the index `i`. Each line
-- says whether a child was started for the line's unit.
abbrev pub said_from : Project → List (Event BadUnit) → ℕ → List Row → List ℕ
said_from project es i [] = []
said_from project es i (row ∷ rows) = unit_lines project row.unit (is_started es i) (messages_in row.outcome) ++ said_from project es (suc i) rows

abbrev pub keyed : List ℕ → Option (List Directive) → List (List ℕ × List Directive)
keyed key None = []
keyed key (Some directives) = (key, directives) ∷ []

-- the keys and the directives of the runs among these units
abbrev pub directives_told : List Row → List (List ℕ × List Directive)
directives_told [] = []
directives_told (row ∷ rows) = keyed row.unit.key (directives_in row.outcome) ++ directives_told rows

abbrev pub bad_or : List ℕ → Outcome → Option (List ℕ × BadUnit) → Option (List ℕ × BadUnit)
bad_or key Waiting rest = rest
bad_or key (Good files directives messages) rest = rest
bad_or key (Bad bad messages) rest = Some (key, bad)

-- the key of the first bad unit, and why this unit is bad
abbrev pub bad_of : List Row → Option (List ℕ × BadUnit)
bad_of [] = None
bad_of (row ∷ rows) = bad_or row.unit.key row.outcome (bad_of rows)

abbrev pub is_success : Option (List ℕ × BadUnit) → Bool
is_success None = true
is_success (Some bad) = false

-- the keys of the units for which a child was started, in the order of these starts
abbrev pub started_keys : Project → List (Event BadUnit) → List (List ℕ)
started_keys project es = flat_map (λ index. key_in (unit_at project index)) (started_by es)

-- The key and the fault of a bad unit. `said_told` is what the unit's child printed.
abbrev pub key_told : Option (List ℕ × BadUnit) → Option (List ℕ × UnitFault)
key_told None = None
key_told (Some bad) = Some (bad.0, bad.1.fault)

abbrev pub said_told : Option (List ℕ × BadUnit) → List ℕ
said_told None = []
said_told (Some bad) = bad.1.said

-- For each unit, a note of its first difference. A unit has no note before it begins. The note of
-- any other unit has a difference, or says that nothing differed.
abbrev pub Reasons : Type 0
Reasons = List (Option (Option Difference))

-- the first difference of a unit, if a difference is noted
abbrev pub difference_in : Option (Option (Option Difference)) → List Difference
difference_in None = []
difference_in (Some None) = []
difference_in (Some (Some None)) = []
difference_in (Some (Some (Some difference))) = difference ∷ []

-- the first differences of the units for which a child was started, in the order of these starts
abbrev pub differences_of : List (Event BadUnit) → Reasons → List Difference
differences_of es reasons = flat_map (λ index. difference_in (slice_get reasons index)) (started_by es)

abbrev pub kept_key : List ℕ → Option (Option Difference) → List (List ℕ)
kept_key key None = []
kept_key key (Some None) = key ∷ []
kept_key key (Some (Some difference)) = []

-- the keys, in plan order, of those units that have begun without a difference from their record
abbrev pub kept_of : List Planned → Reasons → List (List ℕ)
kept_of [] reasons = []
kept_of (u ∷ us) [] = []
kept_of (u ∷ us) (reason ∷ reasons) = kept_key u.key reason ++ kept_of us reasons

abbrev pub summary_of : Project → List (Event BadUnit) → Reasons → List Row → Summary
summary_of project es reasons rows = record {
  success = is_success (bad_of rows);
  bad = key_told (bad_of rows);
  said = said_told (bad_of rows);
  started = started_keys project es;
  differences = differences_of es reasons;
  kept = kept_of project.plan.planned reasons;
  directives = directives_told rows;
}

-- What a build reports, made from the units' states instead of their outcomes. These definitions
-- also work over a place that is not modelled.

abbrev pub fault_of : State BadUnit → Option BadUnit
fault_of Untouched = None
fault_of Begun = None
fault_of (Answered answer) = answer.fault

abbrev pub with_key : List ℕ → Option BadUnit → Option (List ℕ × BadUnit)
with_key key None = None
with_key key (Some fault) = Some (key, fault)

abbrev pub bad_with : Option Planned → Option (State BadUnit) → Option (List ℕ × BadUnit)
bad_with None s = None
bad_with (Some u) None = None
bad_with (Some u) (Some s) = with_key u.key (fault_of s)

-- the key of the unit at this index, and why it is bad
abbrev pub bad_told : List Planned → List (State BadUnit) → Option ℕ → Option (List ℕ × BadUnit)
bad_told units states None = None
bad_told units states (Some index) = bad_with (slice_get units index) (slice_get states index)

-- the keys of those units that have noted directives, each with the unit's directives
abbrev pub noted_of : List Planned → List (Option (List Directive)) → List (List ℕ × List Directive)
noted_of [] noted = []
noted_of (u ∷ us) [] = []
noted_of (u ∷ us) (d ∷ noted) = keyed u.key d ++ noted_of us noted

-- The number of reported units. If a bad unit has this index, the units up to and including the bad
-- unit are reported. Without an index, all units are reported.
abbrev pub count_told : ℕ → Option ℕ → ℕ
count_told units None = units
count_told units (Some index) = index + 1

-- The noted directives of the reported units. `count_told` is the number of these units.
abbrev pub noted_told : List Planned → List (Option (List Directive)) → Option ℕ → List (List ℕ × List Directive)
noted_told units noted bad = noted_of (take (count_told (length units) bad) units) (take (count_told (length units) bad) noted)

-- the keys of the units at these indices
abbrev pub keys_at : List Planned → List ℕ → List (List ℕ)
keys_at units indices = flat_map (λ index. key_in (slice_get units index)) indices

-- the first differences of the units at these indices, if they are noted
abbrev pub differences_at : Reasons → List ℕ → List Difference
differences_at reasons indices = flat_map (λ index. difference_in (slice_get reasons index)) indices

abbrev pub summary_by : List Planned → List (State BadUnit) → List (Option (List Directive)) → List ℕ → Reasons → Option ℕ → Summary
summary_by units states noted started reasons bad = record {
  success = is_none (bad_told units states bad);
  bad = key_told (bad_told units states bad);
  said = said_told (bad_told units states bad);
  started = keys_at units started;
  differences = differences_at reasons started;
  kept = kept_of units reasons;
  directives = noted_told units noted bad;
}
