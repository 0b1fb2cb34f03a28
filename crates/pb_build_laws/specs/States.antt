-- The states of a build's units, and the names of the units.
use Rattle.std.specs.Prelude.{◌≡◌, ◌↔◌, ◌+◌, ℕ, Bool, true, false, if◌then◌else◌, is_some, List, map, None, Some, slice_get}
use Rattle.std.specs.List.{prefix_len}
use Rattle.std.specs.Option.{option_map_or, option_to_list}
use Rattle.pb_build_result.specs.declared.bad_unit.BadUnit.{BadUnit}
use Rattle.pb_run_flight.specs.Table.{count_due, is_bad, is_finished, is_good_at, is_untouched}
use Rattle.pb_run_flight.specs.declared.flight.Answer.{Answer}
use Rattle.pb_run_flight.specs.declared.flight.State.{State}
use Rattle.pb_run_flight.specs.declared.flight.State.TheVariants.{Untouched, Answered}
use Rattle.pb_command_types.specs.Targets.{unit_at}
use Rattle.pb_command_types.specs.declared.project.Project.{Project}
use Rattle.pb_run.specs.UnitSteps.{key_at}
use Rattle.pb_run.specs.Outcome.{Outcome}
use Rattle.pb_build_turns.specs.Rows as rows
use Rattle.pb_build_turns.specs.Rows.{fault_in}
use Rattle.pb_unit.specs.declared.plan.Planned.{Planned}

-- the unit has answered, with a fault if `bad` is true, and without a fault if `bad` is false
abbrev pub HasAnswered : State BadUnit → Bool → Type 0
HasAnswered s bad = (answer : Answer BadUnit) × (s ≡ Answered answer) × (is_some answer.fault ≡ bad)

-- A unit has not begun if and only if it is untouched. A unit is bad if and only if it has answered
-- with a fault. A unit is good if and only if it has answered without a fault. An index without a
-- unit is not good.
abbrev pub StatesAreThese : Type 0
StatesAreThese = (is_good_at {F = BadUnit} None ≡ false)
    × ((s : State BadUnit) → ((is_untouched s ≡ true) ↔ (s ≡ Untouched)) × ((is_bad s ≡ true) ↔ HasAnswered s true) × ((is_good_at (Some s) ≡ true) ↔ HasAnswered s false))

-- Take the first unit, in plan order, that is not good. The lines of all units before that unit are
-- due. If the unit itself is bad, its lines are due, too. The build is finished if this unit is
-- bad, or if all units are good.
abbrev pub EndsAreThese : Type 0
EndsAreThese = (states : List (State BadUnit)) → let first = prefix_len (λ s. is_good_at (Some s)) states in
    (count_due states ≡ first + (if option_map_or is_bad (slice_get states first) false then 1 else 0)) × (is_finished states ≡ option_map_or is_bad (slice_get states first) true)

-- If there is a unit at an index, the key at this index is the unit's key. An outcome is bad if and
-- only if it has a fault.
abbrev pub RowsAreThese : Type 0
RowsAreThese = ((project : Project) (index : ℕ) → key_at project index ≡ map (λ (u : Planned). u.key) (option_to_list (unit_at project index))) × ((o : Outcome) → rows.is_bad o ≡ is_some (fault_in o))
