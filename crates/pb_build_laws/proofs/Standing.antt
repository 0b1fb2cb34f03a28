-- What is asked of where a unit stands, of its key and of its outcome is what the laws say.
use Rattle.std.proofs.Common.{◌∷◌, ◌+◌, [], suc, slice_get, arith, ◌≡◌, ◌↔◌, ◌∙◌, ℕ, true, false, List, map, Option, Some, None, is_none, is_some, refl, sym, ap}
use Rattle.std.specs.List.{prefix_len}
use Rattle.std.specs.Option.{option_map_or, option_to_list}
use Rattle.std.specs.Prelude.{if◌then◌else◌}
use Rattle.pb_build_result.specs.declared.bad_unit.BadUnit.{BadUnit}
use Rattle.pb_run_flight.specs.Table.{count_due, is_bad, is_finished, is_good, is_untouched}
use Rattle.pb_run_flight.specs.declared.flight.Answer.{Answer}
use Rattle.pb_run_flight.specs.declared.flight.State.{State}
use Rattle.pb_run_flight.specs.declared.flight.State.TheVariants.{Untouched, Begun, Answered}
use Rattle.pb_command_types.specs.Targets.{unit_at}
use Rattle.pb_run.specs.UnitSteps.{key_in}
use Rattle.pb_run.specs.Outcome.{Outcome, Waiting, Good, Bad}
use Rattle.pb_build_turns.specs.Rows as rows
use Rattle.pb_build_turns.specs.Rows.{fault_in}
use Rattle.pb_unit.specs.declared.plan.Planned.{Planned}
use Rattle.pb_build_laws.specs.States.{EndsAreThese, HasAnswered, RowsAreThese, StatesAreThese}

untouched_is : (s : State BadUnit) → (is_untouched s ≡ true) ↔ (s ≡ Untouched)
untouched_is Untouched = (λ e. refl, λ e. refl)
untouched_is Begun = (λ e. cc, λ e. cc)
untouched_is (Answered answer) = (λ e. cc, λ e. cc)

-- the fault of an answer that was given
fault_or : Option BadUnit → State BadUnit → Option BadUnit
fault_or other (Answered answer) = answer.fault
fault_or other _ = other

same_fault : (a b : Answer BadUnit) → Answered a ≡ Answered b → a.fault ≡ b.fault
unfolding fault_or
same_fault a b same = ap (fault_or None) same

bad_is : (s : State BadUnit) → (is_bad s ≡ true) ↔ HasAnswered s true
bad_is Untouched = (λ e. absurd (cc), λ h. absurd (let wrong : Untouched ≡ Answered h.0 = h.1 in cc))
bad_is Begun = (λ e. absurd (cc), λ h. absurd (let wrong : Begun ≡ Answered h.0 = h.1 in cc))
bad_is (Answered answer) = (λ e. (answer, refl, e), λ h. ap is_some (same_fault answer h.0 h.1) ∙ h.2)

none_is : (o : Option BadUnit) → is_none o ≡ true → is_some o ≡ false
none_is None e = refl
none_is (Some bad) e = absurd (cc)

is_none_so : (o : Option BadUnit) → is_some o ≡ false → is_none o ≡ true
is_none_so None e = refl
is_none_so (Some bad) e = absurd (cc)

good_is : (s : State BadUnit) → (is_good s ≡ true) ↔ HasAnswered s false
good_is Untouched = (λ e. absurd (cc), λ h. absurd (let wrong : Untouched ≡ Answered h.0 = h.1 in cc))
good_is Begun = (λ e. absurd (cc), λ h. absurd (let wrong : Begun ≡ Answered h.0 = h.1 in cc))
good_is (Answered answer) = (λ e. (answer, refl, none_is answer.fault e), λ h. is_none_so answer.fault (ap is_some (same_fault answer h.0 h.1) ∙ h.2))

pub states_are_these : StatesAreThese
states_are_these = (refl, λ s. (untouched_is s, bad_is s, good_is s))

-- what is due, and the end

abbrev first_open : List (State BadUnit) → ℕ
first_open states = prefix_len is_good states

abbrev Ends : List (State BadUnit) → Type 0
Ends states = (count_due states ≡ first_open states + (if option_map_or is_bad (slice_get states (first_open states)) false then 1 else 0)) × (is_finished states ≡ option_map_or is_bad (slice_get states (first_open states)) true)

ends_by : (fault : Option BadUnit) (lines : List ℕ) (ss : List (State BadUnit)) → Ends ss → Ends (Answered (record { fault = fault; lines = lines }) ∷ ss)
ends_by (Some bad) lines ss rest = (refl, refl)
ends_by None lines ss rest =
    let answer : State BadUnit = Answered (record { fault = None; lines = lines }) in
    let one : 1 + first_open ss ≡ suc (first_open ss) = omega arith in
    let more : ℕ = if option_map_or is_bad (slice_get ss (first_open ss)) false then 1 else 0 in
    let count : suc (count_due ss) ≡ (1 + first_open ss) + more = let due : count_due ss ≡ first_open ss + more = rest.0 in omega arith in (
      count ∙ ap (λ n. (1 + first_open ss) + (if option_map_or is_bad (slice_get (answer ∷ ss) n) false then 1 else 0)) (sym one),
      rest.1 ∙ ap (λ n. option_map_or is_bad (slice_get (answer ∷ ss) n) true) (sym one),
    )

ends_are : (states : List (State BadUnit)) → Ends states
ends_are (Answered answer ∷ ss) = ends_by answer.fault answer.lines ss (ends_are ss)
ends_are _ = (refl, refl)

pub ends_are_these : EndsAreThese
ends_are_these states = ends_are states

-- keys and outcomes

key_is : (u : Option Planned) → key_in u ≡ map (λ (u : Planned). u.key) (option_to_list u)
key_is None = refl
key_is (Some u) = refl

fault_is : (o : Outcome) → rows.is_bad o ≡ is_some (fault_in o)
fault_is Waiting = refl
fault_is (Good files directives messages) = refl
fault_is (Bad bad messages) = refl

pub rows_are_these : RowsAreThese
rows_are_these = (λ project index. key_is (unit_at project index), fault_is)
