-- What is noted of units that have not begun, along a story.
use Rattle.std.proofs.Common.{◌≡◌, ◌≢◌, ◌∙◌, ◌<◌, inl, inr, Bool, List, [], ◌∷◌, ℕ, zero, suc, map, length, None, Some, Option, is_some, ap, arith, refl, sym, subst, slice_get}
use Rattle.std.specs.Prelude.{slice_set}
use Rattle.std.proofs.lemmas.Bool.{cases_eq}
use Rattle.pb_build_result.specs.declared.bad_unit.BadUnit.{BadUnit}
use Rattle.pb_run_flight.specs.declared.flight.Answer.{Answer}
use Rattle.pb_run_flight.specs.declared.flight.State.{State}
use Rattle.pb_run_flight.specs.declared.flight.State.TheVariants.{Untouched, Begun, Answered}
use Rattle.pb_run_flight.specs.Events.{Event, Began, Gave}
use Rattle.pb_run_flight.proofs.Lists.{get_set_other}
use Rattle.pb_command_types.specs.declared.project.Project.{Project}
use Rattle.pb_store.specs.declared.difference.Difference.{Difference}
use Rattle.pb_build_turns.specs.Rows.{Reasons, is_started}
use Rattle.pb_build_turns.specs.History.{states_in, NotesUnbegun, NotesStarted}
use Rattle.pb_build_turns.proofs.Happening.{started_now, started_other}
use Rattle.pb_build_turns.proofs.Lists.{get_set_within}
use Rattle.pb_build_turns.proofs.States.{untouched_cases}
use Rattle.pb_unit.specs.declared.plan.Planned.{Planned}

-- one more has begun, of which something is noted
pub notes_begun : (project : Project) (es : List (Event BadUnit)) (first old now : Reasons) (unit : ℕ) (spawned : Bool) (reason : Option (Option Difference)) → slice_get (states_in project es) unit ≡ Some Untouched → now ≡ slice_set old unit reason
    → NotesUnbegun project es first old → NotesUnbegun project (Began unit spawned ∷ es) first now
notes_begun project es first old now unit spawned reason there is notes index at =
    let (ne, before) = untouched_cases (states_in project es) unit index Untouched Begun there refl at in
    ap (λ (reasons : Reasons). slice_get reasons index) is ∙ (get_set_other old unit index reason ne ∙ notes index before)

pub started_begun : (project : Project) (es : List (Event BadUnit)) (old now : Reasons) (unit : ℕ) (spawned : Bool) (d : Option Difference) → unit < length old → is_some d ≡ spawned → now ≡ slice_set old unit (Some d)
    → NotesStarted project es old → NotesStarted project (Began unit spawned ∷ es) now
started_begun project es old now unit spawned d within its is notes index s at ne = elim (cases_eq unit index) [
  | inl same ↦ (
    d,
    ap (λ (reasons : Reasons). slice_get reasons index) is ∙ subst (λ n. slice_get (slice_set old unit (Some d)) n ≡ Some (Some d)) same (get_set_within old unit (Some d) within),
    its ∙ sym (ap (is_started (Began unit spawned ∷ es)) (sym same) ∙ started_now es unit spawned),
  )
  | inr apart ↦
      let (e, there, so) = notes index s (sym (get_set_other (states_in project es) unit index Begun apart) ∙ at) ne in
      (e, ap (λ (reasons : Reasons). slice_get reasons index) is ∙ (get_set_other old unit index (Some d) apart ∙ there), so ∙ sym (started_other es unit index spawned apart))
]

-- one in flight has answered
pub notes_answered : (project : Project) (es : List (Event BadUnit)) (first now : Reasons) (unit : ℕ) (answer : Answer BadUnit) → slice_get (states_in project es) unit ≡ Some Begun
    → NotesUnbegun project es first now → NotesUnbegun project (Gave unit answer ∷ es) first now
notes_answered project es first now unit answer there notes index at =
    let (ne, before) = untouched_cases (states_in project es) unit index Begun (Answered answer) there refl at in
    notes index before

has_begun : (s : State BadUnit) → s ≡ Begun → s ≢ Untouched
has_begun s is none = cc

pub started_answered : (project : Project) (es : List (Event BadUnit)) (now : Reasons) (unit : ℕ) (answer : Answer BadUnit) → slice_get (states_in project es) unit ≡ Some Begun
    → NotesStarted project es now → NotesStarted project (Gave unit answer ∷ es) now
started_answered project es now unit answer there notes index s at ne = elim (cases_eq unit index) [
  | inl same ↦ notes index Begun (ap (slice_get (states_in project es)) (sym same) ∙ there) (has_begun Begun refl)
  | inr apart ↦ notes index s (sym (get_set_other (states_in project es) unit index (Answered answer) apart) ∙ at) ne
]

-- nothing is noted at first
pub none_noted : (units : List Planned) (index : ℕ) → index < length units → slice_get (map {B = Option (Option Difference)} (λ (u : Planned). None) units) index ≡ Some None
none_noted [] index less = absurd (omega (arith, less))
none_noted (u ∷ us) zero less = refl
none_noted (u ∷ us) (suc index) less = none_noted us index (omega (arith, less))
