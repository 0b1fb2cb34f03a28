-- The record of a bad unit, and of one in flight, is not kept, and nothing puts one there later.
use Rattle.std.proofs.Common.{◌≡◌, ◌≢◌, ◌∙◌, inl, inr, Bool, true, List, [], ◌∷◌, ℕ, zero, suc, Some, None, IsSome, refl, sym, ap, subst, map, slice_get}
use Rattle.std.proofs.lemmas.Bool.{cases_eq, false≢true}
use Rattle.pb_build_result.specs.declared.bad_unit.BadUnit.{BadUnit}
use Rattle.pb_run_flight.specs.declared.flight.Answer.{Answer}
use Rattle.pb_run_flight.specs.declared.flight.State.{State}
use Rattle.pb_run_flight.specs.declared.flight.State.TheVariants.{Untouched, Begun, Answered}
use Rattle.pb_run_flight.specs.Events.{Event, Began, Gave}
use Rattle.pb_run_flight.proofs.Lists.{injective, clash, get_set_same, get_set_other}
use Rattle.pb_place_types.specs.World.{World, ChangesOnly}
use Rattle.pb_command_types.specs.Targets.{unit_at}
use Rattle.pb_command_types.specs.declared.project.Project.{Project}
use Rattle.pb_run.specs.Invariants.{IsInOrder, records_folder}
use Rattle.pb_store_soundness.specs.Apart.{is_of}
use Rattle.pb_store_soundness.specs.Records.{record_path, reading}
use Rattle.pb_store_soundness.proofs.RecordPaths.{record_same}
use Rattle.pb_build_turns.specs.Executor.{needs_of}
use Rattle.pb_build_turns.specs.Rows.{is_started}
use Rattle.pb_build_turns.specs.History.{states_in, HasNoRecord, KeepsNoneOfBad, KeepsNoneInFlight}
use Rattle.pb_build_turns.proofs.Happening.{started_now, started_other}
use Rattle.pb_build_turns.proofs.Reaching.{not_of_two}
use Rattle.pb_build_turns.proofs.States.{answered_before, answered_cases}
use Rattle.pb_build_turns.proofs.Staying.{record_its_own}
use Rattle.pb_unit.specs.declared.plan.Planned.{Planned}

pub no_answer : (needs : List (List ℕ)) (index : ℕ) (answer : Answer BadUnit) → slice_get (map (λ _. Untouched) needs) index ≡ Some (Answered answer) → ⊥
no_answer [] index answer at = clash at
no_answer (n ∷ needs) zero answer at = not_both (injective at)
  where
    not_both : Untouched ≡ Answered answer → ⊥
    not_both e = cc
no_answer (n ∷ needs) (suc index) answer at = no_answer needs index answer at

-- nothing has begun
pub none_bad : (project : Project) (w : World) → KeepsNoneOfBad project [] w
none_bad project w index u answer at state bad started = absurd (no_answer (needs_of project) index answer state)

pub none_in_flight : (project : Project) (w : World) → KeepsNoneInFlight project [] None w
none_in_flight project w index u at state apart started = absurd (false≢true started)

module _ (project : Project) (order : IsInOrder project) (es : List (Event BadUnit)) (w w' : World) (unit : ℕ) (u : Planned) (there : unit_at project unit ≡ Some u) (only : ChangesOnly (is_of (records_folder project) u.key) w w') where
  -- another unit has no record, as before
  pub none_still : (index : ℕ) (v : Planned) → unit_at project index ≡ Some v → index ≢ unit → HasNoRecord project v w → HasNoRecord project v w'
  none_still index v at ne none =
      record_same reading (records_folder project) w.files w'.files v.key
      (only.files (record_path (records_folder project) v.key) (not_of_two project order index unit v u at there ne (record_path (records_folder project) v.key) (record_its_own (records_folder project) v.key))) ∙ none

  module _ (old : KeepsNoneOfBad project es w) where
    -- one has begun
    pub bad_begun : (spawned : Bool) → slice_get (states_in project es) unit ≡ Some Untouched → KeepsNoneOfBad project (Began unit spawned ∷ es) w'
    bad_begun spawned untouched index v answer at state bad started =
        let (ne, before) = answered_before (states_in project es) unit index answer Untouched untouched state in
        none_still index v at (λ e. ne (sym e)) (old index v answer at before bad (sym (started_other es unit index spawned ne) ∙ started))

    -- one that has begun and not answered did something
    pub bad_less : slice_get (states_in project es) unit ≡ Some Begun → KeepsNoneOfBad project es w'
    bad_less begun index v answer at state bad started = none_still index v at (λ e. not_both answer (injective (sym begun ∙ ap (slice_get (states_in project es)) (sym e) ∙ state))) (old index v answer at state bad started)
      where
        not_both : (a : Answer BadUnit) → Begun ≡ Answered a → ⊥
        not_both a e = cc

    -- it has answered
    pub bad_given : (given : Answer BadUnit) → slice_get (states_in project es) unit ≡ Some Begun → (IsSome given.fault → is_started es unit ≡ true → HasNoRecord project u w') → KeepsNoneOfBad project (Gave unit given ∷ es) w'
    bad_given given begun own index v answer at state bad started = elim (answered_cases (states_in project es) unit index answer given Begun begun state) [
      | inl (same, is) ↦
          subst (λ (x : Planned). HasNoRecord project x w') (injective (sym there ∙ ap (unit_at project) same ∙ at))
          (own (subst (λ (a : Answer BadUnit). IsSome a.fault) (sym is) bad) (ap (is_started es) same ∙ started))
      | inr (ne, before) ↦ none_still index v at (λ e. ne (sym e)) (old index v answer at before bad started)
    ]

  -- The same of one in flight.

  module _ (old : KeepsNoneInFlight project es None w) where
    -- one has begun, and has no record where a child was started for it
    pub flight_begun : (spawned : Bool) → slice_get (states_in project es) unit ≡ Some Untouched → (spawned ≡ true → HasNoRecord project u w') → KeepsNoneInFlight project (Began unit spawned ∷ es) None w'
    flight_begun spawned untouched own index v at state apart started = elim (cases_eq unit index) [
      | inl same ↦
          subst (λ (x : Planned). HasNoRecord project x w') (injective (sym there ∙ ap (unit_at project) same ∙ at))
          (own (sym (started_now es unit spawned) ∙ ap (is_started (Began unit spawned ∷ es)) same ∙ started))
      | inr ne ↦
          none_still index v at (λ e. ne (sym e))
          (old index v at (sym (get_set_other (states_in project es) unit index Begun ne) ∙ state) apart (sym (started_other es unit index spawned ne) ∙ started))
    ]

    -- one could not begin
    pub flight_unbegun : slice_get (states_in project es) unit ≡ Some Untouched → KeepsNoneInFlight project es None w'
    flight_unbegun untouched index v at state apart started =
        none_still index v at (λ e. not_both Untouched refl (injective (sym untouched ∙ ap (slice_get (states_in project es)) (sym e) ∙ state))) (old index v at state apart started)
      where
        not_both : (s : State BadUnit) → s ≡ Untouched → s ≡ Begun → ⊥
        not_both s is other = cc

    -- the answer of one was taken, and it gave none
    pub flight_asked : KeepsNoneInFlight project es (Some unit) w'
    flight_asked index v at state apart started = none_still index v at (λ e. apart (ap Some (sym e))) (old index v at state (λ e. clash e) started)

    -- it has answered
    pub flight_given : (given : Answer BadUnit) → slice_get (states_in project es) unit ≡ Some Begun → KeepsNoneInFlight project (Gave unit given ∷ es) None w'
    flight_given given begun index v at state apart started = elim (cases_eq unit index) [
      | inl same ↦ absurd (not_both given (injective (sym (get_set_same (states_in project es) unit Begun (Answered given) begun) ∙ ap (slice_get (states_in project (Gave unit given ∷ es))) same ∙ state)))
      | inr ne ↦ none_still index v at (λ e. ne (sym e)) (old index v at (sym (get_set_other (states_in project es) unit index (Answered given) ne) ∙ state) apart started)
    ]
      where
        not_both : (a : Answer BadUnit) → Answered a ≡ Begun → ⊥
        not_both a e = cc
