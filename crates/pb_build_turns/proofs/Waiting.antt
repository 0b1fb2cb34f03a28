-- Units in flight for which no child was started wait for what their records gave at first.
use Rattle.std.proofs.Common.{◌≡◌, ◌≢◌, ◌∙◌, inl, inr, not, Bool, false, true, List, ◌∷◌, ℕ, Option, Some, None, is_some, Result, refl, sym, ap, subst, slice_get}
use Rattle.std.proofs.lemmas.Bool.{cases_eq, false≢true}
use Rattle.std.specs.FinMap as finite
use Rattle.pb_build_result.specs.declared.bad_unit.BadUnit.{BadUnit}
use Rattle.pb_directive.specs.declared.directive.Directive.{Directive}
use Rattle.pb_run_flight.specs.declared.flight.Answer.{Answer}
use Rattle.pb_run_flight.specs.declared.flight.State.TheVariants.{Untouched, Begun, Answered}
use Rattle.pb_run_flight.specs.Events.{Event, Began, Gave}
use Rattle.pb_run_flight.proofs.Lists.{clash, get_set_other, get_set_same, injective}
use Rattle.pb_place_types.specs.Counts.{Counts}
use Rattle.pb_place_types.specs.Paths.{is_at_or_below}
use Rattle.pb_place_types.specs.World.{World, ChangesOnly}
use Rattle.pb_place_types.specs.declared.command.Command.{Command}
use Rattle.pb_place_types.specs.declared.command.Ended.{Ended}
use Rattle.pb_place_types.specs.declared.place.StartFault.{StartFault}
use Rattle.pb_place_types.proofs.Within.{share_no_path}
use Rattle.pb_command_types.specs.declared.project.Project.{Project}
use Rattle.pb_command_types.specs.declared.project.Setup.{Setup}
use Rattle.pb_command_types.specs.Targets.{unit_at}
use Rattle.pb_run.specs.UnitSteps.{awaits_number, child_in}
use Rattle.pb_run.specs.Running.{EndsBy}
use Rattle.pb_run.specs.Invariants.{IsInOrder, records_folder}
use Rattle.pb_run.specs.declared.begun.Awaited.{Awaited}
use Rattle.pb_run.specs.declared.begun.Awaited.TheVariants as awaited
use Rattle.pb_run.specs.declared.begun.SpawnedChild.{SpawnedChild}
use Rattle.pb_store_soundness.specs.Apart.{is_of}
use Rattle.pb_store_soundness.specs.Records.{out_of, record_path, reading, records}
use Rattle.pb_store_soundness.proofs.RecordPaths.{out_record_apart, record_same}
use Rattle.pb_store.specs.Folder.{lacks_number}
use Rattle.pb_store.specs.declared.replaying.Replayed.{Replayed}
use Rattle.pb_build_turns.specs.Calling.{CarriesAgain}
use Rattle.pb_build_turns.specs.Rows.{is_started}
use Rattle.pb_build_turns.specs.History.{states_in, KeepsChildless, OnlyOf}
use Rattle.pb_build_turns.proofs.Happening.{started_now, started_other}
use Rattle.pb_build_turns.proofs.Reaching.{not_of_two}
use Rattle.pb_build_turns.proofs.States.{another}
use Rattle.pb_build_turns.proofs.Staying.{record_its_own}
use Rattle.pb_unit.specs.declared.plan.Planned.{Planned}

no_child : (l : SpawnedChild) → Some l ≡ None → ⊥
no_child l e = cc

-- it answers: only its record's path may change
pub folder_answered : (project : Project) (order : IsInOrder project) (index : ℕ) (u : Planned) → unit_at project index ≡ Some u → (by : Awaited) → child_in by ≡ None → (answer : Result Ended StartFault) (well : Type 0) (still : ℕ → Type 0) (w left w' : World) (old mid : Counts)
    → EndsBy by answer well still w left old mid → ChangesOnly (is_at_or_below (record_path (records_folder project) u.key)) left w' → (q : List ℕ) → is_at_or_below u.out q ≡ true → finite.get w'.files q ≡ finite.get w.files q
folder_answered project order index u there (awaited.Child launched) none answer well still w left w' old mid ends behind q inside = absurd (no_child launched none)
folder_answered project order index u there (awaited.Record again) none answer well still w left w' old mid ends behind q inside =
    let key = order.keys index u there in
    let apart = out_record_apart (records_folder project) u.key u.key order.folder key key in
    behind.files q (share_no_path (out_of (records_folder project) u.key) (record_path (records_folder project) u.key) q apart.first apart.second apart.not_below_first apart.not_below_second
    (subst (λ (out : List ℕ). is_at_or_below out q ≡ true) (order.folders index u there) inside)) ∙ ap (λ (x : World). finite.get x.files q) ends.0

module _ (setup : Setup) (project : Project) (done : List (Option (List Directive))) (first w : World) where
  -- where its record had a number, it waits for none
  pub carries_number : (u : Planned) (c : Command) (by : Awaited) → CarriesAgain setup project done first w u c by → lacks_number (records (records_folder project) first u.key) ≡ false → awaits_number by ≡ false
  carries_number u c (awaited.Child launched) carries numbered = refl
  carries_number u c (awaited.Record again) carries numbered = ap (λ (x : Replayed). not x.numbered) carries.gives ∙ (sym (ap lacks_number carries.here) ∙ numbered)

  -- where it lacked one, it waits for one, and its record lacks it still
  pub carries_none : (u : Planned) (c : Command) (by : Awaited) → is_some (child_in by) ≡ false → CarriesAgain setup project done first w u c by → lacks_number (records (records_folder project) first u.key) ≡ true
      → (awaits_number by ≡ true) × (lacks_number (records (records_folder project) w u.key) ≡ true)
  carries_none u c (awaited.Child launched) none carries lacks = absurd (false≢true (sym none))
  carries_none u c (awaited.Record again) none carries lacks = (
    ap (λ (x : Replayed). not x.numbered) carries.gives ∙ (sym (ap lacks_number carries.here) ∙ lacks),
    ap lacks_number (record_same reading (records_folder project) first.files w.files u.key (carries.stays (record_path (records_folder project) u.key) (record_its_own (records_folder project) u.key))) ∙ lacks,
  )

-- While they wait, their folders and records stand as at first.

module _ (project : Project) (order : IsInOrder project) (es : List (Event BadUnit)) (first w w' : World) (unit : ℕ) (u : Planned) (there : unit_at project unit ≡ Some u) (only : ChangesOnly (is_of (records_folder project) u.key) w w') where
  -- another unit changes only what is its own
  others_stay : (index : ℕ) (v : Planned) → unit_at project index ≡ Some v → index ≢ unit → (q : List ℕ) → is_of (records_folder project) v.key q ≡ true → finite.get w'.files q ≡ finite.get w.files q
  others_stay index v at ne q inside = only.files q (not_of_two project order index unit v u at there ne q inside)

  module _ (old : KeepsChildless project es None first w) where
    -- one has begun, and nothing was changed where no child was started for it
    pub childless_begun : (spawned : Bool) → slice_get (states_in project es) unit ≡ Some Untouched → (spawned ≡ false → w' ≡ w) → OnlyOf project es first w → KeepsChildless project (Began unit spawned ∷ es) None first w'
    childless_begun spawned untouched same only_first index v q at state apart started inside = elim (cases_eq unit index) [
      | inl is ↦
          ap (λ (x : World). finite.get x.files q) (same (sym (started_now es unit spawned) ∙ ap (is_started (Began unit spawned ∷ es)) is ∙ started))
          ∙ only_first.files q (λ other x has at_x. not_of_two project order index other v x at at_x (λ e. another (states_in project es) unit other untouched has (is ∙ e)) q inside)
      | inr ne ↦
          others_stay index v at (λ e. ne (sym e)) q inside
          ∙ old index v q at (sym (get_set_other (states_in project es) unit index Begun ne) ∙ state) apart (sym (started_other es unit index spawned ne) ∙ started) inside
    ]

    -- one could not begin
    pub childless_unbegun : slice_get (states_in project es) unit ≡ Some Untouched → KeepsChildless project es None first w'
    childless_unbegun untouched index v q at state apart started inside =
        others_stay index v at (λ e. another (states_in project es) unit index untouched (Begun, state, refl) (sym e)) q inside ∙ old index v q at state apart started inside

    -- the answer of one was taken, and it gave none
    pub childless_asked : KeepsChildless project es (Some unit) first w'
    childless_asked index v q at state apart started inside = others_stay index v at (λ e. apart (ap Some (sym e))) q inside ∙ old index v q at state (λ e. clash e) started inside

    -- it has answered
    pub childless_given : (given : Answer BadUnit) → slice_get (states_in project es) unit ≡ Some Begun → KeepsChildless project (Gave unit given ∷ es) None first w'
    childless_given given begun index v q at state apart started inside = elim (cases_eq unit index) [
      | inl same ↦ absurd (not_both given (injective (sym (get_set_same (states_in project es) unit Begun (Answered given) begun) ∙ ap (slice_get (states_in project (Gave unit given ∷ es))) same ∙ state)))
      | inr ne ↦
          others_stay index v at (λ e. ne (sym e)) q inside ∙ old index v q at (sym (get_set_other (states_in project es) unit index (Answered given) ne) ∙ state) apart started inside
    ]
      where
        not_both : (a : Answer BadUnit) → Answered a ≡ Begun → ⊥
        not_both a e = cc
