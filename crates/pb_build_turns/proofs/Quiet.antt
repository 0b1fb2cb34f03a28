-- As long as no child is started, the world is as at first.
use Rattle.std.proofs.Common.{◌≡◌, ◌∙◌, ◌++◌, Bool, true, false, List, [], ◌∷◌, ℕ, Option, Some, None, IsTrue, if◌then◌else◌, ◌==◌, refl, sym, ap, is_some, slice_get}
use Rattle.std.proofs.lemmas.Bool.{false≢true}
use Rattle.pb_run_flight.specs.declared.flight.Answer.{Answer}
use Rattle.pb_run_flight.specs.Events.{Event, Began, Gave, started_by}
use Rattle.pb_place_types.specs.World.{World, Answers}
use Rattle.pb_command_types.specs.Targets.{unit_at}
use Rattle.pb_build_result.specs.declared.bad_unit.BadUnit.{BadUnit}
use Rattle.pb_command_types.specs.declared.project.Project.{Project}
use Rattle.pb_run.specs.UnitSteps.{child_of}
use Rattle.pb_run.specs.Invariants.{records_folder}
use Rattle.pb_run.specs.declared.begun.Begun.{Begun as unit_begun}
use Rattle.pb_run.specs.declared.begun.SpawnedChild.{SpawnedChild}
use Rattle.pb_store_soundness.specs.Records.{records}
use Rattle.pb_store.specs.Folder.{lacks_number}
use Rattle.pb_build_turns.specs.Executor.{BuildState}
use Rattle.pb_build_turns.specs.Rows.{is_started}
use Rattle.pb_build_turns.specs.History.{FliesIn, IsQuiet, History}
use Rattle.pb_build_turns.specs.declared.executor.RunningUnit.{RunningUnit}
use Rattle.pb_build_turns.specs.declared.executor.UnitExecutor.{UnitExecutor}
use Rattle.pb_build_turns.proofs.Lists.{all_get}
use Rattle.pb_unit.specs.declared.plan.Planned.{Planned}

-- Lists that are empty.

left_none : {A : Type 0} (xs ys : List A) → xs ++ ys ≡ [] → xs ≡ []
left_none [] ys none = refl
left_none (x ∷ xs) ys none = cc

some_last : {A : Type 0} (xs : List A) (x : A) → xs ++ x ∷ [] ≡ [] → ⊥
some_last [] x none = cc
some_last (y ∷ xs) x none = cc

-- where no child was started, none was for any unit
pub none_started : (es : List (Event BadUnit)) (index : ℕ) → started_by es ≡ [] → is_started es index ≡ false
none_started [] index none = refl
none_started (Began unit true ∷ es) index none = absurd (some_last (started_by es) unit none)
none_started (Began unit false ∷ es) index none = both (unit == index) (is_started es index) (none_started es index (left_none (started_by es) [] none))
  where
    both : (b c : Bool) → c ≡ false → (if b then false else c) ≡ false
    both true c is = refl
    both false c is = is
none_started (Gave unit answer ∷ es) index none = none_started es index none

-- A unit begins.

quiet_begun : (project : Project) (es : List (Event BadUnit)) (first w w' : World) (unit : ℕ) (o : Option SpawnedChild) → (o ≡ None → w' ≡ w) → IsQuiet project es first w → IsQuiet project (Began unit (is_some o) ∷ es) first w'
quiet_begun project es first w w' unit None same quiet = λ none numbered. same refl ∙ quiet (left_none (started_by es) [] none) numbered
quiet_begun project es first w w' unit (Some l) same quiet = λ none numbered. absurd (some_last (started_by es) unit none)

pub begun_quiet : (is_modelled : Bool) (child : Answers) (first old : UnitExecutor) (at now new : BuildState) (still : ℕ → Type 0) (es : List (Event BadUnit)) (given unit : ℕ) → History is_modelled child first at old now still es given
    → (begun : unit_begun) → (IsTrue is_modelled → (child_of begun) ≡ None → new.world ≡ now.world) → IsTrue is_modelled → IsQuiet old.project (Began unit (is_some (child_of begun)) ∷ es) at.world new.world
begun_quiet is_modelled child first old at now new still es given unit story begun same t = quiet_begun old.project es at.world now.world new.world unit (child_of begun) (same t) (story.quiet t)

-- A unit answers.

module _ (project : Project) (es : List (Event BadUnit)) (first w w' : World) (index : ℕ) (u : Planned) (there : unit_at project index ≡ Some u) where
  quiet_answered : (o : Option SpawnedChild) → is_started es index ≡ is_some o → (o ≡ None → lacks_number (records (records_folder project) w u.key) ≡ false → w' ≡ w) → IsQuiet project es first w → IsQuiet project es first w'
  quiet_answered None started same quiet = λ none numbered.
      let as_first = quiet none numbered in
      same refl (ap (λ (v : World). lacks_number (records (records_folder project) v u.key)) as_first ∙ numbered index u there) ∙ as_first
  quiet_answered (Some l) started same quiet = λ none numbered. absurd (false≢true (sym (none_started es index none) ∙ started))

pub answered_quiet : (is_modelled : Bool) (child : Answers) (first old : UnitExecutor) (at now new : BuildState) (still : ℕ → Type 0) (es : List (Event BadUnit)) (given : ℕ) → History is_modelled child first at old now still es given
    → (index : ℕ) (a : RunningUnit) (u : Planned) → unit_at old.project a.unit ≡ Some u → slice_get old.running.items index ≡ Some a → (answer : Answer BadUnit)
    → (IsTrue is_modelled → (child_of a.begun) ≡ None → lacks_number (records (records_folder old.project) now.world u.key) ≡ false → new.world ≡ now.world)
    → IsTrue is_modelled → IsQuiet old.project (Gave a.unit answer ∷ es) at.world new.world
answered_quiet is_modelled child first old at now new still es given story index a u there at_index answer same t =
    let so = all_get (FliesIn old.project es now.world now.counts.starts.flying) old.running.items index a (story.changes t).flies at_index in
    quiet_answered old.project es at.world now.world new.world a.unit u there (child_of a.begun) so.started (same t) (story.quiet t)
