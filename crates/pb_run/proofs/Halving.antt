-- A unit that begins, in the words of its calls.
use Rattle.std.proofs.Common.{◌≡◌, ◌∙◌, ℕ, Bool, false, List, [], ◌∷◌, Option, Some, None, refl, sym, ap, subst, inl, inr, slice_get, slice_set}
use Rattle.pb_command.specs.Command.{command_of}
use Rattle.pb_command.specs.Judge.{judge}
use Rattle.pb_directive.specs.declared.directive.Directive.{Directive}
use Rattle.pb_run_flight.specs.declared.flight.State.{State}
use Rattle.pb_run_flight.specs.declared.flight.State.TheVariants.{Begun as begun_state}
use Rattle.pb_run_flight.specs.Table.{is_good_at}
use Rattle.pb_place_types.specs.Children.{StandsStill, child_at, KeepsStill, KeepsStillOutside}
use Rattle.pb_place_types.specs.Counts.{Starts}
use Rattle.pb_place_types.specs.World.{World, ChangesOnly, seen_by}
use Rattle.pb_place_types.specs.declared.child_in_flight.ChildInFlight.{ChildInFlight}
use Rattle.pb_place_types.specs.declared.command.Command.{Command}
use Rattle.pb_place_types.proofs.Folders.{only_same}
use Rattle.pb_command_types.specs.Targets.{unit_at}
use Rattle.pb_build_result.specs.declared.bad_unit.BadUnit.{BadUnit}
use Rattle.pb_command_types.specs.declared.project.Project.{Project}
use Rattle.pb_command_types.specs.declared.project.Setup.{Setup}
use Rattle.pb_record.specs.declared.record.Record.{Record}
use Rattle.pb_unit.specs.declared.plan.Planned.{Planned}
use Rattle.pb_run.specs.Steps.{StartsRise, BeginFaults}
use Rattle.pb_run.specs.UnitSteps.{BuildContext, BeginsApart, CanBegin, IsBegun, BuildInvariant, begun_with, command_in, records_in, view_in}
use Rattle.pb_run.specs.Running.{IsSpawned}
use Rattle.pb_run.specs.Invariants.{IsCommandOf, IsInOrder, records_folder}
use Rattle.pb_run.specs.declared.begun.Awaited.TheVariants as awaited
use Rattle.pb_run.specs.declared.begun.Begun.{Begun}
use Rattle.pb_run.specs.declared.begun.SpawnedChild.{SpawnedChild}
use Rattle.pb_run.specs.declared.faults.StepFault.{StepFault}
use Rattle.pb_run.specs.declared.faults.StepFault.TheVariants.{Store, Start}
use Rattle.pb_run.proofs.Answering.{reached_stand}
use Rattle.pb_run.proofs.RecordedBegin.{begun_child, begun_same, keeps_begun}
use Rattle.pb_run.proofs.RecordedOthers.{Left, flies_beside, if_records, left_dropped, stays_begun}
use Rattle.pb_run.proofs.Shown.{AllStand, commanded, sees_view}
use Rattle.pb_run.proofs.Views.{is_for}
use Rattle.pb_store_soundness.specs.Apart.{is_of}
use Rattle.pb_store_soundness.specs.Numbers.{IsAhead, after}
use Rattle.pb_store_soundness.specs.Records.{out_of, reading, records}
use Rattle.pb_store_soundness.specs.Reuse.{IsSame}
use Rattle.pb_store_soundness.specs.Sound.{Sound}
use Rattle.pb_store.specs.Folder.{Leaves, TakesNumber}
use Rattle.pb_store.specs.Differences.{IsReplayed}
use Rattle.pb_store.specs.declared.fault.StoreFault.TheVariants as store
use Rattle.pb_store.specs.declared.replaying.Replayed.{Replayed}

-- a unit's command writes into its folder
pub out_asked : (project : Project) (setup : Setup) (i : ℕ) (u : Planned) (done : List (Option (List Directive))) (c : Command) → IsInOrder project → slice_get project.plan.planned i ≡ Some u → c ≡ command_of setup project u done → c.out ≡ Some u.out
out_asked project setup i u done c order at is = ap (λ (d : Command). d.out) is ∙ (is_for setup project u done (order.packages i u at)).out

pub lies_at : (project : Project) (i : ℕ) (u : Planned) (folder : List ℕ) → IsInOrder project → slice_get project.plan.planned i ≡ Some u → folder ≡ records_folder project → u.out ≡ out_of folder u.key
lies_at project i u folder order at is = order.folders i u at ∙ sym (ap (λ f. out_of f u.key) is)

pub out_lies : (project : Project) (i : ℕ) (u : Planned) (folder : List ℕ) (c : Command) → IsInOrder project → slice_get project.plan.planned i ≡ Some u → folder ≡ records_folder project → IsCommandOf project u c → c.out ≡ Some (out_of folder u.key)
out_lies project i u folder c order at is (setup, done, asks) = out_asked project setup i u done c order at asks ∙ ap Some (lies_at project i u folder order at is)

module _ (b : BuildContext) (order : IsInOrder b.project) (i : ℕ) (u : Planned) (at : unit_at b.project i ≡ Some u) (states : List (State BadUnit)) (done : List (Option (List Directive))) (next : Option ℕ) (w : World) (can : CanBegin b states done i u next w) where
  stand : AllStand b done w u.reaches
  stand = reached_stand b order i u at states done next w can.keeps can.reaches

  pub is_command : (c : Command) → c ≡ command_of b.setup b.project u done → c ≡ command_in b i u
  is_command c is = is ∙ commanded b done w i u order at stand

  pub is_shown_view : (c : Command) → c ≡ command_of b.setup b.project u done → seen_by c w ≡ view_in b i u
  is_shown_view c is = ap (λ (d : Command). seen_by d w) (is_command c is) ∙ sees_view b done w i u order at stand can.keeps.sources_stay

  -- nothing has changed
  keeps_here : BuildInvariant b (slice_set states i begun_state) done next w
  keeps_here = keeps_begun b order states done i u at next w w (only_same _ w) can next (λ s. s) (λ a. a)

  pub keeps_same : (w' : World) → w' ≡ w → BuildInvariant b (slice_set states i begun_state) done next w'
  keeps_same w' same = subst (BuildInvariant b (slice_set states i begun_state) done next) (sym same) keeps_here

  pub begun_none : (key : List ℕ) (c : Command) (again : Replayed) (w' : World) (folder : List ℕ) (flying : List ChildInFlight) (still : ℕ → Type 0) → w' ≡ w → folder ≡ records_folder b.project → c ≡ command_of b.setup b.project u done
      → (r : Record) × IsSame reading folder u.key c w r → IsReplayed (records folder w u.key) again → IsBegun b i (begun_with key c (awaited.Record again)) next w' flying still
  begun_none key c again w' folder flying still same is_folder is found gives =
      subst (λ (v : World). IsBegun b i (begun_with key c (awaited.Record again)) next v flying still) (sym same)
      (begun_same b order states done i u at next w w (only_same _ w) can (begun_with key c (awaited.Record again)) again flying still (is_command c is) refl
      (found.0, subst (λ f. IsSame reading f u.key c w found.0) is_folder found.1)
      (subst (λ f. IsReplayed (records f w u.key) again) is_folder gives))

  -- its child was launched, or a step on the way failed
  module _ (folder : List ℕ) (is_folder : folder ≡ records_folder b.project) (w' : World) (next' : Option ℕ) (only : ChangesOnly (is_of folder u.key) w w') where
    only_its : ChangesOnly (is_of (records_folder b.project) u.key) w w'
    only_its = subst (λ f. ChangesOnly (is_of f u.key) w w') is_folder only

    pub keeps_launched : (Sound reading judge b.child folder w.files → Sound reading judge b.child folder w'.files) → (IsAhead (records folder w) next → IsAhead (records folder w') next')
        → BuildInvariant b (slice_set states i begun_state) done next' w'
    keeps_launched sound ahead = keeps_begun b order states done i u at next w w' only_its can next'
        (subst (λ f. Sound reading judge b.child f w.files → Sound reading judge b.child f w'.files) is_folder sound)
        (subst (λ f. IsAhead (records f w) next → IsAhead (records f w') next') is_folder ahead)

    pub begun_some : (key : List ℕ) (c : Command) (l : SpawnedChild) (flying : List ChildInFlight) (still : ℕ → Type 0) → c ≡ command_of b.setup b.project u done → IsSpawned (is_of folder u.key) b.child c w l.ticket flying still
        → records folder w' u.key ≡ None → next ≡ Some l.number → next' ≡ after l.number → IsBegun b i (begun_with key c (awaited.Child l)) next' w' flying still
    begun_some key c l flying still is spawned gone given then' =
        begun_child b order states done i u at next w w' only_its can (begun_with key c (awaited.Child l)) l spawned.spawned next' flying still (is_command c is) refl (is_shown_view c is)
        (subst (λ f. ChangesOnly (is_of f u.key) w spawned.spawned) is_folder spawned.only) spawned.flies spawned.emptied spawned.stands
        (subst (λ f. records f w' u.key ≡ None) is_folder gone) given then'

-- Another unit that has begun.

pub flying_begun : (next : Option ℕ) (e : StepFault) (old new : Starts) → BeginFaults next e old new → new.flying ≡ old.flying
flying_begun next (Store (store.Place fault)) old new (kind, starts) = ap (λ (s : Starts). s.flying) starts
flying_begun next (Store store.NumbersSpent) old new (spent, starts) = ap (λ (s : Starts). s.flying) starts
flying_begun next (Store store.OutOfMemory) old new may = elim may [
  | inl starts ↦ ap (λ (s : Starts). s.flying) starts
  | inr starts ↦ ap (λ (s : Starts). s.flying) starts
]
flying_begun next (Start fault) old new (kind, starts) = ap (λ (s : Starts). s.flying) starts

pub flies_lifted : (ticket t : ℕ) (old new : Starts) (f : ChildInFlight) → StartsRise ticket old new → child_at t old.flying ≡ Some f → child_at t new.flying ≡ Some f
flies_lifted ticket t old new f lifted there = ap (λ (s : Starts). child_at t s.flying) lifted.lifted ∙ flies_beside t old.flying (lifted.child ∷ []) f there

module _ (b : BuildContext) (order : IsInOrder b.project) (i : ℕ) (u : Planned) (at : unit_at b.project i ≡ Some u) (states : List (State BadUnit)) (done : List (Option (List Directive))) (next : Option ℕ) (w : World) (can : CanBegin b states done i u next w)
    (other : ℕ) (its : Begun) (flying : List ChildInFlight) (still : ℕ → Type 0) (apart : BeginsApart b states i None other its next w flying still) where
  bad : is_good_at (slice_get states i) ≡ false
  bad = ap is_good_at can.untouched

  no_number : (n : ℕ) → None ≡ Some n → ⊥
  no_number n e = cc

  others_at_folder : (w' : World) (next' : Option ℕ) (flying' : List ChildInFlight) (still' : ℕ → Type 0) → ChangesOnly (is_of (records_folder b.project) u.key) w w' → TakesNumber next next'
      → Leaves None (records (records_folder b.project) w u.key) (records (records_folder b.project) w' u.key)
      → ((t : ℕ) (f : ChildInFlight) → child_at t flying ≡ Some f → child_at t flying' ≡ Some f) → KeepsStillOutside (is_of (records_folder b.project) u.key) flying still still' → IsBegun b other its next' w' flying' still'
  others_at_folder w' next' flying' still' only taken left flies keeps =
      stays_begun b order states done i u None other its next next' None w w' flying flying' still still' at bad can.keeps apart only taken
      (if_records b.premise (Left (records_in b w) (records_in b w') u.key None) (left_dropped (records_in b w) (records_in b w') u.key left))
      (λ theirs is e. no_number theirs.number e) (λ theirs is f there. flies theirs.ticket f there) (λ theirs is stands stood. keeps theirs.ticket stands stood)

  pub others_begun : (folder : List ℕ) (w' : World) (next' : Option ℕ) (flying' : List ChildInFlight) (still' : ℕ → Type 0) → folder ≡ records_folder b.project → ChangesOnly (is_of folder u.key) w w' → TakesNumber next next'
      → Leaves None (records folder w u.key) (records folder w' u.key)
      → ((t : ℕ) (f : ChildInFlight) → child_at t flying ≡ Some f → child_at t flying' ≡ Some f) → KeepsStillOutside (is_of folder u.key) flying still still' → IsBegun b other its next' w' flying' still'
  others_begun folder w' next' flying' still' is_folder only taken left flies keeps =
      others_at_folder w' next' flying' still' (subst (λ f. ChangesOnly (is_of f u.key) w w') is_folder only) taken
      (subst (λ f. Leaves None (records f w u.key) (records f w' u.key)) is_folder left) flies (subst (λ f. KeepsStillOutside (is_of f u.key) flying still still') is_folder keeps)

  -- nothing was changed
  pub others_same : (w' : World) (flying' : List ChildInFlight) (still' : ℕ → Type 0) → w' ≡ w → flying' ≡ flying → KeepsStill still still' → IsBegun b other its next w' flying' still'
  others_same w' flying' still' same flies keeps =
      others_at_folder w' next flying' still' (subst (ChangesOnly (is_of (records_folder b.project) u.key) w) (sym same) (only_same _ w)) (inl refl)
      (inr (inl (ap (λ (v : World). records (records_folder b.project) v u.key) same)))
      (λ t f there. ap (child_at t) flies ∙ there) (λ t stands stood. keeps t stood)

-- what stood still over a call that changes nothing, and then over one that changes these paths
pub still_after : (inside : List ℕ → Bool) (flying next : List ChildInFlight) (before mid after' : ℕ → Type 0) → KeepsStill before mid → next ≡ flying → KeepsStillOutside inside next mid after' → KeepsStillOutside inside flying before after'
still_after inside flying next before mid after' first same second ticket stands stood =
    second ticket (λ x y only. subst (λ fs. StandsStill ticket fs x y) (sym same) (stands x y only)) (first ticket stood)
