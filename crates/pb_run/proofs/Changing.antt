-- What a half of a unit's run changes, step by step.
use Rattle.std.proofs.Common.{◌≡◌, ◌∙◌, ℕ, true, List, Option, Some, None, Result, refl, sym, ap, subst}
use Rattle.std.specs.Prelude.{IfSome}
use Rattle.pb_place_types.specs.At.{At}
use Rattle.pb_place_types.specs.Children.{StandsStill, StaysStillBut, child_at, is_flying, KeepsStill, KeepsStillOutside}
use Rattle.pb_place_types.specs.Counts.{Starts, without}
use Rattle.pb_place_types.specs.Paths.{is_at_or_below}
use Rattle.pb_place_types.specs.World.{World, ChangesOnly, ChangesOnlyInSome}
use Rattle.pb_place_types.specs.declared.child_in_flight.ChildInFlight.{ChildInFlight}
use Rattle.pb_run.specs.Running.{ChangesUnit}
use Rattle.pb_run.specs.UnitSteps.{WritesTo}
use Rattle.pb_run.specs.Steps.{StepTakes}
use Rattle.pb_run.specs.declared.begun.SpawnedChild.{SpawnedChild}
use Rattle.pb_run.specs.declared.faults.StepFault.{StepFault}
use Rattle.pb_run.proofs.RecordedOthers.{still_over}
use Rattle.pb_run.proofs.Spawning.{launched_only, launched_still, record_within, still_widen, widen}
use Rattle.pb_run.proofs.Writes.{none_changed, record_only, stays_apart, unkept_only}
use Rattle.pb_store_soundness.specs.Apart.{is_of}
use Rattle.pb_store_soundness.specs.Records.{out_of, record_path}

-- what is said of a record's path, by the folder and the key as they are named
pub at_record : (Said : List ℕ → Type 0) (folder root key k : List ℕ) → folder ≡ root → key ≡ k → Said (record_path folder key) → Said (record_path root k)
at_record Said folder root key k is its said = subst (λ f. Said (record_path f k)) is (subst (λ x. Said (record_path folder x)) its said)

module _ {T : Type 0} (Goes : T → Starts → Starts → Type 0) (May : StepFault → Starts → Starts → Type 0) (result : Result T StepFault) where
  -- it is said of another folder and key that are the same
  pub changes_moved : (folder root key k : List ℕ) (ended : Option SpawnedChild) (old new : At) → folder ≡ root → key ≡ k → ChangesUnit folder key ended Goes May result old new → ChangesUnit root k ended Goes May result old new
  changes_moved folder root key k ended old new is its changes =
      subst (λ f. ChangesUnit f k ended Goes May result old new) is (subst (λ x. ChangesUnit folder x ended Goes May result old new) its changes)

  -- nothing changes but the counters
  pub changes_none : (folder key : List ℕ) (old new : At) → new.world ≡ old.world → KeepsStill old.still new.still → new.counts.starts ≡ old.counts.starts → StepTakes Goes May result old.counts new.counts → ChangesUnit folder key None Goes May result old new
  changes_none folder key old new same keeps starts takes = record {
    only = none_changed (is_of folder key) old.world new.world same;
    still = λ ticket apart stands stood. keeps ticket stood;
    stay = λ ticket its apart there. ap (λ (s : Starts). child_at ticket s.flying) starts ∙ there;
    takes = takes;
  }

  -- or the record's path
  pub changes_record : (folder key : List ℕ) (old mid new : At) → mid.world ≡ old.world → KeepsStill old.still mid.still → mid.counts.starts ≡ old.counts.starts → ChangesOnly (is_at_or_below (record_path folder key)) mid.world new.world
      → KeepsStillOutside (is_at_or_below (record_path folder key)) mid.counts.starts.flying mid.still new.still → new.counts.starts ≡ mid.counts.starts → StepTakes Goes May result old.counts new.counts → ChangesUnit folder key None Goes May result old new
  changes_record folder key old mid new same keeps starts only holds later takes = record {
    only = subst (λ (w : World). ChangesOnly (is_of folder key) w new.world) same (widen (is_at_or_below (record_path folder key)) (is_of folder key) mid.world new.world (record_within folder key) only);
    still = λ ticket apart stands stood.
        still_widen (is_at_or_below (record_path folder key)) (is_of folder key) mid.counts.starts.flying mid.still new.still (record_within folder key) holds ticket
        (λ v w changed. subst (λ (s : Starts). StandsStill ticket s.flying v w) (sym starts) (stands v w changed)) (keeps ticket stood);
    stay = λ ticket its apart there. ap (λ (s : Starts). child_at ticket s.flying) (later ∙ starts) ∙ there;
    takes = takes;
  }

  -- after a look, what another step changes
  pub changes_after : {U : Type 0} (Went : U → Starts → Starts → Type 0) (Might : StepFault → Starts → Starts → Type 0) (other : Result U StepFault) (folder key : List ℕ) (old mid new : At) → mid.world ≡ old.world → KeepsStill old.still mid.still
      → mid.counts.starts ≡ old.counts.starts → ChangesUnit folder key None Went Might other mid new → StepTakes Goes May result old.counts new.counts → ChangesUnit folder key None Goes May result old new
  changes_after Went Might other folder key old mid new same keeps starts changes takes = record {
    only = subst (λ (w : World). ChangesOnly (is_of folder key) w new.world) same changes.only;
    still = λ ticket apart stands stood. changes.still ticket tt (λ v w changed. subst (λ (s : Starts). StandsStill ticket s.flying v w) (sym starts) (stands v w changed)) (keeps ticket stood);
    stay = λ ticket its apart there. changes.stay ticket its tt (ap (λ (s : Starts). child_at ticket s.flying) starts ∙ there);
    takes = takes;
  }

  -- the record's path and the folder, before a child is spawned
  pub changes_launched : (folder key out : List ℕ) (old mid new : At) → out ≡ out_of folder key → ChangesOnly (is_at_or_below (record_path folder key)) old.world mid.world
      → KeepsStillOutside (is_at_or_below (record_path folder key)) old.counts.starts.flying old.still mid.still → mid.counts.starts ≡ old.counts.starts → ChangesOnly (is_at_or_below out) mid.world new.world
      → KeepsStillOutside (is_at_or_below out) mid.counts.starts.flying mid.still new.still → ((t : ℕ) (f : ChildInFlight) → child_at t mid.counts.starts.flying ≡ Some f → child_at t new.counts.starts.flying ≡ Some f)
      → StepTakes Goes May result old.counts new.counts → ChangesUnit folder key None Goes May result old new
  changes_launched folder key out old mid new lies first holds starts second keeps flies takes = record {
    only = launched_only folder key out old.world mid.world new.world lies first second;
    still = λ ticket apart stands stood. launched_still folder key out old.counts.starts.flying mid.counts.starts.flying old.still mid.still new.still lies (ap (λ (s : Starts). s.flying) starts) holds keeps ticket stands stood;
    stay = λ ticket its apart there. flies ticket its (ap (λ (s : Starts). child_at ticket s.flying) starts ∙ there);
    takes = takes;
  }

  -- The child of a unit has landed.
  module _ (root key out : List ℕ) (lies : out ≡ out_of root key) (l : SpawnedChild) (old mid : At) (flies : is_flying l.ticket old.counts.starts.flying ≡ true) (writes : WritesTo out (Some l) old.counts.starts.flying)
      (only : IfSome (child_at l.ticket old.counts.starts.flying) (λ s. ChangesOnlyInSome s.command.out old.world mid.world)) (stays : StaysStillBut l.ticket old.counts.starts.flying old.world mid.world old.still mid.still) where
    its_only : ChangesOnly (is_of root key) old.world mid.world
    its_only = unkept_only root key out lies l old.counts.starts.flying flies writes old.world mid.world mid.world only refl

    -- nothing is kept
    pub changes_ended : (new : At) → new.world ≡ mid.world → KeepsStill mid.still new.still → new.counts.starts.flying ≡ without l.ticket old.counts.starts.flying → StepTakes Goes May result old.counts new.counts → ChangesUnit root key (Some l) Goes May result old new
    changes_ended new same keeps gone takes = record {
      only = unkept_only root key out lies l old.counts.starts.flying flies writes old.world mid.world new.world only same;
      still = λ ticket apart stands stood. keeps ticket (stays ticket apart (stands old.world mid.world its_only) stood);
      stay = λ ticket its apart there. stays_apart (Some l) l refl old.counts.starts.flying new.counts.starts.flying ticket its gone apart there;
      takes = takes;
    }

    -- the record is kept, or was to be
    pub changes_kept : (two new : At) → two.world ≡ mid.world → KeepsStill mid.still two.still → two.counts.starts.flying ≡ without l.ticket old.counts.starts.flying → ChangesOnly (is_at_or_below (record_path root key)) two.world new.world
        → KeepsStillOutside (is_at_or_below (record_path root key)) two.counts.starts.flying two.still new.still → new.counts.starts ≡ two.counts.starts → StepTakes Goes May result old.counts new.counts → ChangesUnit root key (Some l) Goes May result old new
    changes_kept two new same keeps gone put holds later takes = record {
      only = record_only root key out lies l old.counts.starts.flying flies writes old.world mid.world two.world only same root new.world refl put;
      still = λ ticket apart stands stood. still_over (is_of root key) ticket l.ticket old.counts.starts.flying old.world mid.world old.still two.still new.still apart its_only
          (λ t ne sees was. keeps t (stays t ne sees was))
          (still_widen (is_at_or_below (record_path root key)) (is_of root key) (without l.ticket old.counts.starts.flying) two.still new.still (record_within root key)
          (subst (λ fs. KeepsStillOutside (is_at_or_below (record_path root key)) fs two.still new.still) gone holds))
          stands stood;
      stay = λ ticket its apart there. stays_apart (Some l) l refl old.counts.starts.flying new.counts.starts.flying ticket its (ap (λ (s : Starts). s.flying) later ∙ gone) apart there;
      takes = takes;
    }
