-- The folder into which the child of a unit writes, and the others that fly.
use Rattle.std.proofs.Common.{◌≡◌, ◌≢◌, ◌∙◌, ◌||◌, ℕ, Bool, true, cond, List, [], ◌∷◌, Option, Some, Result, sym, ap, subst, inl, inr}
use Rattle.std.proofs.lemmas.Bool.{cases_Bool, false≢true}
use Rattle.std.specs.Prelude.{◌==◌, IfSome}
use Rattle.pb_place_types.specs.Children.{child_at, is_flying}
use Rattle.pb_place_types.specs.Counts.{Counts, without}
use Rattle.pb_place_types.specs.Paths.{is_at_or_below}
use Rattle.pb_place_types.specs.World.{World, ChangesOnly, ChangesOnlyInSome}
use Rattle.pb_place_types.specs.declared.child_in_flight.ChildInFlight.{ChildInFlight}
use Rattle.pb_place_types.specs.declared.command.Ended.{Ended}
use Rattle.pb_place_types.specs.declared.place.StartFault.{StartFault}
use Rattle.pb_place_types.proofs.Folders.{only_same, only_started}
use Rattle.pb_run.specs.UnitSteps.{WritesTo}
use Rattle.pb_run.specs.Running.{HasEnded}
use Rattle.pb_run.specs.declared.begun.SpawnedChild.{SpawnedChild}
use Rattle.pb_run.proofs.Answering.{kept_only}
use Rattle.pb_run.proofs.RecordedOthers.{flies_without}
use Rattle.pb_run.proofs.Spawning.{out_within, widen}
use Rattle.pb_store_soundness.specs.Apart.{is_of}
use Rattle.pb_store_soundness.specs.Records.{out_of, record_path}

-- The child has landed.

pub flying_at : (ticket : ℕ) (flying : List ChildInFlight) → is_flying ticket flying ≡ true → (f : ChildInFlight) × (child_at ticket flying ≡ Some f)
flying_at ticket [] flies = absurd (false≢true flies)
flying_at ticket (f ∷ flying) flies = elim (cases_Bool (f.ticket == ticket)) [
  | inl its ↦ (f, ap (λ x. cond x (Some f) (child_at ticket flying)) its)
  | inr not_its ↦
      let (g, at) = flying_at ticket flying (sym (ap (λ x. x || is_flying ticket flying) not_its) ∙ flies) in
      (g, ap (λ x. cond x (Some f) (child_at ticket flying)) not_its ∙ at)
]

-- it changes only the folder into which it writes
pub ended_only : (out : List ℕ) (l : SpawnedChild) (flying : List ChildInFlight) (old new : World) → is_flying l.ticket flying ≡ true → WritesTo out (Some l) flying → IfSome (child_at l.ticket flying) (λ s. ChangesOnlyInSome s.command.out old new)
    → ChangesOnly (is_at_or_below out) old new
ended_only out l flying old new flies writes only =
    let (f, at) = flying_at l.ticket flying flies in
    only_started out f.command.out old new (subst (λ (o : Option ChildInFlight). IfSome o (λ s. s.command.out ≡ Some out)) at writes)
    (subst (λ (o : Option ChildInFlight). IfSome o (λ s. ChangesOnlyInSome s.command.out old new)) at only)

module _ (root key out : List ℕ) (lies : out ≡ out_of root key) (l : SpawnedChild) (flying : List ChildInFlight) (flies : is_flying l.ticket flying ≡ true) (writes : WritesTo out (Some l) flying) (w w1 v : World)
    (only : IfSome (child_at l.ticket flying) (λ s. ChangesOnlyInSome s.command.out w w1)) (same : v ≡ w1) where
  ended_v : ChangesOnly (is_at_or_below out) w v
  ended_v = subst (ChangesOnly (is_at_or_below out) w) (sym same) (ended_only out l flying w w1 flies writes only)

  -- nothing is kept
  pub unkept_only : ChangesOnly (is_of root key) w v
  unkept_only = widen (is_at_or_below (out_of root key)) (is_of root key) w v (out_within root key) (subst (λ (o : List ℕ). ChangesOnly (is_at_or_below o) w v) lies ended_v)

  -- the record is kept, or was to be
  pub record_only : (folder : List ℕ) (v2 : World) → folder ≡ root → ChangesOnly (is_at_or_below (record_path folder key)) v v2 → ChangesOnly (is_of root key) w v2
  record_only folder v2 is_folder then' = kept_only root key out w v v2 lies ended_v (subst (λ f. ChangesOnly (is_at_or_below (record_path f key)) v v2) is_folder then')

-- it is that of a unit which has begun so
module _ (launched : Option SpawnedChild) (l : SpawnedChild) (is : launched ≡ Some l) (flying : List ChildInFlight) where
  pub dropped_in : (out : List ℕ) (old new : World) → IfSome launched (λ k. is_flying k.ticket flying ≡ true) → WritesTo out launched flying → IfSome (child_at l.ticket flying) (λ s. ChangesOnlyInSome s.command.out old new)
      → ChangesOnly (is_at_or_below out) old new
  dropped_in out old new flies writes only =
      ended_only out l flying old new (subst (λ (o : Option SpawnedChild). IfSome o (λ k. is_flying k.ticket flying ≡ true)) is flies) (subst (λ (o : Option SpawnedChild). WritesTo out o flying) is writes) only

  -- another child flies on
  pub stays_apart : (flying' : List ChildInFlight) (ticket : ℕ) (f : ChildInFlight) → flying' ≡ without l.ticket flying → IfSome launched (λ k. ticket ≢ k.ticket) → child_at ticket flying ≡ Some f → child_at ticket flying' ≡ Some f
  stays_apart flying' ticket f flies apart there =
      ap (child_at ticket) flies ∙ flies_without ticket l.ticket flying (subst (λ (o : Option SpawnedChild). IfSome o (λ k. ticket ≢ k.ticket)) is apart) ∙ there

-- Beyond what its child left, a unit's answer changes the place of its record alone.

pub none_changed : (inside : List ℕ → Bool) (old new : World) → new ≡ old → ChangesOnly inside old new
none_changed inside old new same = subst (ChangesOnly inside old) (sym same) (only_same inside old)

pub record_alone : (folder root key : List ℕ) (w v new : World) → folder ≡ root → v ≡ w → ChangesOnly (is_at_or_below (record_path folder key)) v new → ChangesOnly (is_at_or_below (record_path root key)) w new
record_alone folder root key w v new is_folder same only =
    subst (λ (x : World). ChangesOnly (is_at_or_below (record_path root key)) x new) same (subst (λ (f : List ℕ). ChangesOnly (is_at_or_below (record_path f key)) v new) is_folder only)

pub ended_anyway : (ticket : ℕ) (answer : Result Ended StartFault) (well stood less : Type 0) (before after : World) (old new : Counts) → (less → well) → HasEnded ticket answer well stood before after old new → HasEnded ticket answer less stood before after old new
ended_anyway ticket answer well stood less before after old new weaker ended = record { counted = ended.counted; answered = λ x. ended.answered (weaker x); only = ended.only; lands = ended.lands }
