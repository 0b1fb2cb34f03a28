-- A call on a path that failed, as it is told: the same of each call that reads or lists.
use Rattle.std.proofs.Common.{◌≡◌, ◌≢◌, ℕ, true, false, List, [], ◌∷◌, Err, inl, inr, if◌then◌else◌, refl, sym, subst}
use Rattle.std.proofs.lemmas.Bool.{false≢true}
use Rattle.pb_place_types.specs.CallsInTurn.{own_fault}
use Rattle.pb_place_types.specs.declared.call.Call.{Call}
use Rattle.pb_place_types.specs.Counts.{Counts, name_given, past_place_fault}
use Rattle.pb_place_types.specs.Paths.{is_at_or_below}
use Rattle.pb_place_types.specs.declared.place.PlaceFault.{PlaceFault}
use Rattle.pb_place_types.specs.declared.place.PlaceFault.TheVariants as place
use Rattle.pb_workspace_types.specs.declared.fault.LoadFault.TheVariants.{Place, OutOfMemory}
use Rattle.pb_workspace_package.specs.Causes.{fault_at, is_outside, is_read, ReadsOnly}
use Rattle.pb_workspace_package.specs.Looks.{looked}
use Rattle.pb_workspace_package.proofs.Looking.{Ends}

pub from_outside : (path : List ℕ) (fault : PlaceFault) → is_outside (fault_at path fault) ≡ true
from_outside path place.Read = refl
from_outside path place.List = refl
from_outside path place.Write = refl
from_outside path place.Remove = refl
from_outside path place.Variable = refl
from_outside path place.OutOfMemory = refl

-- of a call that reads a file, and of one that lists a folder
pub of_read : (path : List ℕ) (fault : PlaceFault) → (fault ≢ place.OutOfMemory → fault ≡ place.Read) → is_read (fault_at path fault) ≡ true
of_read path place.Write only = let e = only (λ x. cc) in cc
of_read path place.Remove only = let e = only (λ x. cc) in cc
of_read path place.Variable only = let e = only (λ x. cc) in cc
of_read path _ only = refl

pub of_list : (path : List ℕ) (fault : PlaceFault) → (fault ≢ place.OutOfMemory → fault ≡ place.List) → is_read (fault_at path fault) ≡ true
of_list path place.Write only = let e = only (λ x. cc) in cc
of_list path place.Remove only = let e = only (λ x. cc) in cc
of_list path place.Variable only = let e = only (λ x. cc) in cc
of_list path _ only = refl

module _ (call : Call) (old new : Counts) where
  -- how the counters moved
  pub call_reads : (fault : PlaceFault) → is_read (fault_at (name_given call) fault) ≡ true → new ≡ past_place_fault call fault old → ReadsOnly {T = ℕ} (Err (fault_at (name_given call) fault)) old new
  call_reads place.Read reads at = subst (λ c. ReadsOnly {T = ℕ} (Err (Place (name_given call) place.Read)) old c) (sym at) (refl, (λ n. absurd (false≢true (sym n))), (λ y. refl), (λ y. refl), (λ y. refl), (λ y. refl), refl)
  call_reads place.List reads at = subst (λ c. ReadsOnly {T = ℕ} (Err (Place (name_given call) place.List)) old c) (sym at) (refl, (λ n. absurd (false≢true (sym n))), (λ y. refl), (λ y. refl), (λ y. refl), (λ y. refl), refl)
  call_reads place.Write reads at = absurd (false≢true reads)
  call_reads place.Remove reads at = absurd (false≢true reads)
  call_reads place.Variable reads at = absurd (false≢true reads)
  call_reads place.OutOfMemory reads at =
      subst (λ c. ReadsOnly {T = ℕ} (Err OutOfMemory) old c) (sym at) (refl, (λ n. refl), (λ y. absurd (false≢true y)), (λ y. absurd (false≢true y)), (λ y. absurd (false≢true y)), (λ y. absurd (false≢true y)), refl)

-- what was looked at
module _ (call : Call) (old new : Counts) where
  one_call : (fault : PlaceFault) → (fault ≢ place.OutOfMemory → fault ≡ own_fault call) → new ≡ past_place_fault call fault old → Ends (fault_at (name_given call) fault) (call ∷ []) old new
  one_call place.OutOfMemory kind at = ((λ i. absurd (false≢true (sym i))), (λ n. inr at), (λ y. absurd (false≢true y)))
  one_call _ kind at = ((λ i. absurd (false≢true (sym i))), (λ n. absurd (false≢true (sym n))), (λ y. inl (kind (λ e. cc), at)))

  pub call_looks : (target : List ℕ) (fault : PlaceFault) → is_at_or_below target (name_given call) ≡ false → (fault ≢ place.OutOfMemory → fault ≡ own_fault call) → new ≡ past_place_fault call fault old → Ends (fault_at (name_given call) fault) (looked target call) old new
  call_looks target fault out kind at = subst (λ b. Ends (fault_at (name_given call) fault) (if b then [] else call ∷ []) old new) (sym out) (one_call fault kind at)
