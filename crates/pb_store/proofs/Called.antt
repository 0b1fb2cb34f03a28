-- Which call of the place failed.
use Rattle.std.proofs.Common.{◌≡◌, ◌≢◌, ◌∙◌, ℕ, Bool, true, IsTrue, List, [], ◌∷◌, Contains, Some, refl, sym, ap, subst, inl, inr}
use Rattle.std.proofs.lemmas.Bool.{false≢true}
use Rattle.pb_place_types.specs.CallsInTurn.{own_fault}
use Rattle.pb_place_types.specs.declared.call.Call.{Call}
use Rattle.pb_place_types.specs.Counts.{Counts, past_place_fault}
use Rattle.pb_place_types.specs.World.{World, listed_directly}
use Rattle.pb_place_types.specs.declared.place.PlaceFault.{PlaceFault}
use Rattle.pb_place_types.specs.declared.place.PlaceFault.TheVariants as place
use Rattle.pb_store_soundness.specs.Records.{ends_as_record}
use Rattle.pb_store_soundness.proofs.Flying.{contains_head, contains_tail}
use Rattle.pb_store.specs.Calls.{EndsOnce, looked, is_look, ReadsOneOf, OpensBy, fault_in_store, fault_in_opening, MayLook, MayRead, MayWrite}
use Rattle.pb_store.proofs.Earned.{contains_cases, contains_none}
use Rattle.pb_store.specs.declared.fault.OpenFault.{OpenFault}
use Rattle.pb_store.specs.declared.fault.OpenFault.TheVariants as open_fault
use Rattle.pb_store.specs.declared.fault.StoreFault.{StoreFault}
use Rattle.pb_store.specs.declared.fault.StoreFault.TheVariants.{Place, NumbersSpent, OutOfMemory}

-- the one call failed
once : (call : Call) (fault : PlaceFault) (old new : Counts) → (fault ≢ place.OutOfMemory → fault ≡ own_fault call) → new ≡ past_place_fault call fault old → EndsOnce call (fault_in_store fault) old new
once call place.OutOfMemory old new kind is = inr is
once call _ old new kind is = (kind (λ e. cc), is)

pub ends_once : (call : Call) (fault : PlaceFault) (e : StoreFault) (old new : Counts) → e ≡ fault_in_store fault → (fault ≢ place.OutOfMemory → fault ≡ own_fault call) → new ≡ past_place_fault call fault old → EndsOnce call e old new
ends_once call fault e old new told kind is = subst (λ f. EndsOnce call f old new) (sym told) (once call fault old new kind is)

pub ends_there : (at : List ℕ → Call) (path other : List ℕ) (e : StoreFault) (old new : Counts) → path ≡ other → EndsOnce (at path) e old new → EndsOnce (at other) e old new
ends_there at path other e old new same = subst (λ p. EndsOnce (at p) e old new) same

-- a call that writes is none that looks
pub no_look : (e : StoreFault) → MayWrite e → looked e ≡ true → ⊥
no_look (Place fault) may look = false≢true (sym (ap is_look may) ∙ look)
no_look NumbersSpent may look = may
no_look OutOfMemory may look = false≢true look

-- which write failed
pub named_once : (call : Call) (e : StoreFault) (old new : Counts) → EndsOnce call e old new → e ≡ Place place.Write → new.failing ≡ Some call
named_once call e old new ends is = ap (λ (c : Counts). c.failing) (subst (λ f. EndsOnce call f old new) is ends).1

pub no_write : (e : StoreFault) → MayLook e → e ≡ Place place.Write → ⊥
no_write e may is = elim (subst MayLook is may) [
  | inl read ↦ cc
  | inr other ↦ elim other [
    | inl list ↦ cc
    | inr variable ↦ cc
  ]
]

pub read_unwritten : {A : Type 0} (e : StoreFault) (failing told : A) → MayRead e → e ≡ Place place.Write → failing ≡ told
read_unwritten e failing told may is = let read : place.Write ≡ place.Read = subst MayRead is may in cc

-- opening
reads : (path : List ℕ) (fault : PlaceFault) → ends_as_record path ≡ true → (fault ≢ place.OutOfMemory → fault ≡ place.Read) → ReadsOneOf (path ∷ []) (fault_in_opening path fault)
reads path place.Read named is = (refl, contains_head path [], named)
reads path place.OutOfMemory named is = tt
reads path _ named is = (is (λ e. cc), contains_head path [], named)

pub reads_at : (path : List ℕ) (fault : PlaceFault) (e : OpenFault) → ends_as_record path ≡ true → e ≡ fault_in_opening path fault → (fault ≢ place.OutOfMemory → fault ≡ place.Read) → ReadsOneOf (path ∷ []) e
reads_at path fault e named told is = subst (ReadsOneOf (path ∷ [])) (sym told) (reads path fault named is)

-- one of a row of files, of which the last are left
pub within_head : (paths items rest : List (List ℕ)) (path : List ℕ) → ((p : List ℕ) → Contains items p → Contains paths p) → items ≡ path ∷ rest → Contains paths path
within_head paths items rest path within cut = within path (subst (λ xs. Contains xs path) (sym cut) (contains_head path rest))

pub within_tail : (paths items rest : List (List ℕ)) (path : List ℕ) → ((p : List ℕ) → Contains items p → Contains paths p) → items ≡ path ∷ rest → (p : List ℕ) → Contains rest p → Contains paths p
within_tail paths items rest path within cut p has = within p (subst (λ xs. Contains xs p) (sym cut) (contains_tail path rest p has))

pub reads_one : (paths : List (List ℕ)) (path : List ℕ) (e : OpenFault) → Contains paths path → ReadsOneOf (path ∷ []) e → ReadsOneOf paths e
reads_one paths path (open_fault.Place at fault) there (read, has, named) = elim (contains_cases path [] at has) [
  | inl same ↦ (read, subst (Contains paths) same there, named)
  | inr more ↦ absurd (contains_none at more)
]
reads_one paths path open_fault.OutOfMemory there told = tt

lists : (is_modelled : Bool) (folder : List ℕ) (w : World) (fault : PlaceFault) → (fault ≢ place.OutOfMemory → fault ≡ place.List) → OpensBy is_modelled folder w (fault_in_opening folder fault)
lists is_modelled folder w place.List is = inl (refl, refl)
lists is_modelled folder w place.OutOfMemory is = tt
lists is_modelled folder w _ is = inl (is (λ e. cc), refl)

pub opens_by_listing : (is_modelled : Bool) (folder : List ℕ) (w : World) (fault : PlaceFault) (e : OpenFault) → e ≡ fault_in_opening folder fault → (fault ≢ place.OutOfMemory → fault ≡ place.List) → OpensBy is_modelled folder w e
opens_by_listing is_modelled folder w fault e told is = subst (OpensBy is_modelled folder w) (sym told) (lists is_modelled folder w fault is)

pub opens_by_reading : (is_modelled : Bool) (folder : List ℕ) (w : World) (paths : List (List ℕ)) (e : OpenFault) → (IsTrue is_modelled → paths ≡ listed_directly folder w) → ReadsOneOf paths e → OpensBy is_modelled folder w e
opens_by_reading is_modelled folder w paths (open_fault.Place at fault) are (read, there, named) = inr (read, named, λ told. subst (λ ps. Contains ps at) (are told) there)
opens_by_reading is_modelled folder w paths open_fault.OutOfMemory are told = tt
