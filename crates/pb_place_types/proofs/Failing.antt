-- What a call that fails leaves as it was, and that its fault is the last.
use Rattle.std.proofs.Common.{◌≡◌, ◌⊎◌, ◌++◌, ◌∙◌, ℕ, List, Some, None, Result, Ok, Err, OnErr, refl, sym, ap, take, drop, take-append-drop, inl, inr}
use Rattle.std.proofs.lemmas.Bool.{cases_Bool}
use Rattle.std.specs.FinMap.{get}
use Rattle.pb_place_types.specs.World.{World, is_same_path}
use Rattle.pb_place_types.specs.declared.place.PlaceFault.TheVariants as place
use Rattle.pb_place_types.specs.declared.place.StartFault.TheVariants as start
use Rattle.pb_place_types.specs.Failing.{CallTellsFault, StartTellsFault, TornSparesOthers, TornLeaves, PartlySparesOthers, PartlyMakesNothing, StartSparesOthers, TornSparesVariables, PartlySparesVariables, StartSparesVariables}
use Rattle.pb_place_types.proofs.Worlds.{same_path}

-- what holds anyway holds after an error
pub on_err : {T E Q : Type 0} (r : Result T E) → Q → OnErr r Q
on_err (Ok x) q = tt
on_err (Err e) q = q

pub torn_spares_others : TornSparesOthers
torn_spares_others path bytes q old new torn apart = elim (cases_Bool (is_same_path path q)) [
  | inl same ↦ absurd (apart (same_path path q same))
  | inr other ↦ torn.files.only q other
]

pub torn_leaves : TornLeaves
torn_leaves path bytes old new torn = elim torn.files.there [
  | inl kept ↦ inl kept
  | inr gone ↦ inr (first_of_them gone)
]
  where
    first_of_them : (get new.files path ≡ None) ⊎ ((n : ℕ) × (get new.files path ≡ Some (take n bytes)))
        → (get new.files path ≡ None) ⊎ ((first : List ℕ) × (rest : List ℕ) × (bytes ≡ first ++ rest) × (get new.files path ≡ Some first))
    first_of_them (inl none) = inl none
    first_of_them (inr (n, is)) = inr (take n bytes, drop n bytes, sym (take-append-drop n bytes), is)

pub partly_spares_others : PartlySparesOthers
partly_spares_others path q old new partly outside = partly.files.only q outside

pub partly_makes_nothing : PartlyMakesNothing
partly_makes_nothing path q b old new partly is = elim (partly.files.there q) [
  | inl kept ↦ sym kept ∙ is
  | inr gone ↦ let none : None ≡ Some b = sym gone ∙ is in cc
]

pub start_spares_others : StartSparesOthers
start_spares_others None q old new same outside = ap (λ (w : World). get w.files q) same
start_spares_others (Some folder) q old new only outside = only.files q outside

pub torn_spares_variables : TornSparesVariables
torn_spares_variables path bytes old new torn = torn.variables

pub partly_spares_variables : PartlySparesVariables
partly_spares_variables path old new partly = partly.variables

pub start_spares_variables : StartSparesVariables
start_spares_variables None old new same = ap (λ (w : World). w.variables) same
start_spares_variables (Some folder) old new only = only.variables

pub call_tells_fault : CallTellsFault
call_tells_fault call place.Read c apart = refl
call_tells_fault call place.List c apart = refl
call_tells_fault call place.Write c apart = refl
call_tells_fault call place.Remove c apart = refl
call_tells_fault call place.Variable c apart = refl
call_tells_fault call place.OutOfMemory c apart = absurd (apart refl)

pub start_tells_fault : StartTellsFault
start_tells_fault start.CannotStart c apart = refl
start_tells_fault start.Died c apart = refl
start_tells_fault start.Capture c apart = refl
start_tells_fault start.OutOfMemory c apart = absurd (apart refl)

pub ruleset fault_laws = (call_tells_fault, start_tells_fault)
