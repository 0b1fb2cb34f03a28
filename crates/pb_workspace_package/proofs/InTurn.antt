-- What is looked at for items in turn.
use Rattle.std.proofs.Common.{◌≡◌, ◌∙◌, ◌++◌, ◌<◌, ◌≤◌, ◌+◌, ℕ, Bool, zero, suc, true, false, cond, List, [], ◌∷◌, drop, get_or, length, Result, Err, refl, sym, ap, subst, arith, append_assoc}
use Rattle.std.proofs.Math.Seq.{drop-cons}
use Rattle.std.specs.List.{filter, flat_map}
use Rattle.pb_place_types.specs.CallsInTurn.{past_calls}
use Rattle.pb_place_types.specs.declared.call.Call.{Call}
use Rattle.pb_place_types.specs.Counts.{Counts}
use Rattle.pb_workspace_types.specs.declared.fault.LoadFault.{LoadFault}
use Rattle.pb_workspace_package.specs.Causes.{is_failure, is_outside}
use Rattle.pb_workspace_package.specs.Looks.{Looks}
use Rattle.pb_workspace_package.proofs.Looking.{Ends, looks_both, looks_first, looks_none}

module _ {A : Type 0} where
  -- no item is left
  pub row_end : (f : A → List Call) (items : List A) (i : ℕ) (c : Counts) → length items ≤ i → c ≡ past_calls (flat_map f (drop i items)) c
  row_end f [] zero c at = refl
  row_end f [] (suc i) c at = refl
  row_end f (x ∷ items) zero c at = absurd (omega arith)
  row_end f (x ∷ items) (suc i) c at = row_end f items i c (omega arith)

  module _ (items : List A) (i : ℕ) (item : A) (lt : i < length items) (is : item ≡ get_or items i item) where
    cut_at : drop i items ≡ item ∷ drop (suc i) items
    cut_at = drop-cons items i item lt ∙ ap (λ x. x ∷ drop (suc i) items) (sym is)

    -- the calls for them
    module _ (f : A → List Call) where
      pub row_looks : {T : Type 0} (result : Result T LoadFault) (old mid new : Counts) → mid ≡ past_calls (f item) old → Looks result (flat_map f (drop (i + 1) items)) mid new → Looks result (flat_map f (drop i items)) old new
      row_looks result old mid new before more =
          let next : i + 1 ≡ suc i = omega arith in
          subst (λ xs. Looks result (flat_map f xs) old new) (sym cut_at) (looks_both result (f item) (flat_map f (drop (suc i) items)) old mid new before (subst (λ n. Looks result (flat_map f (drop n items)) mid new) next more))

      pub row_stop : (e : LoadFault) (old new : Counts) → is_outside e ≡ true → Ends e (f item) old new → Ends e (flat_map f (drop i items)) old new
      row_stop e old new outside before = subst (λ xs. Ends e (flat_map f xs) old new) (sym cut_at) (looks_first e (f item) (flat_map f (drop (suc i) items)) old new outside before)

      pub row_none : (e : LoadFault) (old mid : Counts) → is_outside e ≡ true → is_failure e ≡ false → mid ≡ past_calls (f item) old → Ends e (flat_map f (drop i items)) old mid
      row_none e old mid outside here before = row_looks {T = ℕ} (Err e) old mid mid before (looks_none e _ mid mid outside here refl)

    -- what is made of them
    module _ {B : Type 0} (f : A → List B) where
      pub row_made : (whole made now_made more : List B) → now_made ≡ made ++ more → more ≡ f item → made ++ flat_map f (drop i items) ≡ whole → now_made ++ flat_map f (drop (i + 1) items) ≡ whole
      row_made whole made now_made more pushed are before =
          let next : i + 1 ≡ suc i = omega arith in
          ap (λ m. m ++ flat_map f (drop (i + 1) items)) (pushed ∙ ap (λ fs. made ++ fs) are) ∙ append_assoc made (f item) (flat_map f (drop (i + 1) items))
          ∙ ap (λ n. made ++ (f item ++ flat_map f (drop n items))) next ∙ ap (λ xs. made ++ flat_map f xs) (sym cut_at) ∙ before

    -- what is kept of them
    module _ (p : A → Bool) (whole kept now_kept : List A) where
      more : (b : Bool) → p item ≡ b → kept ++ filter p (drop i items) ≡ whole → kept ++ cond b (item ∷ filter p (drop (i + 1) items)) (filter p (drop (i + 1) items)) ≡ whole
      more b is before =
          let next : i + 1 ≡ suc i = omega arith in
          ap (λ n. kept ++ cond b (item ∷ filter p (drop n items)) (filter p (drop n items))) next
          ∙ ap (λ t. kept ++ cond t (item ∷ filter p (drop (suc i) items)) (filter p (drop (suc i) items))) (sym is) ∙ ap (λ xs. kept ++ filter p xs) (sym cut_at) ∙ before

      pub row_kept : now_kept ≡ kept ++ item ∷ [] → p item ≡ true → kept ++ filter p (drop i items) ≡ whole → now_kept ++ filter p (drop (i + 1) items) ≡ whole
      row_kept pushed passes before =
          ap (λ ks. ks ++ filter p (drop (i + 1) items)) pushed ∙ append_assoc kept (item ∷ []) (filter p (drop (i + 1) items)) ∙ more true passes before

      pub row_left_out : now_kept ≡ kept → p item ≡ false → kept ++ filter p (drop i items) ≡ whole → now_kept ++ filter p (drop (i + 1) items) ≡ whole
      row_left_out same fails before = ap (λ ks. ks ++ filter p (drop (i + 1) items)) same ∙ more false fails before
