-- What the parts of a glob lead to, and what is looked at for them, part for part.
use Rattle.std.proofs.Common.{◌≡◌, ◌∙◌, ◌<◌, ◌≤◌, ◌+◌, ◌++◌, ℕ, zero, suc, Bool, true, cond, List, [], ◌∷◌, drop, get_or, length, Result, refl, sym, ap, subst, arith, append_assoc}
use Rattle.std.proofs.Math.Seq.{drop-cons}
use Rattle.std.specs.List.{flat_map}
use Rattle.std.specs.Prelude.{filter}
use Rattle.pb_place_types.specs.CallsInTurn.{past_calls}
use Rattle.pb_place_types.specs.declared.call.Call.{Call}
use Rattle.pb_place_types.specs.Counts.{Counts}
use Rattle.pb_place_types.specs.World.{World, from_nothing}
use Rattle.pb_workspace_types.specs.declared.fault.LoadFault.{LoadFault}
use Rattle.pb_workspace_package.specs.Causes.{is_outside}
use Rattle.pb_workspace_package.specs.Looks.{Looks}
use Rattle.pb_workspace_package.proofs.Looking.{Ends, looks_both, looks_first}
use Rattle.pb_workspace.specs.LookedAt.{step_looked, walk_looked}
use Rattle.pb_workspace.specs.MemberFolders.{kept_step, led_to}
use Rattle.pb_workspace.specs.declared.member.Part.{Part}
use Rattle.pb_workspace.specs.declared.workspace_root.WorkspaceRoot.{WorkspaceRoot}

-- no part is left
none_left : (parts : List Part) (i : ℕ) → length parts ≤ i → drop i parts ≡ []
none_left [] zero end = refl
none_left [] (suc i) end = refl
none_left (part ∷ parts) zero end = absurd (omega arith)
none_left (part ∷ parts) (suc i) end = none_left parts i (omega arith)

module _ (target : List ℕ) (w : World) (f : WorkspaceRoot) (parts : List Part) (i : ℕ) where
  pub walk_made : (folders whole : List (List ℕ)) → length parts ≤ i → led_to (from_nothing target w) f (drop i parts) folders ≡ whole → folders ≡ whole
  walk_made folders whole end led = sym (ap (λ ps. led_to (from_nothing target w) f ps folders) (none_left parts i end)) ∙ led

  pub walk_end : (folders : List (List ℕ)) (c : Counts) → length parts ≤ i → c ≡ past_calls (walk_looked target (from_nothing target w) f (drop i parts) folders) c
  walk_end folders c end = subst (λ ps. c ≡ past_calls (walk_looked target (from_nothing target w) f ps folders) c) (sym (none_left parts i end)) refl

  -- one part further, from some folders, in a world that is the same
  module _ (now : World) (part : Part) (lent folders : List (List ℕ)) (held : lent ≡ folders) (lt : i < length parts) (is : part ≡ get_or parts i part) where
    cut_at : drop i parts ≡ part ∷ drop (i + 1) parts
    cut_at = let one : suc i ≡ i + 1 = omega arith in drop-cons parts i part lt ∙ ap (λ n. get_or parts i part ∷ drop n parts) one ∙ ap (λ p. p ∷ drop (i + 1) parts) (sym is)

    abbrev Led : List (List ℕ) → World → List (List ℕ) → Type 0
    Led next v fs = next ≡ flat_map (kept_step (from_nothing target v) f part) fs

    led_on : (next : List (List ℕ)) → now ≡ w → Led next now lent → Led next w folders
    led_on next same made = subst (Led next w) held (subst (λ v. Led next v lent) same made)

    pub walk_led : (next whole : List (List ℕ)) → now ≡ w → Led next now lent → led_to (from_nothing target w) f (drop i parts) folders ≡ whole → led_to (from_nothing target w) f (drop (i + 1) parts) next ≡ whole
    walk_led next whole same made before =
        ap (led_to (from_nothing target w) f (drop (i + 1) parts)) (led_on next same made) ∙ sym (ap (λ ps. led_to (from_nothing target w) f ps folders) cut_at) ∙ before

    pub walk_looks : {T : Type 0} (next : List (List ℕ)) (result : Result T LoadFault) (old mid new : Counts) → now ≡ w → Led next now lent → mid ≡ past_calls (flat_map (step_looked target part) lent) old
        → Looks result (walk_looked target (from_nothing target w) f (drop (i + 1) parts) next) mid new → Looks result (walk_looked target (from_nothing target w) f (drop i parts) folders) old new
    walk_looks next result old mid new same made before more =
        subst (λ ps. Looks result (walk_looked target (from_nothing target w) f ps folders) old new) (sym cut_at)
        (looks_both result (flat_map (step_looked target part) folders) _ old mid new (subst (λ fs. mid ≡ past_calls (flat_map (step_looked target part) fs) old) held before)
        (subst (λ fs. Looks result (walk_looked target (from_nothing target w) f (drop (i + 1) parts) fs) mid new) (led_on next same made) more))

    pub walk_stop : (e : LoadFault) (old new : Counts) → is_outside e ≡ true → Ends e (flat_map (step_looked target part) lent) old new → Ends e (walk_looked target (from_nothing target w) f (drop i parts) folders) old new
    walk_stop e old new outside before =
        subst (λ ps. Ends e (walk_looked target (from_nothing target w) f ps folders) old new) (sym cut_at)
        (looks_first e (flat_map (step_looked target part) folders) _ old new outside (subst (λ fs. Ends e (flat_map (step_looked target part) fs) old new) held before))

-- the first of some that are left
module _ {A : Type 0} (items rest : List A) (item : A) (cut : items ≡ item ∷ rest) where
  pub first_looks : {T : Type 0} (f : A → List Call) (result : Result T LoadFault) (old mid new : Counts) → mid ≡ past_calls (f item) old → Looks result (flat_map f rest) mid new → Looks result (flat_map f items) old new
  first_looks f result old mid new before more = subst (λ xs. Looks result (flat_map f xs) old new) (sym cut) (looks_both result (f item) (flat_map f rest) old mid new before more)

  pub first_stop : (f : A → List Call) (e : LoadFault) (old new : Counts) → is_outside e ≡ true → Ends e (f item) old new → Ends e (flat_map f items) old new
  first_stop f e old new outside before = subst (λ xs. Ends e (flat_map f xs) old new) (sym cut) (looks_first e (f item) (flat_map f rest) old new outside before)

  -- it passes a test
  pub first_passes : (p : A → Bool) (made more whole : List A) → p item ≡ true → more ≡ made ++ item ∷ [] → made ++ filter p items ≡ whole → more ++ filter p rest ≡ whole
  first_passes p made more whole on pushed before =
      ap (λ m. m ++ filter p rest) pushed ∙ append_assoc made (item ∷ []) (filter p rest)
      ∙ sym (ap (λ xs. made ++ filter p xs) cut ∙ ap (λ b. made ++ cond b (item ∷ filter p rest) (filter p rest)) on) ∙ before

-- none is left
pub all_past : {A : Type 0} (items : List A) → length items ≡ 0 → items ≡ []
all_past [] none = refl
all_past (item ∷ items) none = absurd (omega arith)
