-- What is given as a line is one; and why none is given.
use Rattle.std.proofs.Common.{◌≡◌, ℕ, zero, suc, Bool, true, false, List, [], ◌∷◌, Option, Some, None, Result, Ok, Err, refl, sym, ◌∙◌, ap, subst, codes, if◌then◌else◌}
use Rattle.std.specs.Option.{option_map}
use Rattle.std.specs.Str.{bytes_eq}
use Rattle.pb_data.specs.UnlessOom.{◌>>=◌}
use Rattle.pb_manifest_types.specs.declared.profile.Profile.{Profile}
use Rattle.pb_profile.specs.declared.fault.ProfileFault.{ProfileFault}
use Rattle.pb_profile.specs.declared.fault.ProfileFault.TheVariants.{NoSuchProfile, InheritsCycle}
use Rattle.pb_profile.specs.Line.{Seen, seen_at, parent_of, custom_parent, inherited, is_either, above, then_above, line_within}
use Rattle.pb_profile.specs.Laws.{InheritsFrom, IsLine, last, further, itself, higher, IsMissing}

-- the line goes on for so many steps
pub data GoesOn (profiles : List Profile) : ℕ → Seen → Type 0 where
  here : (s : Seen) → GoesOn profiles zero s
  step : (n : ℕ) (s t : Seen) (inherits : InheritsFrom profiles s t) (more : GoesOn profiles n t) → GoesOn profiles (suc n) s

-- a value is no fault
differs : {A E : Type 0} (x : A) (f : E) → Ok x ≡ Err f → ⊥
differs x f e = cc

-- no profile inherits from a cycle: what is told of one profile is at most that there is none
written_tells : (o : Option (List ℕ)) → inherited o ≡ Err InheritsCycle → ⊥
written_tells None e = cc
written_tells (Some parent) e = cc

custom_tells : (t : Option Profile) → custom_parent t ≡ Err InheritsCycle → ⊥
custom_tells None e = cc
custom_tells (Some p) e = written_tells p.inherits e

choice_tells : (a b c : Bool) (x y : List ℕ) (t : Option Profile)
    → (if a then Ok None else (if b then Ok (Some x) else (if c then Ok (Some y) else custom_parent t))) ≡ Err InheritsCycle → ⊥
choice_tells true b c x y t e = cc
choice_tells false true c x y t e = cc
choice_tells false false true x y t e = cc
choice_tells false false false x y t e = custom_tells t e

parent_tells : (s : Seen) → parent_of s ≡ Err InheritsCycle → ⊥
parent_tells s e = choice_tells (is_either (codes "dev") (codes "release") s.name) (bytes_eq s.name (codes "test")) (bytes_eq s.name (codes "bench")) (codes "dev") (codes "release") s.table e

module _ (ps : List Profile) (s : Seen) where
  parent_shown : (r : Result (Option (List ℕ)) ProfileFault) → parent_of s ≡ r → (r >>= (λ parent. Ok (option_map (seen_at ps) parent))) ≡ Err InheritsCycle → ⊥
  parent_shown (Ok parent) is e = differs (option_map (seen_at ps) parent) InheritsCycle e
  parent_shown (Err f) is e = let q : f ≡ InheritsCycle = cc in parent_tells s (is ∙ ap Err q)

  above_tells : above ps s ≡ Err InheritsCycle → ⊥
  above_tells e = parent_shown (parent_of s) refl e

  -- a line behind the profile, by what is known of the line of the profile above it
  line_behind : (t : Seen) (line : List Seen) (rest : Result (List Seen) ProfileFault) → ((l : List Seen) → rest ≡ Ok l → IsLine ps t l) → InheritsFrom ps s t → (rest >>= (λ l. Ok (s ∷ l))) ≡ Ok line → IsLine ps s line
  line_behind t line (Ok l) known leads e = let q : s ∷ l ≡ line = cc in subst (IsLine ps s) q (further s t l leads (known l refl))
  line_behind t line (Err f) known leads e = absurd (differs line f (sym e))

  line_by : (n : ℕ) (line : List Seen) → ((t : Seen) (l : List Seen) → line_within n ps t ≡ Ok l → IsLine ps t l)
      → (r : Result (Option Seen) ProfileFault) → above ps s ≡ r → (r >>= then_above (line_within n ps) s) ≡ Ok line → IsLine ps s line
  line_by n line known (Ok None) is e = let q : s ∷ [] ≡ line = cc in subst (IsLine ps s) q (last s is)
  line_by n line known (Ok (Some t)) is e = line_behind t line (line_within n ps t) (known t) is e
  line_by n line known (Err f) is e = absurd (differs line f (sym e))

  missing_behind : (t : Seen) (rest : Result (List Seen) ProfileFault) → (rest ≡ Err NoSuchProfile → IsMissing ps t) → InheritsFrom ps s t → (rest >>= (λ l. Ok (s ∷ l))) ≡ Err NoSuchProfile → IsMissing ps s
  missing_behind t (Ok l) known leads e = absurd (differs (s ∷ l) NoSuchProfile e)
  missing_behind t (Err f) known leads e =
      let q : f ≡ NoSuchProfile = cc in
      let m = known (ap Err q) in
      record { profile = m.profile; ancestor = higher s t m.profile leads m.ancestor; missing = m.missing }

  missing_by : (n : ℕ) → ((t : Seen) → line_within n ps t ≡ Err NoSuchProfile → IsMissing ps t)
      → (r : Result (Option Seen) ProfileFault) → above ps s ≡ r → (r >>= then_above (line_within n ps) s) ≡ Err NoSuchProfile → IsMissing ps s
  missing_by n known (Ok None) is e = absurd (differs (s ∷ []) NoSuchProfile e)
  missing_by n known (Ok (Some t)) is e = missing_behind t (line_within n ps t) (known t) is e
  missing_by n known (Err f) is e = let q : f ≡ NoSuchProfile = cc in record { profile = s; ancestor = itself s; missing = is ∙ ap Err q }

  on_behind : (n : ℕ) (t : Seen) (rest : Result (List Seen) ProfileFault) → (rest ≡ Err InheritsCycle → GoesOn ps n t) → InheritsFrom ps s t → (rest >>= (λ l. Ok (s ∷ l))) ≡ Err InheritsCycle → GoesOn ps (suc n) s
  on_behind n t (Ok l) known leads e = absurd (differs (s ∷ l) InheritsCycle e)
  on_behind n t (Err f) known leads e = let q : f ≡ InheritsCycle = cc in step n s t leads (known (ap Err q))

  on_by : (n : ℕ) → ((t : Seen) → line_within n ps t ≡ Err InheritsCycle → GoesOn ps n t)
      → (r : Result (Option Seen) ProfileFault) → above ps s ≡ r → (r >>= then_above (line_within n ps) s) ≡ Err InheritsCycle → GoesOn ps (suc n) s
  on_by n known (Ok None) is e = absurd (differs (s ∷ []) InheritsCycle e)
  on_by n known (Ok (Some t)) is e = on_behind n t (line_within n ps t) (known t) is e
  on_by n known (Err f) is e = let q : f ≡ InheritsCycle = cc in absurd (above_tells (is ∙ ap Err q))

module _ (ps : List Profile) where
  pub is_line : (n : ℕ) (s : Seen) (line : List Seen) → line_within n ps s ≡ Ok line → IsLine ps s line
  is_line zero s line e = absurd (differs line InheritsCycle (sym e))
  is_line (suc n) s line e = line_by ps s n line (λ t l q. is_line n t l q) (above ps s) refl e

  pub is_missing : (n : ℕ) (s : Seen) → line_within n ps s ≡ Err NoSuchProfile → IsMissing ps s
  is_missing zero s e = cc
  is_missing (suc n) s e = missing_by ps s n (λ t q. is_missing n t q) (above ps s) refl e

  pub goes_on : (n : ℕ) (s : Seen) → line_within n ps s ≡ Err InheritsCycle → GoesOn ps n s
  goes_on zero s e = here s
  goes_on (suc n) s e = on_by ps s n (λ t q. goes_on n t q) (above ps s) refl e
