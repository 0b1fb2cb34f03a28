-- A line that has no end comes back to where it was: there are more steps than profiles to leave.
use Rattle.std.proofs.Common.{◌≡◌, ◌⊎◌, inl, inr, ℕ, zero, suc, ◌≤◌, Bool, true, false, ◌||◌, List, [], ◌∷◌, Option, Some, None, Result, Ok, Err, refl, sym, ◌∙◌, ap, subst, codes, if◌then◌else◌, length, map, arith}
use Rattle.std.specs.List.{IsDistinct, AllByRecursion, list_any}
use Rattle.std.specs.Option.{option_map}
use Rattle.std.specs.Set.{is_member}
use Rattle.std.specs.Str.{bytes_eq}
use Rattle.std.proofs.lemmas.Bool.{false≢true}
use Rattle.std.proofs.lemmas.Cmp.{nat_list_eq_equiv}
use Rattle.std.proofs.lemmas.List.{length-map}
use Rattle.std.proofs.lemmas.Map.Made.{length-le_from_is_member}
use Rattle.std.proofs.lemmas.Option.{none-some}
use Rattle.std.proofs.lemmas.Slice.Eq.{bytes_eq-Decides}
use Rattle.pb_data.specs.UnlessOom.{◌>>=◌}
use Rattle.pb_manifest_types.specs.declared.profile.Profile.{Profile}
use Rattle.pb_profile.specs.declared.fault.ProfileFault.{ProfileFault}
use Rattle.pb_profile.specs.Line.{Seen, seen_at, named, parent_of, custom_parent, is_either, above}
use Rattle.pb_profile.specs.Laws.{InheritsFrom, IsAncestor, itself, higher, ComesBack}
use Rattle.pb_profile.proofs.Lines.{GoesOn, step}

-- the names of the written profiles
abbrev names_of : List Profile → List (List ℕ)
names_of ps = map (λ (p : Profile). p.name) ps

or_second : (a b : Bool) → b ≡ true → (a || b) ≡ true
or_second true b is = refl
or_second false b is = is

-- a profile that is found has its name among the names
is_named : (ps : List Profile) (name : List ℕ) (x : Profile) → named ps name ≡ Some x → is_member bytes_eq (names_of ps) name ≡ true
is_named [] name x e = absurd (none-some x e)
is_named (p ∷ ps) name x e = by (bytes_eq p.name name) refl (λ q. is_named ps name x q) e
  where
    by : (r : Bool) → bytes_eq p.name name ≡ r → (named ps name ≡ Some x → is_member bytes_eq (names_of ps) name ≡ true)
        → (if r then Some p else named ps name) ≡ Some x → (bytes_eq name p.name || is_member bytes_eq (names_of ps) name) ≡ true
    by true same rest q = rw ((bytes_eq-Decides name p.name).1 (sym ((bytes_eq-Decides p.name name).0 same))) refl
    by false other rest q = or_second (bytes_eq name p.name) (is_member bytes_eq (names_of ps) name) (rest q)

module _ (ps : List Profile) where
  -- what a profile inherits from is looked up by its name
  parent_shown : (t : Seen) (r : Result (Option (List ℕ)) ProfileFault) → (r >>= (λ parent. Ok (option_map (seen_at ps) parent))) ≡ Ok (Some t) → t ≡ seen_at ps t.name
  parent_shown t (Ok None) e = cc
  parent_shown t (Ok (Some parent)) e = let q : seen_at ps parent ≡ t = cc in subst (λ u. u ≡ seen_at ps u.name) q refl
  parent_shown t (Err f) e = cc

  looked_up_at : (s t : Seen) → InheritsFrom ps s t → t ≡ seen_at ps t.name
  looked_up_at s t inherits = parent_shown t (parent_of s) inherits

  -- nothing stands above `dev`
  no_more : (s t : Seen) → above ps s ≡ Ok None → InheritsFrom ps s t → ⊥
  no_more s t ends inherits = cc

  one_of : (s t : Seen) (made : Result (Option Seen) ProfileFault) → made ≡ Ok (Some s) → made ≡ Ok (Some t) → s ≡ t
  one_of s t made is was = cc

  ends_at_dev : (t u : Seen) (made : Result (Option Seen) ProfileFault) → made ≡ Ok (Some (seen_at ps (codes "dev"))) → made ≡ Ok (Some t) → InheritsFrom ps t u → ⊥
  ends_at_dev t u made is was inherits = no_more (seen_at ps (codes "dev")) u refl (subst (λ x. InheritsFrom ps x u) (sym (one_of (seen_at ps (codes "dev")) t made is was)) inherits)

  ends_at_release : (t u : Seen) (made : Result (Option Seen) ProfileFault) → made ≡ Ok (Some (seen_at ps (codes "release"))) → made ≡ Ok (Some t) → InheritsFrom ps t u → ⊥
  ends_at_release t u made is was inherits = no_more (seen_at ps (codes "release")) u refl (subst (λ x. InheritsFrom ps x u) (sym (one_of (seen_at ps (codes "release")) t made is was)) inherits)

  has_table : (s : Seen) (t : Seen) (table : Option Profile) → named ps s.name ≡ table → (custom_parent table >>= (λ parent. Ok (option_map (seen_at ps) parent))) ≡ Ok (Some t) → is_member bytes_eq (names_of ps) s.name ≡ true
  has_table s t None is e = cc
  has_table s t (Some x) is e = is_named ps s.name x is

  -- of three profiles in a row the first is a written one
  choice_written : (s t u : Seen) (a b c : Bool) → s ≡ seen_at ps s.name
      → ((if a then Ok None else (if b then Ok (Some (codes "dev")) else (if c then Ok (Some (codes "release")) else custom_parent s.table))) >>= (λ parent. Ok (option_map (seen_at ps) parent))) ≡ Ok (Some t)
      → InheritsFrom ps t u → is_member bytes_eq (names_of ps) s.name ≡ true
  choice_written s t u true b c is e more = cc
  choice_written s t u false true c is e more = absurd (ends_at_dev t u _ refl e more)
  choice_written s t u false false true is e more = absurd (ends_at_release t u _ refl e more)
  choice_written s t u false false false is e more = has_table s t s.table (sym (ap (λ (x : Seen). x.table) is)) e

  is_written : (s t u : Seen) → s ≡ seen_at ps s.name → InheritsFrom ps s t → InheritsFrom ps t u → is_member bytes_eq (names_of ps) s.name ≡ true
  is_written s t u is inherits more =
      choice_written s t u (is_either (codes "dev") (codes "release") s.name) (bytes_eq s.name (codes "test")) (bytes_eq s.name (codes "bench")) is inherits more

  -- the names that a line leaves, but for the last
  abbrev left : (n : ℕ) (s : Seen) → GoesOn ps (suc n) s → List (List ℕ)
  left zero s on = []
  left (suc n) s (step _ _ t inherits more) = s.name ∷ left n t more

  left_count : (n : ℕ) (s : Seen) (on : GoesOn ps (suc n) s) → length (left n s on) ≡ n
  left_count zero s on = refl
  left_count (suc n) s (step _ _ t inherits more) = ap suc (left_count n t more)

  or_is : (a b : Bool) → (a || b) ≡ true → (a ≡ true) ⊎ (b ≡ true)
  or_is true b e = inl refl
  or_is false b e = inr e

  -- a name that a line leaves is that of a profile in it
  met : (n : ℕ) (s : Seen) (on : GoesOn ps (suc n) s) (name : List ℕ) → s ≡ seen_at ps s.name → list_any (bytes_eq name) (left n s on) ≡ true → IsAncestor ps s (seen_at ps name)
  met zero s on name is e = absurd (false≢true e)
  met (suc n) s (step _ _ t inherits more) name is e = elim (or_is (bytes_eq name s.name) (list_any (bytes_eq name) (left n t more)) e) [
    | inl same ↦ subst (λ u. IsAncestor ps s u) (is ∙ ap (seen_at ps) (sym ((bytes_eq-Decides name s.name).0 same))) (itself s)
    | inr later ↦ higher s t (seen_at ps name) inherits (met n t more name (looked_up_at s t inherits) later)
  ]

  -- a name is apart from others, or among them
  apart_or_there : (name : List ℕ) (names : List (List ℕ)) → (AllByRecursion (λ y. bytes_eq name y ≡ false) names) ⊎ (list_any (bytes_eq name) names ≡ true)
  apart_or_there name [] = inl tt
  apart_or_there name (x ∷ names) = by (bytes_eq name x) refl (apart_or_there name names)
    where
      by : (r : Bool) → bytes_eq name x ≡ r → (AllByRecursion (λ y. bytes_eq name y ≡ false) names) ⊎ (list_any (bytes_eq name) names ≡ true)
          → (AllByRecursion (λ y. bytes_eq name y ≡ false) (x ∷ names)) ⊎ (list_any (bytes_eq name) (x ∷ names) ≡ true)
      by true is rest = inr (rw is refl)
      by false is (inl apart) = inl (is, apart)
      by false is (inr there) = inr (rw (is, there) refl)

  higher_ring : (s t : Seen) → InheritsFrom ps s t → ComesBack ps t → ComesBack ps s
  higher_ring s t inherits c = record { profile = c.profile; ancestor = higher s t c.profile inherits c.ancestor; next = c.next; inherits = c.inherits; back = c.back }

  -- a line leaves names of which no two are equal, or it comes back
  apart_or_back : (n : ℕ) (s : Seen) (on : GoesOn ps (suc n) s) → s ≡ seen_at ps s.name → IsDistinct bytes_eq (left n s on) ⊎ ComesBack ps s
  unfolding IsDistinct
  apart_or_back zero s on is = inl tt
  apart_or_back (suc n) s (step _ _ t inherits more) is = elim (apart_or_there s.name (left n t more)) [
    | inr there ↦ inr (record { profile = s; ancestor = itself s; next = t; inherits = inherits; back = subst (λ u. IsAncestor ps t u) (sym is) (met n t more s.name (looked_up_at s t inherits) there) })
    | inl apart ↦ elim (apart_or_back n t more (looked_up_at s t inherits)) [
      | inl rest ↦ inl (apart, rest)
      | inr back ↦ inr (higher_ring s t inherits back)
    ]
  ]

  -- what inherits from something
  first_two : (n : ℕ) (s t : Seen) → s ≡ seen_at ps s.name → InheritsFrom ps s t → GoesOn ps (suc n) t → is_member bytes_eq (names_of ps) s.name ≡ true
  first_two n s t is inherits (step _ _ u more rest) = is_written s t u is inherits more

  -- all but the last profile that a line leaves, and the one before it, are written
  all_written : (n : ℕ) (s : Seen) (on : GoesOn ps (suc n) s) → s ≡ seen_at ps s.name → (name : List ℕ) → list_any (bytes_eq name) (left n s on) ≡ true → is_member bytes_eq (names_of ps) name ≡ true
  all_written zero s on is name e = absurd (false≢true e)
  all_written (suc n) s (step _ _ t inherits more) is name e = elim (or_is (bytes_eq name s.name) (list_any (bytes_eq name) (left n t more)) e) [
    | inl same ↦ subst (λ x. is_member bytes_eq (names_of ps) x ≡ true) (sym ((bytes_eq-Decides name s.name).0 same)) (first_two n s t is inherits more)
    | inr later ↦ all_written n t more (looked_up_at s t inherits) name later
  ]

  too_many : (n : ℕ) (names : List (List ℕ)) → length names ≡ suc n → length names ≤ n → ⊥
  too_many n names is le = omega arith

  -- more steps than profiles: the line comes back
  pub comes_back : (s : Seen) → s ≡ seen_at ps s.name → GoesOn ps (suc (suc (length ps))) s → ComesBack ps s
  comes_back s is on = elim (apart_or_back (suc (length ps)) s on is) [
    | inl apart ↦ absurd (too_many (length ps) (left (suc (length ps)) s on) (left_count (suc (length ps)) s on)
        (subst (λ k. length (left (suc (length ps)) s on) ≤ k) (length-map ps (λ (p : Profile). p.name)) (length-le_from_is_member nat_list_eq_equiv (left (suc (length ps)) s on) (names_of ps) apart (all_written (suc (length ps)) s on is))))
    | inr back ↦ back
  ]
